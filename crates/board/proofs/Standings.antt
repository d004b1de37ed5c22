-- What a board's state says of what it stands for. Assumes nothing.
use Rattle.std.proofs.Common.{◌≡◌, List, sym, ◌∙◌, subst}
use Rattle.bound.specs.Meaning.{Meaning}
use Rattle.chart.specs.declared.types.Timers.{Timers}
use Rattle.chart.specs.Charts.{Chart}
use Rattle.runs.specs.Graph as graph
use Rattle.table.specs.Finds.{ChartTable}
use Rattle.board.specs.declared.header.Header.{Header}
use Rattle.board.specs.declared.header.State.{State}
use Rattle.board.specs.declared.header.State.TheVariants.{Blank, Runs, Never}
use Rattle.board.specs.Standing.{Standing, blank, charted}
use Rattle.board.specs.Holding.{StateIs, Holds, StandsFor}

module _ {B : Type 0} (m : Meaning B) (h : Header) (table : List B) where
  -- an opened board stands for a chart of its timers
  pub when_opened : (n : Timers) → h.timers ≡ n → (h.state ≡ Blank → ⊥) → (P : Standing → Type 0) → ((c : Chart) → Holds m h table n c → P (charted n c))
      → (s : Standing) → StandsFor m h table s → P s
  when_opened n e ne P p blank st = absurd (ne st)
  when_opened n e ne P p (charted k c) st = subst (λ (x : Timers). (Holds m h table x c → P (charted x c))) (sym e ∙ st.timers) (p c) st

  module _ (n : Timers) (c : Chart) (holds : Holds m h table n c) where
    pub has_table : h.state ≡ Runs → ChartTable m n.count c table
    has_table e = subst (λ (x : State). StateIs m x n c table) e holds.state

    pub has_chain : h.state ≡ Never → graph.Never m.differences n.count c
    has_chain e = subst (λ (x : State). StateIs m x n c table) e holds.state
