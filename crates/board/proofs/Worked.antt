-- What is found where a chart is not worked on, and what a work table holds after the working. Assumes nothing.
use Rattle.std.proofs.Common.{◌≡◌, ℕ, ◌<◌, List, ◌++◌, refl, ◌∙◌, arith}
use Rattle.bound.specs.Meaning.{Meaning}
use Rattle.chart.specs.declared.types.Timers.{Timers}
use Rattle.chart.specs.Charts.{Chart}
use Rattle.runs.specs.Graph as graph
use Rattle.runs.proofs.Embed.{never_first, never_last}
use Rattle.table.specs.Cells.{at, Beyond}
use Rattle.board.specs.declared.header.State.{State}
use Rattle.board.specs.declared.header.State.TheVariants.{Blank, Runs, Never}
use Rattle.board.specs.Left.{Cleared}
use Rattle.board.specs.Holding.{StateIs}

module _ {B : Type 0} (m : Meaning B) (n : Timers) (c d : Chart) (table : List B) where
  -- a chart that does not run goes on not to run
  pub first_never : (s : State) → (s ≡ Runs → ⊥) → StateIs m s n c table → graph.Never m.differences n.count (c ++ d)
  first_never Blank ne is = absurd is
  first_never Runs ne is = absurd (ne refl)
  first_never Never ne is = never_first m.differences c d is

  pub last_never : (s : State) → (s ≡ Runs → ⊥) → StateIs m s n d table → graph.Never m.differences n.count (c ++ d)
  last_never Blank ne is = absurd is
  last_never Runs ne is = absurd (ne refl)
  last_never Never ne is = never_last m.differences c d is

-- what was lent is cleared
pub cleared : {B : Type 0} (m : Meaning B) (count size : ℕ) (before worked after : List B) → size ≡ count → Beyond m count before worked
    → ((i : ℕ) → i < size → at m after i ≡ m.opened) → Beyond m size worked after → Cleared m count before after
cleared m count size before worked after e lent opens beyond = record { opened = λ i h. opens i (omega arith); others = λ i h. beyond i (omega arith) ∙ lent i h }
