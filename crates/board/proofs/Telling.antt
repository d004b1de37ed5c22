-- What the calls that change nothing tell of the charts that boards stand for. Assumes nothing.
use Rattle.std.proofs.Common.{◌≡◌, ℕ, ◌+◌, ◌*◌, false, List, length, Some, None, Ok, Err, Option, sym, refl, ap, ◌∙◌, subst, inl, inr, arith}
use Rattle.std.proofs.lemmas.Bool.{false≢true}
use Rattle.bound.specs.Meaning.{Meaning, Laws}
use Rattle.chart.specs.declared.types.Timers.{Timers}
use Rattle.chart.specs.Charts.{Chart}
use Rattle.faults.specs.declared.types.BoardFault.{BoardFault}
use Rattle.faults.specs.declared.types.BoardFault.TheVariants as fault
use Rattle.runs.specs.Runs.{HasRun}
use Rattle.runs.specs.Graph as graph
use Rattle.runs.specs.Graph.{node, Tightest}
use Rattle.runs.specs.Limits.{Name, NameOf}
use Rattle.runs.specs.Normal.{table_of, IsLimit}
use Rattle.runs.proofs.Chains.{never_runs, never_within}
use Rattle.runs.proofs.GoodRuns.{time_kept}
use Rattle.runs.proofs.Theorems.{tells, decides}
use Rattle.table.specs.Cells.{cell, Small}
use Rattle.table.specs.Compared.{limit_at, FoundFirst}
use Rattle.table.specs.Finds.{ChartTable}
use Rattle.table.proofs.TighterPlaces.{limit_at_is, parts}
use Rattle.board.specs.declared.header.Header.{Header}
use Rattle.board.specs.declared.header.State.{State}
use Rattle.board.specs.declared.header.State.TheVariants.{Blank, Runs, Never}
use Rattle.board.specs.Standing.{Standing, blank, charted}
use Rattle.board.specs.Calls.{no_limit, Compares, RunsIs, WithinIs, LimitIs, SpanIs, NoRun, NoPair}
use Rattle.board.specs.Holding.{Holds, StandsFor, TimersAre}
use Rattle.board.proofs.Standings.{when_opened, has_table, has_chain}

-- ── A chart's table ──

module _ {B : Type 0} (m : Meaning B) (laws : Laws m) (n : Timers) (c : Chart) (table : List B) (its : ChartTable m n.count c table) where
  pub limit_told : (l : Name) → NameOf n.count l → (bound : B) → IsLimit m n.count table l bound → LimitIs m (charted n c) l (Ok bound)
  limit_told l of bound is =
      inl (
        its.runs,
        inl (
          of,
          (
            bound,
            refl,
            record {
              table = table;
              normalised = its.normalised;
              told = is;
              sharp = (tells m laws n.count c table its.good).sharp l of bound is;
            },
          ),
        ),
      )

  pub span_told : (most least : B) → most ≡ cell m (2 * n.count + 2) table (n.count + 1) 0 → least ≡ cell m (2 * n.count + 2) table 0 (n.count + 1)
      → SpanIs m (charted n c) (Ok (most, least))
  span_told most least e f =
      inl (
        its.runs,
        (
          most,
          least,
          refl,
          record {
            above = subst (λ (x : B). Tightest m.differences n.count c (node n.count c (n.count + 1)) (node n.count c 0) (m.allows x)) (sym e) (its.normalised (n.count + 1) 0 (omega arith) (omega arith));
            below = subst (λ (x : B). Tightest m.differences n.count c (node n.count c 0) (node n.count c (n.count + 1)) (m.allows x)) (sym f) (its.normalised 0 (n.count + 1) (omega arith) (omega arith));
            kept = λ σ t ε run. let k = time_kept laws.ordered n.count c (table_of m n.count table) its.good σ t ε run in (
              subst (λ (x : B). m.allows x t) (sym e) (subst (λ (u : ℕ). table_of m n.count table u 0 t) (omega arith) k.0),
              subst (λ (x : B). m.allows x (m.differences.neg t)) (sym f) (subst (λ (u : ℕ). table_of m n.count table 0 u (m.differences.neg t)) (omega arith) k.1),
            );
          },
        ),
      )

-- ── A board ──

-- a state is not both
only_one : (s : State) → s ≡ Blank → s ≡ Never → ⊥
only_one s e f = cc

module _ {B : Type 0} (m : Meaning B) (laws : Laws m) (h : Header) (table : List B) where
  -- a chart with a closed chain that forbids 0 has no run
  no_run : (n : Timers) (c : Chart) → h.state ≡ Never → Holds m h table n c → HasRun m.differences n.count c → ⊥
  no_run n c e holds = never_runs laws.ordered (has_chain m h table n c holds e)

  pub runs_never : h.state ≡ Never → (s : Standing) → StandsFor m h table s → RunsIs m s (Ok false)
  runs_never e blank st = absurd (only_one h.state st e)
  runs_never e (charted n c) holds = (false, refl, (λ f. absurd (false≢true f), λ run. absurd (no_run n c e holds run)))

  pub never_refused : h.state ≡ Never → (s : Standing) → StandsFor m h table s → NoRun m s fault.Never
  never_refused e blank st = absurd (only_one h.state st e)
  never_refused e (charted n c) holds = (no_run n c e holds, refl)

  module _ (n : Timers) (are : TimersAre h (length table) (Ok n)) where
    pub limit_answered : h.state ≡ Runs → (l : Name) → NameOf n.count l → (bound : B) → (Small m (2 * n.count + 2) table → IsLimit m n.count table l bound)
        → (s : Standing) → StandsFor m h table s → LimitIs m s l (Ok bound)
    limit_answered e l of bound is =
        when_opened m h table n are.1 are.0 (λ s. LimitIs m s l (Ok bound)) (λ c holds.
        let its = has_table m h table n c holds e in
        limit_told m laws n c table its l of bound (is its.small))

    pub span_answered : h.state ≡ Runs → (most least : B) → most ≡ cell m (2 * n.count + 2) table (n.count + 1) 0 → least ≡ cell m (2 * n.count + 2) table 0 (n.count + 1)
        → (s : Standing) → StandsFor m h table s → SpanIs m s (Ok (most, least))
    span_answered e most least p q =
        when_opened m h table n are.1 are.0 (λ s. SpanIs m s (Ok (most, least))) (λ c holds.
        span_told m laws n c table (has_table m h table n c holds e) most least p q)

-- ── Two charts compared ──

module _ {B : Type 0} (m : Meaning B) (laws : Laws m) (n : ℕ) (c d : Chart) where
  pub never_compares : graph.Never m.differences n c → Compares m n c d None
  never_compares never = never_within laws.ordered never d

  pub against_never : HasRun m.differences n c → graph.Never m.differences n d → Compares m n c d (Some no_limit)
  against_never (σ, ε, j) never =
      let none = never_runs laws.ordered never in
      (λ within. none (σ, ε, within σ ε j), (σ, ε, j), inl (none, refl))

  module _ (table other : List B) (its : ChartTable m n c table) (its' : ChartTable m n d other) where
    is : (k : Name) → NameOf n k → IsLimit m n table k (limit_at m n table k)
    is k of = limit_at_is m laws n table its.small k (parts of)

    is' : (k : Name) → NameOf n k → IsLimit m n other k (limit_at m n other k)
    is' k of = limit_at_is m laws n other its'.small k (parts of)

    pub both_compare : (o : Option Name) → FoundFirst m n table other o → Compares m n c d o
    both_compare None all = (decides m laws n c d table other its.good its'.good (limit_at m n table) (limit_at m n other) is is').within.1 all
    both_compare (Some l) fails = (
      λ within. false≢true (sym fails.fails ∙ (decides m laws n c d table other its.good its'.good (limit_at m n table) (limit_at m n other) is is').within.0 within l fails.named),
      its.runs,
      inr (
        its'.runs,
        record {
          limit = limit_at m n table;
          other = limit_at m n other;
          sharp = λ k of. (tells m laws n c table its.good).sharp k of _ (is k of);
          other_sharp = λ k of. (tells m laws n d other its'.good).sharp k of _ (is' k of);
          first = fails;
        },
      ),
    )

pub within_refused : {B : Type 0} (m : Meaning B) (s t : Standing) (f : BoardFault) → NoPair s t f → WithinIs m s t (Err f)
within_refused m blank t f e = ap Err e
within_refused m (charted n c) blank f e = ap Err e
within_refused m (charted n c) (charted k d) f (ne, e) = inr (ne, ap Err e)

-- two opened boards of as many timers
module _ {B : Type 0} (m : Meaning B) (laws : Laws m) (h h' : Header) (table other : List B) (n k : Timers) (are : TimersAre h (length table) (Ok n)) (are' : TimersAre h' (length other) (Ok k))
    (same : n.count ≡ k.count) where
  compared : (answer : Option Name) → ((c d : Chart) → Holds m h table n c → Holds m h' other k d → Compares m n.count c d answer)
      → (s t : Standing) → StandsFor m h table s → StandsFor m h' other t → WithinIs m s t (Ok answer)
  compared answer so s t st st' =
      when_opened m h table n are.1 are.0 (λ x. WithinIs m x t (Ok answer))
      (λ c holds. when_opened m h' other k are'.1 are'.0 (λ y. WithinIs m (charted n c) y (Ok answer)) (λ d holds'. inl (same, (answer, refl, so c d holds holds'))) t st') s st

  pub within_never : h.state ≡ Never → (s t : Standing) → StandsFor m h table s → StandsFor m h' other t → WithinIs m s t (Ok None)
  within_never e = compared None (λ c d holds holds'. never_compares m laws n.count c d (has_chain m h table n c holds e))

  pub within_no_limit : h.state ≡ Runs → h'.state ≡ Never → (s t : Standing) → StandsFor m h table s → StandsFor m h' other t → WithinIs m s t (Ok (Some no_limit))
  within_no_limit e f =
      compared (Some no_limit) (λ c d holds holds'.
      against_never m laws n.count c d (has_table m h table n c holds e).runs (subst (λ (x : ℕ). graph.Never m.differences x d) (sym same) (has_chain m h' other k d holds' f)))

  pub within_told : h.state ≡ Runs → h'.state ≡ Runs → (o : Option Name)
      → (Small m (2 * n.count + 2) table → Small m (2 * n.count + 2) other → FoundFirst m n.count table other o)
      → (s t : Standing) → StandsFor m h table s → StandsFor m h' other t → WithinIs m s t (Ok o)
  within_told e f o found =
      compared o (λ c d holds holds'.
      let its = has_table m h table n c holds e in
      let its' = subst (λ (x : ℕ). ChartTable m x d other) (sym same) (has_table m h' other k d holds' f) in
      both_compare m laws n.count c d table other its its' o (found its.small its'.small))
