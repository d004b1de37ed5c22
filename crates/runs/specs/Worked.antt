-- Charts worked through: their limits, the time they take, which of them run and which is within which. Assumes nothing.
use Rattle.std.specs.Prelude.{◌≡◌, ℕ, zero, suc, ◌+◌, Bool, true, false, T, List, [], ◌∷◌, ◌++◌, pos, neg_ℤ, nat_le}
use Rattle.std.proofs.Common.{lit≤}
use Rattle.bound.specs.Differences.{Differences}
use Rattle.bound.specs.Meaning.{Meaning}
use Rattle.bound.specs.Ticks.{ticks, tick_meaning}
use Rattle.bound.specs.Edges.{fractions, edge_meaning}
use Rattle.bound.specs.declared.tick.Tick.{Tick}
use Rattle.bound.specs.declared.tick.Tick.TheVariants as tick
use Rattle.bound.specs.declared.edge.Edge.{Edge}
use Rattle.bound.specs.declared.edge.Edge.TheVariants as edge
use Rattle.bound.specs.declared.edge.Mark.TheVariants as mark
use Rattle.chart.specs.Lists.{All}
use Rattle.chart.specs.declared.types.Sign.{Sign}
use Rattle.chart.specs.declared.types.Sign.TheVariants.{AtMost, Under, AtLeast, Over}
use Rattle.chart.specs.declared.types.Window.{Window}
use Rattle.chart.specs.Charts.{Motion, Chart}
use Rattle.runs.specs.Runs.{Reading, Joins, HasRun}
use Rattle.runs.specs.Graph.{node, Tightest, Never}
use Rattle.runs.specs.Limits.{Name, NameOf, Before, Sharp}

-- ── The charts ──

-- a window on timer 1
abbrev one : Sign → (number : ℕ) → T (nat_le number 1000000000) → Window
one s c h = record { timer = 1; sign = s; number = c; some = lit≤ tt; most = lit≤ tt; range = lit≤ h }

-- a window on timer 2
abbrev two : Sign → (number : ℕ) → T (nat_le number 1000000000) → Window
two s c h = record { timer = 2; sign = s; number = c; some = lit≤ tt; most = lit≤ tt; range = lit≤ h }

abbrev motion : List Window → (restarts : ℕ) → Motion
motion ws r = record { windows = ws; restarts = r }

abbrev pub empty : Chart
empty = []

-- one motion with no windows and no restarts
abbrev pub plain_wait : Chart
plain_wait = motion [] 0 ∷ []

-- timer 1 ≤ 5, restarts 1; then timer 1 ≥ 3
abbrev pub five_then_three : Chart
five_then_three = motion (one AtMost 5 tt ∷ []) 1 ∷ motion (one AtLeast 3 tt ∷ []) 0 ∷ []

-- timer 1 ≥ 3; then timer 1 ≤ 2
abbrev pub three_then_two : Chart
three_then_two = motion (one AtLeast 3 tt ∷ []) 0 ∷ motion (one AtMost 2 tt ∷ []) 0 ∷ []

-- timer 1 < 0
abbrev pub under_nought : Chart
under_nought = motion (one Under 0 tt ∷ []) 0 ∷ []

-- timer 1 > 2 and timer 1 < 3 in one motion
abbrev pub two_to_three : Chart
two_to_three = motion (one Over 2 tt ∷ one Under 3 tt ∷ []) 0 ∷ []

-- two timers: timer 1 ≤ 7, restarts 1; then timer 2 ≥ 9, restarts 2
abbrev pub one_round : Chart
one_round = motion (one AtMost 7 tt ∷ []) 1 ∷ motion (two AtLeast 9 tt ∷ []) 2 ∷ []

-- rounds one after another
abbrev pub rounds : ℕ → Chart
rounds zero = []
rounds (suc k) = one_round ++ rounds k

-- ── What is claimed of them ──

-- a closed chain does not allow 0, and there is no run
abbrev pub NeverRuns : Differences → ℕ → Chart → Type 0
NeverRuns D n c = Never D n c × (HasRun D n c → ⊥)

-- every pair of readings that the first chart joins, the second joins
abbrev pub ChartWithin : Differences → ℕ → Chart → Chart → Type 0
ChartWithin D n c c' = (σ ε : Reading D) → Joins D n c σ ε → Joins D n c' σ ε

-- sharp bounds of two charts under one name, and whether the first's is tighter
abbrev pub Compared : {B : Type 0} (m : Meaning B) → ℕ → Chart → Chart → Name → Bool → Type 0
Compared {B} m n c c' l answer = (b : B) × (b' : B) × Sharp m n c l b × Sharp m n c' l b' × (m.tighter b b' ≡ answer)

-- the first chart's limits are tighter under every name before l, and not under l
pub record ChartFailsFirst {B : Type 0} (m : Meaning B) (n : ℕ) (c c' : Chart) (l : Name) : Type 0 where
  pub named : NameOf n l
  pub before : (k : Name) → NameOf n k → Before k l → Compared m n c c' k true
  pub here : Compared m n c c' l false

-- the bound at place (u, v) of the chart's normalised table
abbrev pub PlaceIs : {B : Type 0} (m : Meaning B) → ℕ → Chart → ℕ → ℕ → B → Type 0
PlaceIs m n c u v bound = Tightest m.differences n c (node n c u) (node n c v) (m.allows bound)

-- the bounds on a run's time and on the negated time: places (n + 1, 0) and (0, n + 1)
abbrev pub SpanIs : {B : Type 0} (m : Meaning B) → ℕ → Chart → B → B → Type 0
SpanIs m n c time negated = PlaceIs m n c (n + 1) 0 time × PlaceIs m n c 0 (n + 1) negated

abbrev pub name : (a b c d : ℕ) → Name
name a b c d = record { a = a; b = b; c = c; d = d }

abbrev pub at_most : ℕ → Tick
at_most c = tick.AtMost (pos c)

-- at most −c
abbrev pub at_most_minus : ℕ → Tick
at_most_minus c = tick.AtMost (neg_ℤ (pos c))

abbrev pub under_three : Edge
under_three = edge.Number mark.Under (pos 3)

-- ── The claims ──

abbrev pub worked : List (Type 0)
worked =
    Sharp tick_meaning 1 empty (name 1 0 0 1) (at_most 0)
    ∷ ChartWithin ticks 1 empty plain_wait
    ∷ ChartFailsFirst tick_meaning 1 plain_wait empty (name 0 1 1 0)
    ∷ Sharp tick_meaning 1 five_then_three (name 1 0 0 0) (at_most 5)
    ∷ Sharp tick_meaning 1 five_then_three (name 0 0 0 1) (at_most_minus 3)
    ∷ Sharp tick_meaning 1 five_then_three (name 1 0 0 1) (at_most 2)
    ∷ SpanIs tick_meaning 1 five_then_three tick.Open (at_most_minus 3)
    ∷ NeverRuns ticks 1 three_then_two
    ∷ NeverRuns ticks 1 under_nought
    ∷ NeverRuns fractions 1 under_nought
    ∷ NeverRuns ticks 1 two_to_three
    ∷ HasRun fractions 1 two_to_three
    ∷ Sharp edge_meaning 1 two_to_three (name 0 0 1 0) under_three
    ∷ Sharp tick_meaning 2 (rounds 1) (name 1 2 0 1) (at_most_minus 2)
    ∷ Sharp tick_meaning 2 (rounds 2) (name 1 2 0 1) (at_most_minus 4)
    ∷ HasRun ticks 2 (rounds 5)
    ∷ NeverRuns ticks 2 (rounds 6)
    ∷ []

-- each of them holds
abbrev pub WorkedCharts : Type 0
WorkedCharts = All (λ claim. claim) worked
