-- Runs written as a start reading and a list of waits; where a run goes on whole ticks, a test whether its windows hold. Assumes nothing.
use Rattle.std.proofs.Common.{ℕ, zero, suc, Bool, true, false, ◌&&◌, T, List, [], ◌∷◌, map, get_or, ℤ, pos, arith}
use lib.Signed.{le_z, lt_z, le_z_yes}
use borrow.Author.Differences.{ints}
use Rattle.bound.specs.Differences.{Differences, Less, Ordered, zero_of}
use Rattle.bound.specs.Ticks.{ticks}
use Rattle.bound.specs.Groups.{≈-refl}
use Rattle.bound.specs.Ticking.{lawful}
use Rattle.chart.specs.Lists.{All}
use Rattle.chart.specs.declared.types.Sign.{Sign}
use Rattle.chart.specs.declared.types.Sign.TheVariants.{AtMost, Under, AtLeast, Over, Equal}
use Rattle.chart.specs.declared.types.Window.{Window}
use Rattle.chart.specs.Charts.{Chart, restarts_timer}
use Rattle.runs.specs.Runs.{Reading, reads, Lawful, StandsSo, Holds, grown, restarted, Goes, Run}
use Rattle.runs.proofs.Timers.{equal_refl}
use Rattle.runs.proofs.ChainCodes.{both}

-- ── For every kind ──

module _ (D : Differences) where
  -- where the waits lead
  abbrev pub end_by : Chart → Reading D → List D.Diff → Reading D
  end_by [] σ ws = σ
  end_by (m ∷ ms) σ [] = σ
  end_by (m ∷ ms) σ (w ∷ ws) = end_by ms (restarted D (restarts_timer m) (grown D σ w)) ws

  abbrev pub time_by : Chart → List D.Diff → D.Diff
  time_by [] ws = zero_of D
  time_by (m ∷ ms) [] = zero_of D
  time_by (m ∷ ms) (w ∷ ws) = D.add w (time_by ms ws)

  -- there is a wait of at least 0 for each motion, after which its windows hold
  abbrev pub Passes : Chart → Reading D → List D.Diff → Type 0
  Passes [] σ ws = Unit {0}
  Passes (m ∷ ms) σ [] = ⊥
  Passes (m ∷ ms) σ (w ∷ ws) = D.le (zero_of D) w × All (Holds D (grown D σ w)) m.windows × Passes ms (restarted D (restarts_timer m) (grown D σ w)) ws

  abbrev pub goes_by : (o : Ordered D) (n : ℕ) (c : Chart) (σ : Reading D) (ws : List D.Diff) → Passes c σ ws → Goes D n c σ (time_by c ws) (end_by c σ ws)
  goes_by o n [] σ ws h = (equal_refl o n σ, ≈-refl o (zero_of D))
  goes_by o n (m ∷ ms) σ [] h = absurd h
  goes_by o n (m ∷ ms) σ (w ∷ ws) (some, held, rest) =
      (w, time_by ms ws, some, held, ≈-refl o (D.add w (time_by ms ws)), goes_by o n ms (restarted D (restarts_timer m) (grown D σ w)) ws rest)

-- ── On whole ticks ──

-- the reading with these values of the timers 1, 2, ..
abbrev pub reading : List ℕ → Reading ticks
reading xs i = pos (get_or (0 ∷ xs) i 0)

pub reading_lawful : (n : ℕ) (xs : List ℕ) → Lawful ticks n (reading xs)
reading_lawful n xs zero h = le_z_yes tt
reading_lawful n xs (suc i) h = omega (arith, ints)

abbrev stands_test : Sign → ℤ → ℤ → Bool
stands_test AtMost v c = le_z v c
stands_test Under v c = lt_z v c
stands_test AtLeast v c = le_z c v
stands_test Over v c = lt_z c v
stands_test Equal v c = le_z v c && le_z c v

less : (a b : ℤ) → T (lt_z a b) → Less ticks a b
less a b h = (omega (arith, ints), λ k. omega (arith, ints))

stands_so : (s : Sign) (v c : ℤ) → T (stands_test s v c) → StandsSo ticks s v c
stands_so AtMost v c h = le_z_yes h
stands_so Under v c h = less v c h
stands_so AtLeast v c h = le_z_yes h
stands_so Over v c h = less c v h
stands_so Equal v c h = let (p, q) = both (le_z v c) (le_z c v) h in (le_z_yes p, le_z_yes q)

abbrev holds_all : Reading ticks → List Window → Bool
holds_all ρ [] = true
holds_all ρ (w ∷ ws) = stands_test w.sign (reads ticks ρ w.timer) (pos w.number) && holds_all ρ ws

all_hold : (ρ : Reading ticks) (ws : List Window) → T (holds_all ρ ws) → All (Holds ticks ρ) ws
all_hold ρ [] h = tt
all_hold ρ (w ∷ ws) h =
    let (p, q) = both (stands_test w.sign (reads ticks ρ w.timer) (pos w.number)) (holds_all ρ ws) h in
    (stands_so w.sign (reads ticks ρ w.timer) (pos w.number) p, all_hold ρ ws q)

-- whether there is a wait for each motion after which its windows hold
abbrev pub passes : Chart → Reading ticks → List ℕ → Bool
passes [] σ ws = true
passes (m ∷ ms) σ [] = false
passes (m ∷ ms) σ (w ∷ ws) = holds_all (grown ticks σ (pos w)) m.windows && passes ms (restarted ticks (restarts_timer m) (grown ticks σ (pos w))) ws

pub passes_by : (c : Chart) (σ : Reading ticks) (ws : List ℕ) → T (passes c σ ws) → Passes ticks c σ (map pos ws)
passes_by [] σ ws h = tt
passes_by (m ∷ ms) σ [] h = absurd h
passes_by (m ∷ ms) σ (w ∷ ws) h =
    let (p, q) = both (holds_all (grown ticks σ (pos w)) m.windows) _ h in
    (omega (arith, ints), all_hold (grown ticks σ (pos w)) m.windows p, passes_by ms (restarted ticks (restarts_timer m) (grown ticks σ (pos w))) ws q)

-- RUN: from a reading, by waits that pass.
pub run_by : (n : ℕ) (c : Chart) (xs ws : List ℕ) → T (passes c (reading xs) ws)
    → Run ticks n c (reading xs) (time_by ticks c (map pos ws)) (end_by ticks c (reading xs) (map pos ws))
run_by n c xs ws h = (reading_lawful n xs, goes_by ticks lawful.ordered n c (reading xs) (map pos ws) (passes_by c (reading xs) ws h))
