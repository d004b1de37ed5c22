-- What a run of a chart is, and which readings a chart joins. Assumes nothing.
use Rattle.std.specs.Prelude.{ℕ, zero, suc, ◌≤◌, Bool, cond, [], ◌∷◌, pos}
use Rattle.bound.specs.Differences.{Differences, Same, Less, zero_of}
use Rattle.chart.specs.Lists.{All}
use Rattle.chart.specs.declared.types.Sign.{Sign}
use Rattle.chart.specs.declared.types.Window.{Window}
use Rattle.chart.specs.Charts.{Chart, restarts_timer}
use Rattle.chart.specs.declared.types.Sign.TheVariants.{AtMost, Under, AtLeast, Over, Equal}

module _ (D : Differences) where
  -- each timer's value, by its number
  abbrev pub Reading : Type 0
  Reading = ℕ → D.Diff

  -- the value of a timer, where timer 0 is a name for the value 0; so nothing depends on what a reading says of 0
  abbrev pub reads : Reading → ℕ → D.Diff
  reads σ zero = zero_of D
  reads σ (suc i) = σ (suc i)

  -- every value is at least 0
  abbrev pub Lawful : ℕ → Reading → Type 0
  Lawful n σ = (i : ℕ) → i ≤ n → D.le (zero_of D) (reads σ i)

  abbrev pub SameReading : ℕ → Reading → Reading → Type 0
  SameReading n σ ε = (i : ℕ) → i ≤ n → Same D (reads σ i) (reads ε i)

  -- how a value stands to a number
  abbrev pub StandsSo : Sign → D.Diff → D.Diff → Type 0
  StandsSo AtMost v c = D.le v c
  StandsSo Under v c = Less D v c
  StandsSo AtLeast v c = D.le c v
  StandsSo Over v c = Less D c v
  StandsSo Equal v c = Same D v c

  abbrev pub Holds : Reading → Window → Type 0
  Holds ρ w = StandsSo w.sign (reads ρ w.timer) (D.whole (pos w.number))

  abbrev pub grown : Reading → D.Diff → Reading
  grown σ wait i = D.add (σ i) wait

  abbrev pub restarted : (ℕ → Bool) → Reading → Reading
  restarted r ρ i = cond (r i) (zero_of D) (ρ i)

  -- the chart takes one reading to another in the time t
  abbrev pub Goes : ℕ → Chart → Reading → D.Diff → Reading → Type 0
  Goes n [] σ t ε = SameReading n σ ε × Same D t (zero_of D)
  Goes n (m ∷ ms) σ t ε =
      (wait : D.Diff) × (rest : D.Diff) × D.le (zero_of D) wait × All (Holds (grown σ wait)) m.windows
      × Same D t (D.add wait rest) × Goes n ms (restarted (restarts_timer m) (grown σ wait)) rest ε

  -- a run from one reading to another, by its total time
  abbrev pub Run : ℕ → Chart → Reading → D.Diff → Reading → Type 0
  Run n c σ t ε = Lawful n σ × Goes n c σ t ε

  abbrev pub Joins : ℕ → Chart → Reading → Reading → Type 0
  Joins n c σ ε = (t : D.Diff) × Run n c σ t ε

  abbrev pub HasRun : ℕ → Chart → Type 0
  HasRun n c = (σ : Reading) × (ε : Reading) × Joins n c σ ε
