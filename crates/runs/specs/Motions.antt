-- What the working of a motion does to a table: the bounds that its windows write, their spread to the new now, and the new names. Assumes nothing.
use Rattle.std.specs.Prelude.{◌≡◌, ℕ, suc, ◌+◌, ◌-◌, ◌<◌, ◌≤◌, Bool, cond, ◌↔◌, List, pos, neg_ℤ, nat_le}
use Rattle.bound.specs.Differences.{Differences, zero_of}
use Rattle.bound.specs.Meaning.{Stands}
use Rattle.runs.specs.Lists.{At}
use Rattle.chart.specs.declared.types.Sign.{Sign}
use Rattle.chart.specs.declared.types.Window.{Window}
use Rattle.chart.specs.Charts.{Motion, restarts_timer}
use Rattle.runs.specs.Graph.{UpperSign, LowerSign}
use Rattle.runs.specs.Tables.{Set, Table, Sum, TightestOf}

-- a window of the list on timer i that writes a bound of one side, upper or lower
pub record Writing (Side : Sign → Bool → Type 0) (ws : List Window) (i : ℕ) : Type 0 where
  pub place : ℕ
  pub window : Window
  pub strict : Bool
  pub at : At ws place window
  pub on : window.timer ≡ i
  pub side : Side window.sign strict

-- The bounds between the dates at the old end and the new now: `into i` of date i less the new now, `onward i` of the new now less date i.
-- The wait gives the first of date 0, which was now; lower windows the first of a timer's date, and upper ones the second.
pub record MotionBounds (D : Differences) (n : ℕ) (motion : Motion) (into onward : ℕ → Set D) : Type 0 where
  pub wait : (d : D.Diff) → into 0 d ↔ D.le d (zero_of D)
  pub lowers : (i : ℕ) → 1 ≤ i → i ≤ n
      → TightestOf D {I = Writing LowerSign motion.windows i} (λ w d. Stands D w.strict d (neg_ℤ (pos w.window.number))) (into i)
  pub uppers : (i : ℕ) → 1 ≤ i → i ≤ n
      → TightestOf D {I = Writing UpperSign motion.windows i} (λ w d. Stands D w.strict d (pos w.window.number)) (onward i)

-- W is the table T with the new now, node 2n + 2: what the bounds say of it by way of the end nodes.
pub record Spread (D : Differences) (n : ℕ) (T : Table D) (into onward : ℕ → Set D) (W : Table D) : Type 0 where
  pub old : (u v : ℕ) → u < suc n + suc n → v < suc n + suc n → (d : D.Diff) → W u v d ↔ T u v d
  pub toward_new : (u : ℕ) → u < suc n + suc n
      → TightestOf D {I = (i : ℕ) × (i ≤ n)} (λ i. Sum D (T u (suc n + i.0)) (into i.0)) (W u (suc n + suc n))
  pub out_of_new : (v : ℕ) → v < suc n + suc n
      → TightestOf D {I = (i : ℕ) × (1 ≤ i) × (i ≤ n)} (λ i. Sum D (onward i.0) (T (suc n + i.0) v)) (W (suc n + suc n) v)
  pub self : (d : D.Diff) → W (suc n + suc n) (suc n + suc n) d ↔ D.le d (zero_of D)

-- The new names: the start stays, the new node is now at the end, and so is the date of a restarted timer.
pub record MotionNames (n : ℕ) (motion : Motion) (name : ℕ → ℕ) : Type 0 where
  pub stays : (u : ℕ) → u < suc n → name u ≡ u
  pub now : name (suc n + 0) ≡ suc n + suc n
  pub timers : (i : ℕ) → 1 ≤ i → i ≤ n → name (suc n + i) ≡ cond (restarts_timer motion i) (suc n + suc n) (suc n + i)

-- names that do so
abbrev pub motion_name : ℕ → Motion → ℕ → ℕ
motion_name n motion u = cond (nat_le u n) u (cond (nat_le u (n + 1)) (suc n + suc n) (cond (restarts_timer motion (u - (n + 1))) (suc n + suc n) u))
