-- The constraint graph of a chart: the limits that it writes on dates, chains of limits, and the tightest chain. Assumes nothing.
use Rattle.std.specs.Prelude.{◌≡◌, ℕ, zero, suc, ◌+◌, ◌-◌, ◌≤◌, Bool, true, false, cond, ◌⊎◌, length, ℤ, pos, neg_ℤ, nat_le}
use Rattle.bound.specs.Differences.{Differences, Same, zero_of}
use Rattle.bound.specs.Meaning.{Stands}
use Rattle.runs.specs.Lists.{At}
use Rattle.chart.specs.declared.types.Sign.{Sign}
use Rattle.chart.specs.declared.types.Window.{Window}
use Rattle.chart.specs.Charts.{Motion, Chart, restarts_timer}
use Rattle.chart.specs.declared.types.Sign.TheVariants.{AtMost, Under, AtLeast, Over, Equal}

-- the start, and the moments after the wait and after the restarts of the motion at place j of the chart
pub data Moment : Type 0 where
  start : Moment
  after_wait : ℕ → Moment
  after_restarts : ℕ → Moment

-- the moment before the motion at place j; with the chart's length for j it is the end
abbrev pub before : ℕ → Moment
before zero = start
before (suc j) = after_restarts j

-- the moments of the chart
pub data MomentOf (c : Chart) : Moment → Type 0 where
  of_start : MomentOf c start
  of_wait : {j : ℕ} {m : Motion} → At c j m → MomentOf c (after_wait j)
  of_restarts : {j : ℕ} {m : Motion} → At c j m → MomentOf c (after_restarts j)

-- place 0 is now at the moment, and place i the date of timer i then
pub record Date : Type 0 where
  pub moment : Moment
  pub place : ℕ

abbrev pub date : Moment → ℕ → Date
date k i = record { moment = k; place = i }

-- date `from` less date `to` is at most (where strict: under) the number
pub record Limit : Type 0 where
  pub from : Date
  pub to : Date
  pub strict : Bool
  pub number : ℤ

abbrev pub nought : Date → Date → Limit
nought u v = record { from = u; to = v; strict = false; number = pos 0 }

-- the signs that bound a timer's value from above, and those that bound it from below, with whether they are strict; "=" does both
pub data UpperSign : Sign → Bool → Type 0 where
  upper_at_most : UpperSign AtMost false
  upper_below : UpperSign Under true
  upper_exactly : UpperSign Equal false

pub data LowerSign : Sign → Bool → Type 0 where
  lower_at_least : LowerSign AtLeast false
  lower_above : LowerSign Over true
  lower_exactly : LowerSign Equal false

-- the limits that the chart writes
pub data Writes (n : ℕ) (c : Chart) : Limit → Type 0 where
  -- a timer's date is never after now
  never_after_now : {k : Moment} (i : ℕ) → MomentOf c k → 1 ≤ i → i ≤ n → Writes n c (nought (date k i) (date k 0))
  -- a wait keeps the timers' dates and does not put now back
  not_back : {j : ℕ} {m : Motion} → At c j m → Writes n c (nought (date (before j) 0) (date (after_wait j) 0))
  wait_keeps : {j : ℕ} {m : Motion} (i : ℕ) → At c j m → 1 ≤ i → i ≤ n
      → Writes n c (nought (date (before j) i) (date (after_wait j) i))
  wait_kept : {j : ℕ} {m : Motion} (i : ℕ) → At c j m → 1 ≤ i → i ≤ n
      → Writes n c (nought (date (after_wait j) i) (date (before j) i))
  -- an upper window bounds now less the timer's date, a lower one the reverse
  upper : {j q : ℕ} {m : Motion} {w : Window} {s : Bool} → At c j m → At m.windows q w → UpperSign w.sign s
      → Writes n c (record { from = date (after_wait j) 0; to = date (after_wait j) w.timer; strict = s; number = pos w.number })
  lower : {j q : ℕ} {m : Motion} {w : Window} {s : Bool} → At c j m → At m.windows q w → LowerSign w.sign s
      → Writes n c (record { from = date (after_wait j) w.timer; to = date (after_wait j) 0; strict = s; number = neg_ℤ (pos w.number) })
  -- a restart makes the date equal to now and keeps all else; that it is not after now is written already
  restart : {j : ℕ} {m : Motion} (i : ℕ) → At c j m → 1 ≤ i → i ≤ n → restarts_timer m i ≡ true
      → Writes n c (nought (date (after_restarts j) 0) (date (after_restarts j) i))
  now_keeps : {j : ℕ} {m : Motion} → At c j m → Writes n c (nought (date (after_wait j) 0) (date (after_restarts j) 0))
  now_kept : {j : ℕ} {m : Motion} → At c j m → Writes n c (nought (date (after_restarts j) 0) (date (after_wait j) 0))
  restart_keeps : {j : ℕ} {m : Motion} (i : ℕ) → At c j m → 1 ≤ i → i ≤ n → restarts_timer m i ≡ false
      → Writes n c (nought (date (after_wait j) i) (date (after_restarts j) i))
  restart_kept : {j : ℕ} {m : Motion} (i : ℕ) → At c j m → 1 ≤ i → i ≤ n → restarts_timer m i ≡ false
      → Writes n c (nought (date (after_restarts j) i) (date (after_wait j) i))

pub data Chain (n : ℕ) (c : Chart) : Date → Date → Type 0 where
  stop : {u : Date} → Chain n c u u
  by : {l : Limit} {v : Date} → Writes n c l → Chain n c l.to v → Chain n c l.from v

-- the nodes of the table: 0 to n are the dates of the start, n + 1 to 2n + 1 those of the end
abbrev pub node : ℕ → Chart → ℕ → Date
node n c u = cond (nat_le u n) (date start u) (date (before (length c)) (u - (n + 1)))

module _ (D : Differences) where
  -- the differences that a chain allows: sums of one for each of its limits, and for the empty chain those that are at most 0
  abbrev pub Allowed : {n : ℕ} {c : Chart} {u v : Date} → Chain n c u v → D.Diff → Type 0
  Allowed stop d = D.le d (zero_of D)
  Allowed (by {l = l} w rest) d =
      (e : D.Diff) × (f : D.Diff) × Stands D l.strict e l.number × Allowed rest f × Same D d (D.add e f)

  -- some chain allows no more than S, or S is open
  abbrev pub Attained : (n : ℕ) (c : Chart) (u v : Date) → (D.Diff → Type 0) → Type 0
  Attained n c u v S = ((π : Chain n c u v) × ((d : D.Diff) → Allowed π d → S d)) ⊎ ((d : D.Diff) → S d)

  -- S is what the tightest chain from u to v allows: every chain allows it all, and some chain allows no more, or S is open
  abbrev pub Tightest : (n : ℕ) (c : Chart) (u v : Date) → (D.Diff → Type 0) → Type 0
  Tightest n c u v S = ((π : Chain n c u v) (d : D.Diff) → S d → Allowed π d) × Attained n c u v S

  -- the chart never runs: a closed chain does not allow 0
  abbrev pub Never : ℕ → Chart → Type 0
  Never n c = (u : Date) × (π : Chain n c u u) × (Allowed π (zero_of D) → ⊥)
