-- Tests of a range, whose answers may use what was tested; and the numbers of timers that a machine may have. Assumes nothing.
use Rattle.std.specs.Prelude.{ℕ, ◌≤◌, Bool, true, false, T, Some, None, Option, nat_le}
use Rattle.std.proofs.Common.{leb→le}
use Rattle.chart.specs.declared.types.Timers.{Timers}

-- one answer where a test passes, and another where it fails
abbrev pub when_true : {A : Type 0} (b : Bool) → (T b → A) → A → A
when_true true met unmet = met tt
when_true false met unmet = unmet

-- where a ≤ b
abbrev pub if_le : {A : Type 0} (a b : ℕ) → (a ≤ b → A) → A → A
if_le a b met unmet = when_true (nat_le a b) (λ t. met (leb→le a b t)) unmet

-- where x lies from `low` to `high`
abbrev pub if_within : {A : Type 0} (low high x : ℕ) → (low ≤ x → x ≤ high → A) → A → A
if_within low high x met unmet = if_le low x (λ some. if_le x high (met some) unmet) unmet

-- a machine has 1 to 8 timers
abbrev pub timers_of : ℕ → Option Timers
timers_of count = if_within 1 8 count (λ some most. Some (record { count = count; some = some; most = most })) None
