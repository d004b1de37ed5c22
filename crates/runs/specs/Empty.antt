-- The table of the empty chart. Assumes nothing.
use Rattle.std.specs.Prelude.{◌≡◌, ℕ, suc, ◌+◌, ◌-◌, ◌<◌, cond, ◌⊎◌, nat_le}
use Rattle.bound.specs.Differences.{Differences, zero_of}
use Rattle.bound.specs.Meaning.{Meaning}
use Rattle.runs.specs.Tables.{Table}

-- no timer's date is after now, at place 0
abbrev pub Fresh : (D : Differences) → Table D
Fresh D i j d = (j ≡ 0) ⊎ (i ≡ j) → D.le d (zero_of D)

-- the node of the start for a node of the start or the end
abbrev pub base : ℕ → ℕ → ℕ
base n u = cond (nat_le u n) u (u - (n + 1))

-- each end node is its start node once more
abbrev pub EmptyTable : (D : Differences) → ℕ → Table D
EmptyTable D n u v = Fresh D (base n u) (base n v)

-- W is the empty chart's table of bounds: the zero bound between equal dates and from every date to now, and else open.
pub record EmptyTo {B : Type 0} (m : Meaning B) (n : ℕ) (zero : B) (W : ℕ → ℕ → B) : Type 0 where
  pub touching : (u v : ℕ) → u < suc n + suc n → v < suc n + suc n → (base n v ≡ 0) ⊎ (base n u ≡ base n v) → W u v ≡ zero
  pub apart : (u v : ℕ) → u < suc n + suc n → v < suc n + suc n → ((base n v ≡ 0) ⊎ (base n u ≡ base n v) → ⊥) → W u v ≡ m.opened
