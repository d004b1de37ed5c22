-- An answer that is given up to a limit, and none above it. Assumes nothing.
use Rattle.std.specs.Prelude.{ℕ, cond, Some, None, Option, nat_le}

-- x where n is at most the limit
abbrev pub up_to : {A : Type 0} → ℕ → ℕ → A → Option A
up_to limit n x = cond (nat_le n limit) (Some x) None
