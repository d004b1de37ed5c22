-- Answers: yes is not no, and one given up to a limit is none exactly above it. Assumes nothing.
use Rattle.std.specs.Prelude.{◌≡◌, ℕ, ◌<◌, Bool, true, false, cond, ◌↔◌, Some, None, nat_le}
use Rattle.std.proofs.Common.{arith}
use Rattle.std.proofs.lemmas.Bool.Decides.{nat_tests}
use Rattle.bound.specs.Limited.{up_to}

pub never : {P : Type 0} → true ≡ false → P
never e = let z : ◌≡◌ {A = ℕ} 0 1 = cc in absurd (omega arith)

pub none_above : {A : Type 0} (x : A) (n limit : ℕ) → (up_to limit n x ≡ None) ↔ (limit < n)
none_above x n limit = (λ e. grind (arith, nat_tests), λ h. grind (arith, nat_tests))

some_when : {A : Type 0} (x y : A) (b : Bool) → cond b (Some x) None ≡ Some y → x ≡ y
some_when x y true e = cc
some_when x y false e = cc

pub some_is : {A : Type 0} (x y : A) (n limit : ℕ) → up_to limit n x ≡ Some y → x ≡ y
some_is x y n limit e = some_when x y (nat_le n limit) e
