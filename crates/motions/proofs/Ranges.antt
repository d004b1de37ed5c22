-- A test of every number below n, one after the other. Assumes nothing.
use Rattle.std.proofs.Common.{◌≡◌, ℕ, ◌+◌, ◌<◌, ◌∙◌, get_or, Bool, true, false, length, subst, arith}
use Rattle.std.specs.Bool.{MatchBool}
use Rattle.std.specs.List.{AllWithin, HoldsAt, range_with_len}
use Rattle.std.proofs.lemmas.List.FromFn.{get_or-range_with_len, length-range_with_len}

stands : (n i : ℕ) → i < n → get_or (range_with_len 0 n) i 0 ≡ i
stands n i h = let e : 0 + i ≡ i = omega arith in get_or-range_with_len 0 n i 0 h ∙ e

module _ (Yes No : ℕ → Type 0) (n : ℕ) where
  -- what `all` answers over the range
  abbrev pub Tested : Bool → Type 0
  Tested r =
      MatchBool r (AllWithin Yes (range_with_len 0 n) 0 (length (range_with_len 0 n))) ((k : ℕ) × (k < length (range_with_len 0 n)) × HoldsAt No (range_with_len 0 n) k)

  pub tested_yes : (r : Bool) → Tested r → r ≡ true → (i : ℕ) → i < n → Yes i
  tested_yes true t e i h = subst Yes (stands n i h) (t i 0 (omega arith) (omega (arith, length-range_with_len 0 n)))
  tested_yes false t e i h = let z : ◌≡◌ {A = ℕ} 0 1 = cc in absurd (omega arith)

  pub tested_no : (r : Bool) → Tested r → r ≡ false → (i : ℕ) × (i < n) × No i
  tested_no true t e = let z : ◌≡◌ {A = ℕ} 0 1 = cc in absurd (omega arith)
  tested_no false (k, inside, here) e =
      let below : k < n = omega (arith, length-range_with_len 0 n) in
      (k, below, subst No (stands n k below) (here 0))
