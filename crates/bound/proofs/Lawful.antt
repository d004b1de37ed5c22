-- What follows from the laws, for any kind of bound. Assumes nothing.
use Rattle.std.proofs.Common.{◌≡◌, ◌+◌, ◌^◌, ◌≤◌, Bool, true, false, cond, ◌⊎◌, ℤ, pos, nat_abs, Some, None, refl, inl, inr, ⊎_elim, arith}
use Rattle.bound.specs.Differences.{zero_of}
use Rattle.bound.specs.Meaning.{Meaning, Laws, Inside, Both, AllowsZero, tighter_of}

module _ {B : Type 0} (m : Meaning B) (laws : Laws m) where
  -- of two bounds one lies inside the other
  pub tighter_else : (a b : B) → m.tighter a b ≡ false → Inside m b a
  tighter_else a b e d h =
      let (x, p, q) = laws.tighter_no a b e in
      ⊎_elim (λ l. absurd (q (laws.lower b d x l h))) (λ l. laws.lower a x d l p) (laws.ordered.total x d)

  pub inside_tighter : (a b : B) → Inside m a b → m.tighter a b ≡ true
  inside_tighter a b i = go (m.tighter a b) refl
    where
      go : (t : Bool) → m.tighter a b ≡ t → m.tighter a b ≡ true
      go true e = e
      go false e = let (x, p, q) = laws.tighter_no a b e in absurd (q (i x p))

  pub both_first : (a b : B) → m.tighter a b ≡ true → Both m a b a
  both_first a b e d = (λ h. (h, laws.tighter_yes a b e d h), λ h. h.0)

  pub both_second : (a b : B) → m.tighter a b ≡ false → Both m a b b
  both_second a b e d = (λ h. (tighter_else a b e d h, h), λ h. h.1)

  pub tighter_both : (a b : B) → Both m a b (tighter_of m a b)
  tighter_both a b = go (m.tighter a b) refl
    where
      go : (t : Bool) → m.tighter a b ≡ t → Both m a b (cond t a b)
      go true e = both_first a b e
      go false e = both_second a b e

  pub tighter_either : (a b : B) → Inside m a (tighter_of m a b) ⊎ Inside m b (tighter_of m a b)
  tighter_either a b = go (m.tighter a b)
    where
      go : (t : Bool) → Inside m a (cond t a b) ⊎ Inside m b (cond t a b)
      go true = inl (λ d h. h)
      go false = inr (λ d h. h)

  -- a number up to 10^9 is in range
  pub written_some : (strict : Bool) (c : ℤ) → nat_abs c ≤ 10 ^ 9 → m.written strict c ≡ None → ⊥
  written_some strict c small e = let h = (laws.written_none strict c).0 e in omega (arith, laws.range_enough)

  -- sizes within the reach have a sum
  pub sum_some : (a b : B) → m.size_of a + m.size_of b ≤ m.reach → m.sum a b ≡ None → ⊥
  sum_some a b small e = let h = (laws.sum_none a b).0 e in omega arith

  -- z is "≤ 0": if it is tighter than b, then b allows 0, and else not
  pub zero_tighter : (z b : B) → m.written false (pos 0) ≡ Some z → m.tighter z b ≡ true → AllowsZero m b
  zero_tighter z b w e =
      let o = zero_of m.differences in
      laws.tighter_yes z b e o ((laws.written_allows false (pos 0) z w o).1 (laws.ordered.le_refl o))

  pub zero_not_tighter : (z b : B) → m.written false (pos 0) ≡ Some z → m.tighter z b ≡ false → AllowsZero m b → ⊥
  zero_not_tighter z b w e h =
      let (x, p, q) = laws.tighter_no z b e in
      q (laws.lower b (zero_of m.differences) x ((laws.written_allows false (pos 0) z w x).0 p) h)
