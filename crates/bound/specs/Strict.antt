-- The strict order of differences, and taking away. Assumes nothing.
use Rattle.std.specs.Prelude.{◌≡◌, List, [], ◌∷◌, refl}
use Rattle.bound.specs.Differences.{Differences, Same, Less, Ordered, minus}
use Rattle.bound.specs.Groups.{≤_trans, add-≤}
use Rattle.bound.specs.Solver.{Expr, ◌⊞◌, ◌⊟◌, coefficients, value, v0, v1, v2, v3, rearrange, le_same, le_from, le_from2}

module _ {D : Differences} (o : Ordered D) where
  open D use {Diff, le, add, neg}

  -- (a − c) + c is a
  pub sub_back : (a c : Diff) → Same D (add (minus D a c) c) a
  sub_back a c = rearrange o (a ∷ c ∷ []) (v0 ⊟ v1 ⊞ v1) v0 refl

  -- c + (a − c) is a
  pub sub_front : (a c : Diff) → Same D (add c (minus D a c)) a
  sub_front a c = rearrange o (a ∷ c ∷ []) (v1 ⊞ (v0 ⊟ v1)) v0 refl

  -- d ≤ a + c gives d − c ≤ a
  pub sub_le : (d a c : Diff) → le d (add a c) → le (minus D d c) a
  sub_le d a c h = le_from o (d ∷ a ∷ c ∷ []) (v0 ⊟ v2) v1 v0 (v1 ⊞ v2) refl h

  pub le_less : (a b c : Diff) → le a b → Less D b c → Less D a c
  le_less a b c h k = (≤_trans o h k.0, λ l. k.1 (≤_trans o l h))

  pub less_le : (a b c : Diff) → Less D a b → le b c → Less D a c
  less_le a b c h k = (≤_trans o h.0 k, λ l. h.1 (≤_trans o k l))

  pub sub_less : (d a c : Diff) → Less D d (add a c) → Less D (minus D d c) a
  sub_less d a c h = (sub_le d a c h.0, λ l. h.1 (le_from o (d ∷ a ∷ c ∷ []) (v1 ⊞ v2) v0 v1 (v0 ⊟ v2) refl l))

  pub add_less_left : (a b c d : Diff) → Less D a b → le c d → Less D (add a c) (add b d)
  add_less_left a b c d h k =
      (add-≤ o h.0 k, λ l. h.1 (le_from2 o (a ∷ b ∷ c ∷ d ∷ []) v1 v0 (v1 ⊞ v3) (v0 ⊞ v2) v2 v3 refl l k))

  pub add_less_right : (a b c d : Diff) → le a b → Less D c d → Less D (add a c) (add b d)
  add_less_right a b c d h k =
      (add-≤ o h k.0, λ l. k.1 (le_from2 o (a ∷ b ∷ c ∷ d ∷ []) v3 v2 (v1 ⊞ v3) (v0 ⊞ v2) v0 v1 refl l h))

  -- a < b from c < d, where a + d = b + c
  pub less_from : (xs : List Diff) (a b c d : Expr) → coefficients xs (a ⊞ d) ≡ coefficients xs (b ⊞ c)
      → Less D (value o xs c) (value o xs d) → Less D (value o xs a) (value o xs b)
  less_from xs a b c d e h = (
    le_from o xs a b c d e h.0,
    λ l. h.1 (le_from2 o ys v3 v2 (v0 ⊞ v3) (v1 ⊞ v2) v1 v0 refl (le_same o xs (a ⊞ d) (b ⊞ c) e) l),
  )
    where
      ys : List Diff
      ys = value o xs a ∷ value o xs b ∷ value o xs c ∷ value o xs d ∷ []
