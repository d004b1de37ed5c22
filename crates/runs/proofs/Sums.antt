-- Laws of the sum of sets.
use Rattle.std.proofs.Common.{◌↔◌, [], ◌∷◌, refl}
use Rattle.bound.specs.Differences.{Differences, Same, Ordered, zero_of, minus}
use Rattle.runs.specs.Tables.{Set, Lower, Sum}
use Rattle.bound.specs.Groups.{≤_trans}
use Rattle.bound.specs.Solver.{◌⊞◌, ◌⊟◌, nil, v0, v1, v2, v3, v4, le_same, le_from, le_from2}

module _ {D : Differences} (o : Ordered D) where
  open D use {Diff, le, add, neg}

  pub sum_swap : (S S' : Set D) (d : Diff) → Sum D S S' d → Sum D S' S d
  sum_swap S S' d (e, f, he, hf, h) = (f, e, hf, he, ≤_trans o h (le_same o (e ∷ f ∷ []) (v0 ⊞ v1) (v1 ⊞ v0) refl))

  pub sum_lower : (S S' : Set D) → Lower D (Sum D S S')
  sum_lower S S' d c h (e, f, he, hf, k) = (e, f, he, hf, ≤_trans o h k)

  pub sum_map : (S S' R R' : Set D) → ((e : Diff) → S e → R e) → ((f : Diff) → S' f → R' f) → (d : Diff) → Sum D S S' d → Sum D R R' d
  sum_map S S' R R' g k d (e, f, he, hf, h) = (e, f, g e he, k f hf, h)

  pub sum_right : (R S S' : Set D) (d : Diff) → Sum D (Sum D R S) S' d → Sum D R (Sum D S S') d
  sum_right R S S' d (e, f, (a, b, ha, hb, k), hf, h) = (
    a,
    add b f,
    ha,
    (b, f, hb, hf, o.le_refl (add b f)),
    le_from2 o (a ∷ b ∷ e ∷ f ∷ d ∷ []) v4 (v0 ⊞ (v1 ⊞ v3)) v4 (v2 ⊞ v3) v2 (v0 ⊞ v1) refl h k,
  )

  pub sum_left : (R S S' : Set D) (d : Diff) → Sum D R (Sum D S S') d → Sum D (Sum D R S) S' d
  sum_left R S S' d (e, f, he, (a, b, ha, hb, k), h) = (
    add e a,
    b,
    (e, a, he, ha, o.le_refl (add e a)),
    hb,
    le_from2 o (a ∷ b ∷ e ∷ f ∷ d ∷ []) v4 (v2 ⊞ v0 ⊞ v1) v4 (v2 ⊞ v3) v3 (v0 ⊞ v1) refl h k,
  )

  -- adding a set that holds nought loses nothing
  pub sum_nought : (S R : Set D) → R (zero_of D) → (d : Diff) → S d → Sum D S R d
  sum_nought S R h d k = (d, zero_of D, k, h, le_same o (d ∷ []) v0 (v0 ⊞ nil) refl)

  -- adding a set that holds nothing above nought gains nothing
  pub sum_no_more : (S R : Set D) → Lower D S → ((d : Diff) → R d → le d (zero_of D)) → (d : Diff) → Sum D S R d → S d
  sum_no_more S R low h d (e, f, he, hf, k) =
      low e d (le_from2 o (d ∷ e ∷ f ∷ []) v0 v1 v0 (v1 ⊞ v2) v2 nil refl k (h f hf)) he

  -- of sets closed downwards the sum is what is equal to a sum
  pub sum_exact : (S S' : Set D) → Lower D S → (d : Diff)
      → Sum D S S' d ↔ ((e : Diff) × (f : Diff) × S e × S' f × Same D d (add e f))
  sum_exact S S' low d = (
    (λ (e, f, he, hf, h). (
      minus D d f,
      f,
      low e (minus D d f) (le_from o (d ∷ e ∷ f ∷ []) (v0 ⊟ v2) v1 v0 (v1 ⊞ v2) refl h) he,
      hf,
      (le_same o (d ∷ f ∷ []) v0 (v0 ⊟ v1 ⊞ v1) refl, le_same o (d ∷ f ∷ []) (v0 ⊟ v1 ⊞ v1) v0 refl),
    )),
    (λ (e, f, he, hf, h). (e, f, he, hf, h.0)),
  )

  -- a set that is not empty and one that holds all have all for their sum
  pub sum_open : (S R : Set D) → ((e : Diff) × S e) → ((f : Diff) → R f) → (d : Diff) → Sum D S R d
  sum_open S R (e, h) all d = (e, minus D d e, h, all (minus D d e), le_same o (d ∷ e ∷ []) v0 (v1 ⊞ (v0 ⊟ v1)) refl)
