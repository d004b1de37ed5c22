-- The tightest of several sums, one after the other. Assumes nothing.
use Rattle.std.proofs.Common.{◌≡◌, ℕ, zero, suc, ◌+◌, ◌*◌, ◌<◌, ◌≤◌, ◌-◌, List, ◌++◌, length, drop, sym, refl, ap, ◌∙◌, subst, add-one, arith}
use Rattle.std.proofs.lemmas.List.{get_or_append_left, get_or-append_right, get_or-drop}
use Rattle.bound.specs.Meaning.{Meaning}
use Rattle.table.specs.Cells.{at, cell, relaxed}
use Rattle.motions.specs.Star.{best_of, to_new, from_new, SpreadFits, SpreadTo}

module _ {B : Type 0} (m : Meaning B) (f g : ℕ → B) where
  pub best_none : (best : B) → best ≡ m.opened → best ≡ best_of m f g 0
  unfolding best_of
  best_none best e = e

  pub best_more : (i : ℕ) (best a b next : B) → best ≡ best_of m f g i → a ≡ f i → b ≡ g i → next ≡ relaxed m best a b → next ≡ best_of m f g (i + 1)
  unfolding best_of
  best_more i best a b next inv ea eb e =
      e ∙ ap (λ x. relaxed m x a b) inv ∙ ap (λ x. relaxed m (best_of m f g i) x b) ea ∙ ap (λ x. relaxed m (best_of m f g i) (f i) x) eb ∙ ap (best_of m f g) (sym (add-one i))

  pub best_to : (i count : ℕ) → i ≡ count → (best : B) → best ≡ best_of m f g i → best ≡ best_of m f g count
  best_to i count e best h = h ∙ ap (best_of m f g) e

-- equal parts, equal sums
pub best_same : {B : Type 0} (m : Meaning B) (f g h k : ℕ → B) (count : ℕ) → ((i : ℕ) → i < count → f i ≡ h i) → ((i : ℕ) → i < count → g i ≡ k i) → best_of m f g count ≡ best_of m h k count
unfolding best_of
best_same m f g h k zero e d = refl
best_same m f g h k (suc count) e d =
    ap (λ x. relaxed m x (f count) (g count)) (best_same m f g h k count (λ i l. e i (omega arith)) (λ i l. d i (omega arith)))
    ∙ ap (λ x. relaxed m (best_of m h k count) x (g count)) (e count (omega arith)) ∙ ap (λ x. relaxed m (best_of m h k count) (h count) x) (d count (omega arith))

-- while the front of the work table stays, so does what is spread from it
module _ {B : Type 0} (m : Meaning B) (n : ℕ) (table before now : List B) (front : (i : ℕ) → i < 2 * n + 2 → at m now i ≡ at m before i) where
  pub to_same : (u : ℕ) → to_new m n table now u ≡ to_new m n table before u
  to_same u = best_same m _ _ _ _ (n + 1) (λ i l. refl) (λ i l. front i (omega arith))

  pub from_same : (v : ℕ) → from_new m n table now v ≡ from_new m n table before v
  from_same v = best_same m _ _ _ _ n (λ i l. front (n + 2 + i) (omega arith)) (λ i l. refl)

  -- and so does what fits
  pub fits_same : SpreadFits m n table before → SpreadFits m n table now
  fits_same fits =
      record {
        toward_new = λ u i hu hi. subst (λ x. m.size_of (cell m (2 * n + 2) table u (n + 1 + i)) + m.size_of x ≤ m.reach) (sym (front i (omega arith))) (fits.toward_new u i hu hi);
        out_of_new = λ v i hv hi. subst (λ x. m.size_of x + m.size_of (cell m (2 * n + 2) table (n + 2 + i) v) ≤ m.reach) (sym (front (n + 2 + i) (omega arith))) (fits.out_of_new v i hv hi);
      }

-- the work table in parts: the direct bounds, those into the new now, those out of it, and what lies behind
module _ {B : Type 0} (m : Meaning B) (n : ℕ) (table direct before tail into out : List B) where
  abbrev side : ℕ
  side = 2 * n + 2

  abbrev was : List B
  was = direct ++ (before ++ tail)

  abbrev is : List B
  is = direct ++ (into ++ (out ++ drop side tail))

  behind_direct : length direct ≡ side → (xs : List B) (i : ℕ) → side ≤ i → at m (direct ++ xs) i ≡ at m xs (i - side)
  behind_direct l xs i h = get_or-append_right direct xs side i m.opened l h

  front_same : length direct ≡ side → (xs : List B) (i : ℕ) → i < side → at m (direct ++ xs) i ≡ at m direct i
  front_same l xs i h = get_or_append_left direct xs m.opened i (omega arith)

  pub spread_parts : length direct ≡ side → length before ≡ side → length into ≡ side → length out ≡ side
      → ((u : ℕ) → u < side → at m into u ≡ to_new m n table direct u) → ((v : ℕ) → v < side → at m out v ≡ from_new m n table direct v) → SpreadTo m n table was is
  spread_parts ld lb li lo rows columns =
      record {
        front = λ i h. front_same ld _ i h ∙ sym (front_same ld _ i h);
        toward_new = λ u h.
            let e : (2 * n + 2 + u) - side ≡ u = omega arith in
            behind_direct ld _ (2 * n + 2 + u) (omega arith) ∙ ap (at m (into ++ (out ++ drop side tail))) e ∙ get_or_append_left into _ m.opened u (omega arith) ∙ rows u h
            ∙ to_same m n table was direct (λ i l. sym (front_same ld _ i l)) u;
        out_of_new = λ v h.
            let e : ((4 * n + 4 + v) - side) - side ≡ v = omega arith in
            behind_direct ld _ (4 * n + 4 + v) (omega arith) ∙ get_or-append_right into _ side ((4 * n + 4 + v) - side) m.opened li (omega arith)
            ∙ ap (at m (out ++ drop side tail)) e ∙ get_or_append_left out _ m.opened v (omega arith) ∙ columns v h
            ∙ from_same m n table was direct (λ i l. sym (front_same ld _ i l)) v;
        beyond = λ i h.
            let e : side + (((i - side) - side) - side) ≡ (i - side) - side = omega arith in
            behind_direct ld _ i (omega arith) ∙ get_or-append_right into _ side (i - side) m.opened li (omega arith)
            ∙ get_or-append_right out _ side ((i - side) - side) m.opened lo (omega arith) ∙ get_or-drop side tail (((i - side) - side) - side) m.opened ∙ ap (at m tail) e
            ∙ sym (behind_direct ld _ i (omega arith) ∙ get_or-append_right before tail side (i - side) m.opened lb (omega arith));
      }
