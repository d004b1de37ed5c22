-- One pair of a book after the other. Assumes nothing.
use Rattle.std.proofs.Common.{◌≡◌, ℕ, zero, suc, ◌+◌, ◌-◌, ◌*◌, ◌<◌, ◌≤◌, Bool, true, false, cond, ◌||◌, eqb, ltb, ◌⊎◌, List, length, Some, None, Option, refl, ap, ◌∙◌, ⊎_elim, add-one, arith}
use Rattle.std.proofs.lemmas.Bool.{cond-true, cond-false, lt-ltb, le-ltb, ltb-false, eqb-false, or_parts, cases_order}
use Rattle.std.proofs.lemmas.Bool.Decides.{nat_tests}
use Rattle.faults.specs.declared.types.BookFault.{BookFault}
use Rattle.faults.specs.declared.types.BookFault.TheVariants.{Length, Count, Cut, Early, Late}
use Rattle.book.specs.Layout.{charts, offset, size, least, Sound, pair_fault, or_else, pairs_fault, layout_fault}

pub least_next : (bs : List ℕ) (k : ℕ) → least bs (k + 1) ≡ offset bs k + size bs k
least_next bs k = ap (least bs) (add-one k)

module _ (bs : List ℕ) (left k : ℕ) (some : 0 < left) where
  step : (r : Option BookFault) → pair_fault bs k ≡ r → pairs_fault bs left k ≡ or_else r (pairs_fault bs (left - 1) (k + 1))
  unfolding pairs_fault
  step r g =
      let e : left ≡ suc (left - 1) = omega arith in
      ap (λ (n : ℕ). pairs_fault bs n k) e ∙ ap (λ (q : Option BookFault). or_else q (pairs_fault bs (left - 1) (k + 1))) g

  pub pair_early : offset bs k < least bs k → pairs_fault bs left k ≡ Some (Early k)
  pair_early h = step (Some (Early k)) (cond-true _ _ _ (lt-ltb _ _ h))

  pub pair_late : least bs k ≤ offset bs k → length bs < offset bs k + size bs k → pairs_fault bs left k ≡ Some (Late k)
  pair_late h g = step (Some (Late k)) (cond-false _ _ _ (le-ltb _ _ h) ∙ cond-true _ _ _ (lt-ltb _ _ g))

  pub pair_next : least bs k ≤ offset bs k → offset bs k + size bs k ≤ length bs → pairs_fault bs left k ≡ pairs_fault bs (left - 1) (k + 1)
  pair_next h g = step None (cond-false _ _ _ (le-ltb _ _ h) ∙ cond-false _ _ _ (le-ltb _ _ g))

pub no_pair : (bs : List ℕ) (left k : ℕ) → left ≡ 0 → pairs_fault bs left k ≡ None
unfolding pairs_fault
no_pair bs left k e = rw e

-- a book whose head is sound is judged by its pairs
pub by_pairs : (bs : List ℕ) → 2 ≤ length bs → length bs ≤ 65536 → 0 < charts bs → charts bs ≤ 64 → 2 + 8 * charts bs ≤ length bs
    → layout_fault bs ≡ pairs_fault bs (charts bs) 0
by_pairs bs a b f g h = grind (arith, nat_tests)

peel : (a b : Bool) (x y : BookFault) (r : Option BookFault) → cond a (Some x) (cond b (Some y) r) ≡ None → (a ≡ false) × (b ≡ false) × (r ≡ None)
peel true b x y r e = absurd (grind arith)
peel false true x y r e = absurd (grind arith)
peel false false x y r e = (refl, refl, e)

or_none : (a b : Option BookFault) → or_else a b ≡ None → (a ≡ None) × (b ≡ None)
or_none (Some e) b h = absurd (grind arith)
or_none None b h = (refl, h)

-- the pairs from k on have no fault exactly where each fits
pub pairs_fit : (bs : List ℕ) (left k : ℕ) → pairs_fault bs left k ≡ None → (j : ℕ) → k ≤ j → j < k + left → (least bs j ≤ offset bs j) × (offset bs j + size bs j ≤ length bs)
unfolding pairs_fault
pairs_fit bs zero k e j g h = absurd (omega arith)
pairs_fit bs (suc left) k e j g h =
    let p = or_none (pair_fault bs k) (pairs_fault bs left (k + 1)) e in
    let q = peel (ltb (offset bs k) (least bs k)) (ltb (length bs) (offset bs k + size bs k)) (Early k) (Late k) None p.0 in
    ⊎_elim
    (λ (w : j ≡ k). rw w (ltb-false (offset bs k) (least bs k) q.0, ltb-false (length bs) (offset bs k + size bs k) q.1))
    (λ (w : (j < k) ⊎ (k < j)). ⊎_elim (λ (x : j < k). absurd (omega arith)) (λ (x : k < j). pairs_fit bs left (k + 1) p.1 j (omega arith) (omega arith)) w)
    (cases_order j k)

pub pairs_sound : (bs : List ℕ) (left k : ℕ) → ((j : ℕ) → k ≤ j → j < k + left → (least bs j ≤ offset bs j) × (offset bs j + size bs j ≤ length bs)) → pairs_fault bs left k ≡ None
unfolding pairs_fault
pairs_sound bs zero k h = refl
pairs_sound bs (suc left) k h =
    let here = h k (omega arith) (omega arith) in
    let e : suc left - 1 ≡ left = omega arith in
    pair_next bs (suc left) k (omega arith) here.0 here.1
    ∙ ap (λ (n : ℕ). pairs_fault bs n (k + 1)) e
    ∙ pairs_sound bs left (k + 1) (λ j g l. h j (omega arith) (omega arith))

-- a book has no fault exactly where it is sound
pub sound_from_none : (bs : List ℕ) → layout_fault bs ≡ None → Sound bs
sound_from_none bs e =
    let p = peel (ltb (length bs) 2 || ltb 65536 (length bs)) (eqb (charts bs) 0 || ltb 64 (charts bs)) Length Count (cond (ltb (length bs) (2 + 8 * charts bs)) (Some Cut) (pairs_fault bs (charts bs) 0)) e in
    let q = peel (ltb (length bs) (2 + 8 * charts bs)) false Cut Cut (pairs_fault bs (charts bs) 0) p.2 in
    let a = or_parts (ltb (length bs) 2) (ltb 65536 (length bs)) p.0 in
    let b = or_parts (eqb (charts bs) 0) (ltb 64 (charts bs)) p.1 in
    let z = eqb-false (charts bs) 0 b.0 in
    record {
      long = ltb-false (length bs) 2 a.0;
      short = ltb-false 65536 (length bs) a.1;
      some = grind arith;
      few = ltb-false 64 (charts bs) b.1;
      pairs = ltb-false (length bs) (2 + 8 * charts bs) q.0;
      parts = λ k h. pairs_fit bs (charts bs) 0 q.2 k (omega arith) (omega arith);
    }

pub none_from_sound : (bs : List ℕ) → Sound bs → layout_fault bs ≡ None
none_from_sound bs s =
    by_pairs bs s.long s.short s.some s.few s.pairs ∙ pairs_sound bs (charts bs) 0 (λ j g h. s.parts j (omega arith))
