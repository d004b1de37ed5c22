-- The rows of a pivot, one after the other, the pivot's own last. Assumes nothing.
use Rattle.std.proofs.Common.{◌≡◌, ℕ, ◌+◌, ◌*◌, ◌<◌, ◌≤◌, List, sym, refl, ap, ◌∙◌, subst, ⊎_elim, eq-or-lt_of_le, arith}
use native.Mathlib.Decide.{ℕ_discrete}
use Rattle.bound.specs.Meaning.{Meaning}
use Rattle.table.specs.Cells.{cell, Beyond, Only, Holds, Rows, relaxed, pivoted, PivotFits}
use Rattle.table.proofs.Strides.{row_others, row_beyond}

-- the rows above u are pivoted, but for the pivot's own, and the others are as they were
pub record Turned {B : Type 0} (m : Meaning B) (side p u : ℕ) (before now : List B) : Type 0 where
  pub done : (w v : ℕ) → w < u → v < side → (w ≡ p → ⊥) → cell m side now w v ≡ pivoted m side p before w v
  pub kept : (w v : ℕ) → u ≤ w → w < side → v < side → cell m side now w v ≡ cell m side before w v
  pub own : (v : ℕ) → v < side → cell m side now p v ≡ cell m side before p v
  pub beyond : Beyond m (side * side) before now

module _ {B : Type 0} (m : Meaning B) (side p : ℕ) (inside : p < side) (before : List B) where
  pub turned_none : Turned m side p 0 before before
  turned_none = record { done = λ w v l. absurd (omega arith); kept = λ w v l h j. refl; own = λ v l. refl; beyond = λ i l. refl }

  module _ (u : ℕ) (now : List B) (t : Turned m side p u before now) where
    -- the pivot's own row is passed over
    pub turned_over : u ≡ p → Turned m side p (u + 1) before now
    turned_over e =
        record {
          done = λ w v l h ne. t.done w v (grind arith) h ne;
          kept = λ w v l. t.kept w v (omega arith);
          own = t.own;
          beyond = t.beyond;
        }

    -- what a pivot of row u reads is as it was
    pub reads_same : u < side → (v : ℕ) → v < side → pivoted m side p now u v ≡ pivoted m side p before u v
    reads_same h v hv =
        ap (λ a. relaxed m a (cell m side now u p) (cell m side now p v)) (t.kept u v (omega arith) h hv)
        ∙ ap (λ b. relaxed m (cell m side before u v) b (cell m side now p v)) (t.kept u p (omega arith) h inside)
        ∙ ap (λ c. relaxed m (cell m side before u v) (cell m side before u p) c) (t.own v hv)

    -- where the sums of the pivot are within the reach, those of the row are still
    pub fits_still : u < side → PivotFits m side p before → (v : ℕ) → v < side → m.size_of (cell m side now u p) + m.size_of (cell m side now p v) ≤ m.reach
    fits_still h fits v hv =
        subst (λ b. m.size_of b + m.size_of (cell m side now p v) ≤ m.reach) (sym (t.kept u p (omega arith) h inside))
        (subst (λ c. m.size_of (cell m side before u p) + m.size_of c ≤ m.reach) (sym (t.own v hv)) (fits u v h hv))

    pub turned_more : (next : List B) → u < side → (u ≡ p → ⊥) → Only m (u * side) side now next → Holds m (u * side) side (pivoted m side p now u) next
        → Turned m side p (u + 1) before next
    turned_more next h ne only row =
        record {
          done = λ w v l hv nep. ⊎_elim
              (λ (e : w ≡ u). subst (λ (x : ℕ). cell m side next x v ≡ pivoted m side p before x v) (sym e) (row v hv ∙ reads_same h v hv))
              (λ (k : w < u). row_others m side u (u * side) now next refl only w v hv (λ e. omega (arith, e)) ∙ t.done w v k hv nep)
              (eq-or-lt_of_le {n = w} {m = u} (omega arith));
          kept = λ w v l hw hv. row_others m side u (u * side) now next refl only w v hv (λ e. omega (arith, e)) ∙ t.kept w v (omega arith) hw hv;
          own = λ v hv. row_others m side u (u * side) now next refl only p v hv (λ e. ne (sym e)) ∙ t.own v hv;
          beyond = λ i l. row_beyond m side u (u * side) now next refl only h i l ∙ t.beyond i l;
        }

  -- the own row, which comes last, still reads what was
  module _ (end : ℕ) (now : List B) (t : Turned m side p end before now) where
    pub own_fits : PivotFits m side p before → (v : ℕ) → v < side → m.size_of (cell m side now p p) + m.size_of (cell m side now p v) ≤ m.reach
    own_fits fits v hv =
        subst (λ b. m.size_of b + m.size_of (cell m side now p v) ≤ m.reach) (sym (t.own p inside))
        (subst (λ c. m.size_of (cell m side before p p) + m.size_of c ≤ m.reach) (sym (t.own v hv)) (fits p v inside hv))

    pub all_rows : (next : List B) → side ≤ end → Only m (p * side) side now next → Holds m (p * side) side (pivoted m side p now p) next
        → Rows m side side (pivoted m side p before) next
    all_rows next last only row u v hu hv =
        elim (ℕ_discrete u p) [
          | yes e ↦ subst (λ (x : ℕ). cell m side next x v ≡ pivoted m side p before x v) (sym e)
              (row v hv ∙ ap (λ a. relaxed m a (cell m side now p p) (cell m side now p v)) (t.own v hv)
              ∙ ap (λ b. relaxed m (cell m side before p v) b (cell m side now p v)) (t.own p inside)
              ∙ ap (λ c. relaxed m (cell m side before p v) (cell m side before p p) c) (t.own v hv))
          | no ne ↦ row_others m side p (p * side) now next refl only u v hv ne ∙ t.done u v (omega arith) hv ne
        ]
