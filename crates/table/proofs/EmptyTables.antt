-- The empty chart's table. Assumes nothing.
use Rattle.std.proofs.Common.{◌≡◌, ℕ, ◌+◌, ◌*◌, false, eqb, List, [], pos, Some, ◌∙◌, inl, inr, ⊎_elim, arith}
use Rattle.std.proofs.lemmas.Bool.{eq-eqb, ne_eqb, or_left, or_right, or_from, cond-true, cond-false}
use Rattle.bound.specs.Meaning.{Meaning, Laws}
use Rattle.runs.specs.Empty.{base, EmptyTo}
use Rattle.runs.specs.Good.{Good}
use Rattle.runs.specs.Normal.{place, table_of}
use Rattle.runs.proofs.BoundEmpty.{empty_good, empty_small}
use Rattle.table.specs.Cells.{Rows, Small, empty_cell}

module _ {B : Type 0} (m : Meaning B) (laws : Laws m) (zero : B) (is_zero : m.written false (pos 0) ≡ Some zero) (n : ℕ) (table : List B)
    (rows : Rows m (2 * n + 2) (2 * n + 2) (empty_cell m zero n) table) where
  pub empty_to : EmptyTo m n zero (place m n table)
  empty_to =
      record {
        touching = λ u v hu hv t. rows u v (omega arith) (omega arith) ∙ cond-true _ _ _ (⊎_elim
            (λ e. or_left (eqb (base n v) 0) (eqb (base n u) (base n v)) (eq-eqb (base n v) 0 e))
            (λ e. or_right (eqb (base n v) 0) (eqb (base n u) (base n v)) (eq-eqb (base n u) (base n v) e)) t);
        apart = λ u v hu hv t. rows u v (omega arith) (omega arith) ∙ cond-false _ _ _
            (or_from (eqb (base n v) 0) (eqb (base n u) (base n v)) (ne_eqb (base n v) 0 (λ e. t (inl e))) (ne_eqb (base n u) (base n v) (λ e. t (inr e))));
      }

  pub good : Good m.differences n [] (table_of m n table)
  good = empty_good m laws zero is_zero n (place m n table) empty_to

  pub small : Small m (2 * n + 2) table
  small u v hu hv = let h = empty_small m laws zero is_zero n (place m n table) empty_to u v (omega arith) (omega arith) in omega (arith, h)
