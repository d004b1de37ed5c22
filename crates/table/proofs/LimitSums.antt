-- A table's limits from sums of its places. Assumes nothing.
use Rattle.std.proofs.Common.{◌≡◌, ℕ, ◌+◌, ◌<◌, ◌≤◌, List, Some, sym, ap, ◌∙◌, subst, subst₂, arith}
use Rattle.bound.specs.Meaning.{Meaning, Laws, tighter_of}
use Rattle.runs.specs.Limits.{Name}
use Rattle.runs.specs.Normal.{IsLimit}
use Rattle.runs.proofs.Normals.{limit_of_sums}
use Rattle.table.specs.Cells.{cell, Small}
use Rattle.table.specs.Compared.{answered, straight, crossed, limit_at}

module _ {B : Type 0} (m : Meaning B) where
  -- a sum of two places of a small table is within the reach
  pub sum_fits : Laws m → (side : ℕ) (table : List B) → Small m side table → (u v w z : ℕ) → u < side → v < side → w < side → z < side
      → (a b : B) → a ≡ cell m side table u v → b ≡ cell m side table w z → m.size_of a + m.size_of b ≤ m.reach
  sum_fits laws side table small u v w z hu hv hw hz a b ea eb =
      subst₂ (λ p q. m.size_of p + m.size_of q ≤ m.reach) (sym ea) (sym eb)
      (let h = small u v hu hv in let k = small w z hw hz in omega (arith, laws.reach_enough))

  -- the sum of what was read, where it is answered
  pub sum_of : (a b p q s : B) → a ≡ p → b ≡ q → m.sum a b ≡ Some s → m.sum p q ≡ Some s
  sum_of a b p q s ea eb e = subst₂ (λ x y. m.sum x y ≡ Some s) ea eb e

  -- the sum of what was read
  pub sum_read : (a b p q s : B) → a ≡ p → b ≡ q → s ≡ answered m (m.sum a b) → s ≡ answered m (m.sum p q)
  sum_read a b p q s ea eb e = subst₂ (λ x y. s ≡ answered m (m.sum x y)) ea eb e

  -- the limit is the tighter of the two sums
  pub limit_read : (n : ℕ) (table : List B) (l : Name) (s x r : B) → s ≡ answered m (straight m n table l) → x ≡ answered m (crossed m n table l) → r ≡ tighter_of m s x → r ≡ limit_at m n table l
  unfolding limit_at
  limit_read n table l s x r es ex er = subst₂ (λ a b. r ≡ tighter_of m a b) es ex er

  module _ (n : ℕ) (table : List B) (l : Name) (s x r : B) (es : straight m n table l ≡ Some s) (ex : crossed m n table l ≡ Some x) (er : r ≡ tighter_of m s x) where
    pub limit_value : r ≡ limit_at m n table l
    unfolding limit_at
    limit_value = er ∙ sym (ap (λ o. tighter_of m (answered m o) (answered m (crossed m n table l))) es ∙ ap (λ o. tighter_of m s (answered m o)) ex)

    pub limit_is : Laws m → IsLimit m n table l r
    limit_is laws = subst (IsLimit m n table l) (sym er) (limit_of_sums m laws n table l s x es ex)
