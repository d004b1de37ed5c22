-- The nodes between two tables, pivoted on one after the other. Assumes nothing.
use Rattle.std.proofs.Common.{◌≡◌, ℕ, suc, ◌+◌, ◌*◌, ◌^◌, ◌<◌, ◌≤◌, List, ◌++◌, Some, None, sym, refl, ap, ◌∙◌, subst, arith}
use native.Mathlib.Decide.{dec_lt}
use Rattle.bound.specs.Differences.{Differences}
use Rattle.bound.specs.Meaning.{Meaning, Laws, AllowsZero}
use Rattle.chart.specs.Charts.{Chart}
use Rattle.runs.specs.Lists.{row}
use Rattle.runs.specs.Graph.{Never}
use Rattle.runs.specs.Joining.{JoiningBounds}
use Rattle.runs.specs.Normal.{table_of}
use Rattle.runs.specs.Places.{allowed_at, size_at, PivotedTo}
use Rattle.runs.specs.Sizes.{SizedBy}
use Rattle.runs.proofs.Lists.{length_row}
use Rattle.runs.proofs.Sizes.{sized_first}
use Rattle.runs.proofs.BoundPivot.{sized_pivot, sum_answered}
use Rattle.runs.proofs.BoundJoin.{join_step}
use Rattle.runs.proofs.GoodJoin.{joining_never}
use Rattle.table.specs.Cells.{cell, Beyond, Rows, Small, with_sum, pivoted, PivotFits}

-- after pivots on the first k nodes of the middle
pub record Middle {B : Type 0} (m : Meaning B) (n k : ℕ) (before now : List B) : Type 0 where
  pub sized : SizedBy m.differences (suc n + (suc n + suc n)) (allowed_at m (cell m (3 * n + 3) now)) (row (λ i. suc n + i) k) (2 ^ 40) (size_at m (cell m (3 * n + 3) now))
  pub joining : (c d : Chart) (first second : List B)
      → JoiningBounds m n c d (table_of m n first) (table_of m n second) 0 (cell m (3 * n + 3) before)
      → JoiningBounds m n c d (table_of m n first) (table_of m n second) k (cell m (3 * n + 3) now)
  pub beyond : Beyond m ((3 * n + 3) * (3 * n + 3)) before now

module _ {B : Type 0} (m : Meaning B) (laws : Laws m) where
  -- a sum that is answered is of sizes within the reach
  answered_fits : (a b s : B) → m.sum a b ≡ Some s → m.size_of a + m.size_of b ≤ m.reach
  answered_fits a b s e =
      elim (dec_lt m.reach (m.size_of a + m.size_of b)) [
        | yes h ↦ let none : m.sum a b ≡ None = (laws.sum_none a b).1 h in let z : ◌≡◌ {A = ℕ} 0 1 = cc in absurd (omega arith)
        | no h ↦ omega arith
      ]

  module _ (n : ℕ) (few : n ≤ 8) (before : List B) where
    abbrev D : Differences
    D = m.differences

    abbrev M : ℕ
    M = suc n + (suc n + suc n)

    abbrev side : ℕ
    side = 3 * n + 3

    pub middle_none : Small m side before → Middle m n 0 before before
    middle_none small =
        record {
          sized = sized_first D M (allowed_at m (cell m side before)) (2 ^ 40) (size_at m (cell m side before)) (λ u v hu hv. small u v (omega arith) (omega arith));
          joining = λ c d first second j. j;
          beyond = λ i h. refl;
        }

    module _ (k : ℕ) (inside : k < n + 1) (now : List B) (t : Middle m n k before now) where
      same_node : n + 1 + k ≡ suc n + k
      same_node = omega arith

      answered : (u v : ℕ) → u < M → v < M → (s : B) × (m.sum (cell m side now u (suc n + k)) (cell m side now (suc n + k) v) ≡ Some s)
      answered =
          let e = length_row (λ i. suc n + i) k in
          sum_answered m laws M (cell m side now) (suc n + k) (omega arith) (row (λ i. suc n + i) k) (omega arith) t.sized

      -- the sums of the next pivot are within the reach
      pub next_fits : PivotFits m side (n + 1 + k) now
      next_fits =
          subst (λ (p : ℕ). PivotFits m side p now) (sym same_node)
          (λ u v hu hv. let (s, e) = answered u v (omega arith) (omega arith) in answered_fits _ _ s e)

      -- where the next node's place does not allow 0, the joined chart never runs
      pub next_never : (AllowsZero m (cell m side now (n + 1 + k) (n + 1 + k)) → ⊥) → (c d : Chart) (first second : List B)
          → JoiningBounds m n c d (table_of m n first) (table_of m n second) 0 (cell m side before) → Never D n (c ++ d)
      next_never fails c d first second j =
          joining_never laws.ordered n c d (table_of m n first) (table_of m n second) k (allowed_at m (cell m side now)) (t.joining c d first second j).joining (omega arith)
          (subst (λ (p : ℕ). (AllowsZero m (cell m side now p p) → ⊥)) same_node fails)

      module _ (next : List B) (free : AllowsZero m (cell m side now (n + 1 + k) (n + 1 + k))) (rows : Rows m side side (pivoted m side (n + 1 + k) now) next) where
        free_node : AllowsZero m (cell m side now (suc n + k) (suc n + k))
        free_node = subst (λ (p : ℕ). AllowsZero m (cell m side now p p)) same_node free

        pivoted_to : PivotedTo m M (cell m side now) (suc n + k) (cell m side next)
        pivoted_to u v hu hv =
            let (s, e) = answered u v hu hv in
            (s, e, subst (λ (p : ℕ). cell m side next u v ≡ pivoted m side p now u v) same_node (rows u v (omega arith) (omega arith)) ∙ ap (with_sum m (cell m side now u v)) e)

        pub middle_more : Beyond m (side * side) now next → Middle m n (k + 1) before next
        middle_more beyond =
            subst (λ (j : ℕ). Middle m n j before next) (omega arith)
            (let made : Middle m n (suc k) before next = record {
              sized = sized_pivot m laws M (cell m side now) (suc n + k) (omega arith) (cell m side next) pivoted_to free_node (row (λ i. suc n + i) k) (2 ^ 40) t.sized;
              joining = λ c d first second j. join_step m laws n c d (table_of m n first) (table_of m n second) k (omega arith) (cell m side now) (cell m side next)
                  (t.joining c d first second j) free_node pivoted_to;
              beyond = λ i h. beyond i h ∙ t.beyond i h;
            } in made)
