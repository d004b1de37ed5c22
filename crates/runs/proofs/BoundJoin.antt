-- The working of a join on tables of bounds: at first, a pivot, no sum refused, and the end. Assumes nothing.
use Rattle.std.proofs.Common.{◌≡◌, ℕ, suc, ◌+◌, ◌^◌, ◌<◌, ◌≤◌, ◌++◌, Some, arith}
use Rattle.bound.specs.Differences.{Differences, zero_of}
use Rattle.bound.specs.Meaning.{Meaning, Laws}
use Rattle.runs.specs.Lists.{row}
use Rattle.chart.specs.Charts.{Chart, ChartOf}
use Rattle.runs.specs.Tables.{Table, IsJoined}
use Rattle.runs.specs.Good.{Good}
use Rattle.runs.specs.Places.{allowed_at, size_at, PivotedTo}
use Rattle.runs.specs.Joining.{JoiningBounds, join_name}
use Rattle.runs.proofs.Lists.{length_row}
use Rattle.runs.proofs.NodeNames.{join_names}
use Rattle.runs.proofs.Sizes.{sized_first}
use Rattle.runs.proofs.BoundPivot.{bound_pivot, sized_pivot, sum_answered}
use Rattle.runs.proofs.GoodJoin.{joining_first, joining_step, good_join}

module _ {B : Type 0} (m : Meaning B) (laws : Laws m) (n : ℕ) (c d : Chart) (S T : Table m.differences) where
  abbrev D : Differences
  D = m.differences

  abbrev M : ℕ
  M = suc n + (suc n + suc n)

  -- FIRST
  pub join_first : Good D n c S → Good D n d T → (W : ℕ → ℕ → B) → IsJoined D (suc n) S T (allowed_at m W)
      → ((u v : ℕ) → u < M → v < M → m.size_of (W u v) ≤ 2 ^ 40) → JoiningBounds m n c d S T 0 W
  join_first good good' W joined small =
      record {
        joining = joining_first laws.ordered n c d S T good good' (allowed_at m W) (λ u v. laws.lower (W u v)) joined;
        sized = sized_first D M (allowed_at m W) (2 ^ 40) (size_at m W) small;
      }

  -- ANSWERED: with up to 8 timers no sum of a pivot is refused.
  pub join_answered : n ≤ 8 → (k : ℕ) → k ≤ n → (W : ℕ → ℕ → B) → JoiningBounds m n c d S T k W
      → (u v : ℕ) → u < M → v < M → (s : B) × (m.sum (W u (suc n + k)) (W (suc n + k) v) ≡ Some s)
  join_answered few k l W j =
      let e = length_row (λ i. suc n + i) k in
      sum_answered m laws M W (suc n + k) (omega arith) (row (λ i. suc n + i) k) (omega arith) j.sized

  -- STEP
  pub join_step : (k : ℕ) → k ≤ n → (W V : ℕ → ℕ → B) → JoiningBounds m n c d S T k W → m.allows (W (suc n + k) (suc n + k)) (zero_of D)
      → PivotedTo m M W (suc n + k) V → JoiningBounds m n c d S T (suc k) V
  join_step k l W V j free pivot =
      record {
        joining = joining_step laws.ordered n c d S T k (allowed_at m W) (allowed_at m V) j.joining l free (λ u v. laws.lower (V u v))
            (bound_pivot m laws M W (suc n + k) (omega arith) V pivot);
        sized = sized_pivot m laws M W (suc n + k) (omega arith) V pivot free (row (λ i. suc n + i) k) (2 ^ 40) j.sized;
      }

  -- JOIN: after a pivot on every node of the middle, the new names make the joined chart's table.
  pub join_last : Good D n c S → Good D n d T → ChartOf n d → (W : ℕ → ℕ → B) → JoiningBounds m n c d S T (suc n) W
      → Good D n (c ++ d) (allowed_at m (λ u v. W (join_name n u) (join_name n v)))
  join_last good good' of W j =
      good_join laws.ordered n c d S T good good' of (allowed_at m W) j.joining (join_name n) (join_names n)
