-- Where every place of a table is tighter, every limit is. Assumes nothing.
use Rattle.std.proofs.Common.{◌≡◌, ℕ, ◌+◌, ◌*◌, ◌^◌, ◌<◌, ◌≤◌, true, List, Some, refl, subst, arith}
use Rattle.bound.specs.Meaning.{Meaning, Laws, SumOf, tighter_of}
use Rattle.bound.proofs.Lawful.{inside_tighter}
use Rattle.runs.specs.Limits.{Name, NameOf}
use Rattle.runs.specs.Normal.{place, IsLimit}
use Rattle.runs.proofs.MotionSizes.{limit_sum}
use Rattle.table.specs.Cells.{Small}
use Rattle.table.specs.Compared.{Parts, straight, crossed, limit_at, tighter_at, AllTighter}
use Rattle.table.proofs.LimitSums.{limit_value, limit_is}
use Rattle.table.proofs.Strides.{row_within}

low : {n i : ℕ} → i ≤ n → i < 2 * n + 2
low h = omega arith

high : {n i : ℕ} → i ≤ n → n + 1 + i < 2 * n + 2
high h = omega arith

-- the parts of a limit's name are up to n
pub parts : {n : ℕ} {l : Name} → NameOf n l → Parts n l
parts of = record { a_most = of.a_most; b_most = of.b_most; c_most = of.c_most; d_most = of.d_most }

module _ {B : Type 0} (m : Meaning B) (laws : Laws m) (n : ℕ) where
  -- LIMIT: the limit of a small table under a name is the tighter of the two sums
  pub limit_at_is : (table : List B) → Small m (2 * n + 2) table → (l : Name) → Parts n l → IsLimit m n table l (limit_at m n table l)
  limit_at_is table small l of =
      go (limit_sum m laws _ _ (small l.b l.a (low of.b_most) (low of.a_most)) (small (n + 1 + l.d) (n + 1 + l.c) (high of.d_most) (high of.c_most)))
      (limit_sum m laws _ _ (small (n + 1 + l.d) l.a (high of.d_most) (low of.a_most)) (small l.b (n + 1 + l.c) (low of.b_most) (high of.c_most)))
    where
      go : ((s : B) × (straight m n table l ≡ Some s) × (m.size_of s ≤ 2 ^ 40 + 2 ^ 40))
          → ((x : B) × (crossed m n table l ≡ Some x) × (m.size_of x ≤ 2 ^ 40 + 2 ^ 40)) → IsLimit m n table l (limit_at m n table l)
      go (s, es, _) (x, ex, _) =
          subst (IsLimit m n table l) (limit_value m n table l s x (tighter_of m s x) es ex refl) (limit_is m n table l s x (tighter_of m s x) es ex refl laws)

  -- a sum of tighter bounds allows less
  sum_inside : (a b a' b' : B) → m.tighter a a' ≡ true → m.tighter b b' ≡ true → (d : m.differences.Diff) → SumOf m a b d → SumOf m a' b' d
  sum_inside a b a' b' h k d (e, f, p, q, same) = (e, f, laws.tighter_yes a a' h e p, laws.tighter_yes b b' k f q, same)

  -- TIGHTER: under every name
  pub tighter_under : (table other : List B) → Small m (2 * n + 2) table → Small m (2 * n + 2) other
      → AllTighter m ((2 * n + 2) * (2 * n + 2)) table other → (l : Name) → NameOf n l → tighter_at m n table other l ≡ true
  tighter_under table other small small' all l of =
      inside_tighter m laws (limit_at m n table l) (limit_at m n other l) (λ x h.
      let p = (limit_at_is table small l (parts of) x).0 h in
      (limit_at_is other small' l (parts of) x).1 (
        sum_inside _ _ _ _ (at_place l.b l.a (low of.b_most) (low of.a_most)) (at_place (n + 1 + l.d) (n + 1 + l.c) (high of.d_most) (high of.c_most)) x p.0,
        sum_inside _ _ _ _ (at_place (n + 1 + l.d) l.a (high of.d_most) (low of.a_most)) (at_place l.b (n + 1 + l.c) (low of.b_most) (high of.c_most)) x p.1,
      ))
    where
      at_place : (u v : ℕ) → u < 2 * n + 2 → v < 2 * n + 2 → m.tighter (place m n table u v) (place m n other u v) ≡ true
      at_place u v hu hv = all (u * (2 * n + 2) + v) (omega (arith, row_within u (2 * n + 2) hu))
