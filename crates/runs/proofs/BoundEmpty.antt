-- The empty chart's table of bounds is good, and its sizes are at most 1. Assumes nothing.
use Rattle.std.proofs.Common.{◌≡◌, ℕ, suc, ◌+◌, ◌<◌, ◌≤◌, false, ◌⊎◌, ◌↔◌, [], pos, Some, sym, subst, arith}
use Rattle.bound.specs.Differences.{Differences}
use Rattle.bound.specs.Meaning.{Meaning, Laws}
use Rattle.runs.specs.Good.{Good}
use Rattle.runs.specs.Empty.{base, EmptyTable, EmptyTo}
use Rattle.runs.specs.Places.{allowed_at}
use Rattle.runs.proofs.GoodEmpty.{touch, good_empty}
use Rattle.runs.proofs.GoodRuns.{good_same}

module _ {B : Type 0} (m : Meaning B) (laws : Laws m) (zero : B) (is_zero : m.written false (pos 0) ≡ Some zero) (n : ℕ) (W : ℕ → ℕ → B) (empty : EmptyTo m n zero W) where
  abbrev D : Differences
  D = m.differences

  abbrev Touch : ℕ → ℕ → Type 0
  Touch u v = (base n v ≡ 0) ⊎ (base n u ≡ base n v)

  -- what holds of the zero bound where dates touch, and of the open one elsewhere, holds of every place
  by_touch : (P : ℕ → ℕ → B → Type 0) → ((u v : ℕ) → Touch u v → P u v zero) → ((u v : ℕ) → (Touch u v → ⊥) → P u v m.opened)
      → (u v : ℕ) → u < suc n + suc n → v < suc n + suc n → P u v (W u v)
  by_touch P h k u v hu hv = go (touch (base n u) (base n v))
    where
      go : Dec (Touch u v) → P u v (W u v)
      go (yes t) = subst (P u v) (sym (empty.touching u v hu hv t)) (h u v t)
      go (no t) = subst (P u v) (sym (empty.apart u v hu hv t)) (k u v t)

  -- EMPTY
  pub empty_good : Good D n [] (allowed_at m W)
  empty_good =
      good_same laws.ordered n [] (EmptyTable D n) (allowed_at m W)
      (λ u v hu hv d. by_touch (λ u v b. (EmptyTable D n u v d ↔ m.allows b d))
      (λ u v t. ((λ h. (laws.written_allows false (pos 0) zero is_zero d).1 (h t)), (λ h _. (laws.written_allows false (pos 0) zero is_zero d).0 h)))
      (λ u v t. ((λ h. laws.open_allows d), (λ h k. absurd (t k)))) u v hu hv)
      (λ u v. laws.lower (W u v)) (good_empty laws.ordered n)

  pub empty_small : (u v : ℕ) → u < suc n + suc n → v < suc n + suc n → m.size_of (W u v) ≤ 1
  empty_small =
      by_touch (λ u v b. m.size_of b ≤ 1) (λ u v t. let h = laws.written_size false (pos 0) zero is_zero in omega arith)
      (λ u v t. let e = laws.open_size in omega arith)
