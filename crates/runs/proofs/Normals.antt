-- Normalised tables of bounds: their limits from sums, and their sizes. Assumes nothing.
use Rattle.std.proofs.Common.{◌≡◌, ℕ, ◌+◌, ◌*◌, ◌^◌, ◌<◌, ◌↔◌, List, Some, subst}
use Rattle.bound.specs.Meaning.{Meaning, Laws, tighter_of}
use Rattle.bound.proofs.Lawful.{tighter_both}
use Rattle.chart.specs.Charts.{Chart}
use Rattle.runs.specs.Graph.{node, Tightest}
use Rattle.runs.specs.Limits.{Name}
use Rattle.runs.specs.Normal.{place, Normalised, IsLimit, Large}
use Rattle.runs.proofs.GoodRuns.{tightest_same}

module _ {B : Type 0} (m : Meaning B) (laws : Laws m) (n : ℕ) where
  -- LIMIT: the tighter of the two sums
  pub limit_of_sums : (bounds : List B) (l : Name) (straight crossed : B)
      → m.sum (place m n bounds l.b l.a) (place m n bounds (n + 1 + l.d) (n + 1 + l.c)) ≡ Some straight
      → m.sum (place m n bounds (n + 1 + l.d) l.a) (place m n bounds l.b (n + 1 + l.c)) ≡ Some crossed
      → IsLimit m n bounds l (tighter_of m straight crossed)
  limit_of_sums bounds l straight crossed e f x =
      let both = tighter_both m laws straight crossed x in
      let s = laws.sum_allows _ _ straight e x in
      let r = laws.sum_allows _ _ crossed f x in
      ((λ h. (s.0 (both.0 h).0, r.0 (both.0 h).1)), (λ h. both.1 (s.1 h.0, r.1 h.1)))

  -- bounds that are tightest between the same dates are of one size
  same_size : (c : Chart) (u v : ℕ) (a b : B) → Tightest m.differences n c (node n c u) (node n c v) (m.allows a)
      → Tightest m.differences n c (node n c u) (node n c v) (m.allows b) → m.size_of a ≡ m.size_of b
  same_size c u v a b s t =
      laws.same_size a b (tightest_same m.differences n c (node n c u) (node n c v) (m.allows a) (m.allows b) s t)
      (tightest_same m.differences n c (node n c u) (node n c v) (m.allows b) (m.allows a) t s)

  -- LARGE: the chart's normalised table is large exactly where a normalised list of bounds is.
  pub large_place : (c : Chart) (bounds : List B) → Normalised m n c bounds
      → Large m n c ↔ ((u : ℕ) × (v : ℕ) × (u < 2 * n + 2) × (v < 2 * n + 2) × (2 ^ 40 < m.size_of (place m n bounds u v)))
  large_place c bounds normal = (
    (λ (u, v, hu, hv, b, t, l). (u, v, hu, hv, subst (λ s. 2 ^ 40 < s) (same_size c u v b (place m n bounds u v) t (normal u v hu hv)) l)),
    (λ (u, v, hu, hv, l). (u, v, hu, hv, place m n bounds u v, normal u v hu hv, l)),
  )
