-- From what a kind's functions answer to the sets that bounds allow: sums, and the tightest of several. Assumes nothing.
use Rattle.std.proofs.Common.{◌≡◌, ◌+◌, ◌^◌, ◌≤◌, ◌⊎◌, ◌↔◌, Some, None, Option, refl, inl, inr, arith}
use Rattle.bound.specs.Differences.{Differences}
use Rattle.bound.specs.Meaning.{Meaning, Laws}
use Rattle.bound.proofs.Lawful.{sum_some}
use Rattle.runs.specs.Tables.{Set, Within, Sum, TightestOf}
use Rattle.runs.proofs.Sums.{sum_exact}

module _ {B : Type 0} (m : Meaning B) (laws : Laws m) where
  abbrev D : Differences
  D = m.differences

  -- the sum of two bounds allows the sum of the sets
  pub sum_is : (a b s : B) → m.sum a b ≡ Some s → (d : D.Diff) → m.allows s d ↔ Sum D (m.allows a) (m.allows b) d
  sum_is a b s e d =
      let exact = sum_exact laws.ordered (m.allows a) (m.allows b) (laws.lower a) d in
      let law = laws.sum_allows a b s e d in
      ((λ h. exact.1 (law.0 h)), (λ h. law.1 (exact.0 h)))

  -- a sum that is not too large is answered
  pub sum_there : (a b : B) → m.size_of a + m.size_of b ≤ 2 ^ 46 → (s : B) × (m.sum a b ≡ Some s)
  sum_there a b h = go (m.sum a b) refl
    where
      go : (r : Option B) → m.sum a b ≡ r → (s : B) × (m.sum a b ≡ Some s)
      go (Some s) e = (s, e)
      go None e = absurd (sum_some m laws a b (omega (arith, laws.reach_enough)) e)

-- ── The tightest of a growing family ──

module _ (D : Differences) where
  pub tightest_none : {I : Type 0} (S : I → Set D) (Q : Set D) → (I → ⊥) → ((d : D.Diff) → Q d) → TightestOf D S Q
  tightest_none S Q none h = record { within = λ i. absurd (none i); reached = inr h }

  -- one more set R: every set of the new family holds an old one or R, and each of these holds one of the new family
  pub tightest_more : {I J : Type 0} (S : I → Set D) (S' : J → Set D) (Q R Q' : Set D) → TightestOf D S Q
      → ((j : J) → ((i : I) × Within D (S i) (S' j)) ⊎ Within D R (S' j)) → ((i : I) → (j : J) × Within D (S' j) (S i)) → ((j : J) × Within D (S' j) R)
      → ((d : D.Diff) → Q' d ↔ (Q d × R d)) → Within D Q Q' ⊎ Within D R Q' → TightestOf D S' Q'
  tightest_more {I} {J} S S' Q R Q' t old new one both either =
      record { within = λ j d h. below j d h (old j); reached = above either t.reached }
    where
      below : (j : J) (d : D.Diff) → Q' d → ((i : I) × Within D (S i) (S' j)) ⊎ Within D R (S' j) → S' j d
      below j d h (inl (i, k)) = k d (t.within i d ((both d).0 h).0)
      below j d h (inr k) = k d ((both d).0 h).1

      above : Within D Q Q' ⊎ Within D R Q' → ((i : I) × Within D (S i) Q) ⊎ ((d : D.Diff) → Q d) → ((j : J) × Within D (S' j) Q') ⊎ ((d : D.Diff) → Q' d)
      above (inl h) (inl (i, k)) = let (j, l) = new i in inl (j, λ d x. h d (k d (l d x)))
      above (inl h) (inr k) = inr (λ d. h d (k d))
      above (inr h) _ = let (j, l) = one in inl (j, λ d x. h d (l d x))
