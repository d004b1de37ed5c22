-- A pivot on a table of bounds: it is a pivot of what they allow, and sizes grow so slowly that no sum in a join is refused. Assumes nothing.
use Rattle.std.proofs.Common.{◌≡◌, ℕ, ◌+◌, ◌*◌, ◌^◌, ◌<◌, ◌≤◌, Bool, true, false, cond, ◌⊎◌, ◌↔◌, List, ◌∷◌, length, Some, sym, refl, subst, inl, inr, mul-le-mul_right, arith, lit≤}
use Rattle.bound.specs.Differences.{Differences, Ordered, zero_of}
use Rattle.bound.specs.Meaning.{Meaning, Laws, Inside, tighter_of}
use Rattle.bound.proofs.Lawful.{inside_tighter, tighter_else, tighter_both, tighter_either}
use Rattle.runs.specs.Tables.{Table, Within, Sum, Pivoted, IsPivot}
use Rattle.runs.proofs.Sums.{sum_swap, sum_map, sum_nought}
use Rattle.runs.proofs.Pivot.{SameTable, same_settled}
use Rattle.runs.specs.Sizes.{Mask, AllUsed, count, OnWay, SizedBy}
use Rattle.runs.specs.Places.{allowed_at, size_at, PivotedTo}
use Rattle.runs.proofs.Sizes.{Resized, sized_step, sized_bound, used_map}
use Rattle.runs.proofs.Bounds.{sum_is, sum_there}

-- sizes are as they were in a table that allows the same
sized_same : {D : Differences} (o : Ordered D) (N : ℕ) (V W : Table D) → SameTable D N V W → (ps : List ℕ) (S : ℕ) (size : ℕ → ℕ → ℕ)
    → SizedBy D N V ps S size → SizedBy D N W ps S size
sized_same {D} o N V W same ps S size h u v hu hv = go (h u v hu hv)
  where
    on : (q : ℕ) → OnWay D N V u v q → OnWay D N W u v q
    on q w =
        record {
          below = w.below;
          settled = same_settled o N V W same q w.below w.settled;
          passing = λ d x. (same u v hu hv d).0 (w.passing d
              (sum_map o (W u q) (W q v) (V u q) (V q v) (λ e. (same u q hu w.below e).1) (λ f. (same q v w.below hv f).1) d x));
        }

    go : ((a : Mask ps) × AllUsed (OnWay D N V u v) ps a × (size u v ≤ (count ps a + 1) * S))
        → (a : Mask ps) × AllUsed (OnWay D N W u v) ps a × (size u v ≤ (count ps a + 1) * S)
    go (a, k, l) = (a, used_map (OnWay D N V u v) (OnWay D N W u v) on ps a k, l)

module _ {B : Type 0} (m : Meaning B) (laws : Laws m) (N : ℕ) (W : ℕ → ℕ → B) (p : ℕ) (hp : p < N) where
  abbrev D : Differences
  D = m.differences

  module _ (V : ℕ → ℕ → B) (pivot : PivotedTo m N W p V) where
    -- PIVOT
    pub bound_pivot : IsPivot D N (allowed_at m W) p (allowed_at m V)
    bound_pivot = record { both = λ u v hu hv d. go_both u v d (pivot u v hu hv); either = λ u v hu hv. go_either u v (pivot u v hu hv) }
      where
        Step : ℕ → ℕ → Type 0
        Step u v = (s : B) × (m.sum (W u p) (W p v) ≡ Some s) × (V u v ≡ tighter_of m (W u v) s)

        go_both : (u v : ℕ) (d : D.Diff) → Step u v → m.allows (V u v) d ↔ (m.allows (W u v) d × Sum D (m.allows (W u p)) (m.allows (W p v)) d)
        go_both u v d (s, e, k) =
            subst (λ b. (m.allows b d ↔ (m.allows (W u v) d × Sum D (m.allows (W u p)) (m.allows (W p v)) d))) (sym k)
            (let both = tighter_both m laws (W u v) s d in
            let sum = sum_is m laws (W u p) (W p v) s e d in
            ((λ h. ((both.0 h).0, sum.0 (both.0 h).1)), (λ h. both.1 (h.0, sum.1 h.1))))

        go_either : (u v : ℕ) → Step u v → Within D (m.allows (W u v)) (m.allows (V u v)) ⊎ Within D (Sum D (m.allows (W u p)) (m.allows (W p v))) (m.allows (V u v))
        go_either u v (s, e, k) = pick (tighter_either m laws (W u v) s)
          where
            pick : Inside m (W u v) (tighter_of m (W u v) s) ⊎ Inside m s (tighter_of m (W u v) s)
                → Within D (m.allows (W u v)) (m.allows (V u v)) ⊎ Within D (Sum D (m.allows (W u p)) (m.allows (W p v))) (m.allows (V u v))
            pick (inl h) = inl (λ d x. subst (λ b. m.allows b d) (sym k) (h d x))
            pick (inr h) = inr (λ d x. subst (λ b. m.allows b d) (sym k) (h d ((sum_is m laws (W u p) (W p v) s e d).1 x)))

    resized : (u v : ℕ) → u < N → v < N → Resized D (allowed_at m W) p (size_at m W) (size_at m V) u v
    resized u v hu hv = go (pivot u v hu hv)
      where
        go : ((s : B) × (m.sum (W u p) (W p v) ≡ Some s) × (V u v ≡ tighter_of m (W u v) s)) → Resized D (allowed_at m W) p (size_at m W) (size_at m V) u v
        go (s, e, k) = by (m.tighter (W u v) s) refl
          where
            sum : (d : D.Diff) → m.allows s d ↔ Sum D (m.allows (W u p)) (m.allows (W p v)) d
            sum = sum_is m laws (W u p) (W p v) s e

            is : (t : Bool) → m.tighter (W u v) s ≡ t → V u v ≡ cond t (W u v) s
            is t h = subst (λ t. V u v ≡ cond t (W u v) s) h k

            by : (t : Bool) → m.tighter (W u v) s ≡ t → Resized D (allowed_at m W) p (size_at m W) (size_at m V) u v
            by true h =
                record {
                  either = inl (λ d x. (sum d).0 (laws.tighter_yes (W u v) s h d x));
                  equal = λ _. subst (λ b. m.size_of b ≡ m.size_of (W u v)) (sym (is true h)) refl;
                }
            by false h =
                record {
                  either = inr (
                    (λ d x. tighter_else m laws (W u v) s h d ((sum d).1 x)),
                    subst (λ b. m.size_of b ≤ m.size_of (W u p) + m.size_of (W p v)) (sym (is false h)) (laws.sum_size (W u p) (W p v) s e),
                  );
                  equal = λ w. subst (λ b. m.size_of b ≡ m.size_of (W u v)) (sym (is false h))
                      (laws.same_size s (W u v) (tighter_else m laws (W u v) s h) (λ d x. (sum d).1 (w d x)));
                }

    -- SIZED: a pivot keeps the rule of sizes, with one node more.
    pub sized_pivot : m.allows (W p p) (zero_of D) → (ps : List ℕ) (S : ℕ) → SizedBy D N (allowed_at m W) ps S (size_at m W)
        → SizedBy D N (allowed_at m V) (p ∷ ps) S (size_at m V)
    sized_pivot free ps S sized =
        sized_same laws.ordered N (Pivoted D (allowed_at m W) p) (allowed_at m V)
        (λ u v hu hv d. ((bound_pivot.both u v hu hv d).1, (bound_pivot.both u v hu hv d).0)) (p ∷ ps) S (size_at m V)
        (sized_step laws.ordered N (allowed_at m W) (λ u v. laws.lower (W u v)) p hp free ps S (size_at m W) (size_at m V) sized resized)

  -- IN PLACE: where the place of p allows 0, its row and its column stay as they are, to the bound.
  pub column_stays : m.allows (W p p) (zero_of D) → (u : ℕ) (s : B) → m.sum (W u p) (W p p) ≡ Some s → tighter_of m (W u p) s ≡ W u p
  column_stays free u s e =
      subst (λ t. cond t (W u p) s ≡ W u p) (sym (inside_tighter m laws (W u p) s (λ d h. (sum_is m laws (W u p) (W p p) s e d).1
      (sum_nought laws.ordered (m.allows (W u p)) (m.allows (W p p)) free d h)))) refl

  pub row_stays : m.allows (W p p) (zero_of D) → (v : ℕ) (s : B) → m.sum (W p p) (W p v) ≡ Some s → tighter_of m (W p v) s ≡ W p v
  row_stays free v s e =
      subst (λ t. cond t (W p v) s ≡ W p v) (sym (inside_tighter m laws (W p v) s (λ d h. (sum_is m laws (W p p) (W p v) s e d).1
      (sum_swap laws.ordered (m.allows (W p v)) (m.allows (W p p)) d (sum_nought laws.ordered (m.allows (W p v)) (m.allows (W p p)) free d h))))) refl

  -- ANSWERED: after up to 8 pivots on a table in which no size was above 2^40, no sum by way of p is refused.
  pub sum_answered : (ps : List ℕ) → length ps ≤ 8 → SizedBy D N (allowed_at m W) ps (2 ^ 40) (size_at m W)
      → (u v : ℕ) → u < N → v < N → (s : B) × (m.sum (W u p) (W p v) ≡ Some s)
  sum_answered ps few sized u v hu hv =
      let a = sized_bound D N (allowed_at m W) ps (2 ^ 40) (size_at m W) sized u p hu hp in
      let b = sized_bound D N (allowed_at m W) ps (2 ^ 40) (size_at m W) sized p v hp hv in
      let few' : length ps + 1 ≤ 9 = omega arith in
      let c : (length ps + 1) * 2 ^ 40 ≤ 9 * 2 ^ 40 = mul-le-mul_right (2 ^ 40) few' in
      let d : 9 * 2 ^ 40 + 9 * 2 ^ 40 ≤ 2 ^ 46 = lit≤ tt in
      sum_there m laws (W u p) (W p v) (omega arith)
