-- The working of a motion, from its parts: what a failed test tells, the new table, and its sizes. Assumes nothing.
use Rattle.std.proofs.Common.{◌≡◌, ℕ, suc, ◌+◌, ◌-◌, ◌*◌, ◌^◌, ◌<◌, ◌≤◌, Bool, true, false, cond, leb, ◌⊎◌, ◌↔◌, List, [], ◌∷◌, ◌++◌, pos, Some, sym, refl, ap, ◌∙◌, subst, subst₂, inl, inr, arith}
use native.Mathlib.Decide.{dec_lt}
use Rattle.std.proofs.lemmas.Bool.{cond-true, cond-false, lt-ltb, le-ltb}
use Rattle.bound.specs.Differences.{zero_of}
use Rattle.bound.specs.Meaning.{Meaning, Laws, tighter_of}
use Rattle.chart.specs.Charts.{Motion, Chart, MotionOf, restarts_timer}
use Rattle.runs.specs.Runs.{HasRun}
use Rattle.runs.specs.Graph as graph
use Rattle.runs.specs.Tables.{Sum}
use Rattle.runs.specs.Places.{allowed_at, PivotedTo}
use Rattle.runs.specs.Good.{Good}
use Rattle.runs.specs.Normal as normal
use Rattle.runs.specs.Normal.{table_of}
use Rattle.runs.specs.Motions.{motion_name}
use Rattle.runs.proofs.Bounds.{sum_there}
use Rattle.runs.proofs.BoundPivot.{bound_pivot, column_stays, row_stays}
use Rattle.runs.proofs.NodeNames.{motion_names}
use Rattle.runs.proofs.MotionChains.{motion_never}
use Rattle.runs.proofs.GoodMotion.{good_motion}
use Rattle.runs.proofs.GoodRuns.{good_same, has_run, tightest}
use Rattle.table.specs.Cells.{at, cell, Rows, Small, with_sum, relaxed}
use Rattle.motions.specs.Windows.{Direct}
use Rattle.table.specs.declared.found.Found.{Found}
use Rattle.table.specs.declared.found.Found.TheVariants.{Runs, Never, Large}
use Rattle.table.specs.Finds.{Finds}
use Rattle.motions.specs.Star.{Settled, to_new, from_new, SpreadTo, TripAllows, StarFits, with_new, settled_cell, new_cell}
use Rattle.table.proofs.ChartTables.{chart_table}
use Rattle.motions.proofs.NewTables.{motion_bounds, into_small, onward_small, best_small, at_old, spread_is}

-- a node keeps its name, or is the new now
name_either : (n : ℕ) (motion : Motion) (u : ℕ) → (motion_name n motion u ≡ u) ⊎ (motion_name n motion u ≡ suc n + suc n)
name_either n motion u = one (leb u n)
  where
    three : (b : Bool) → (cond b (suc n + suc n) u ≡ u) ⊎ (cond b (suc n + suc n) u ≡ suc n + suc n)
    three true = inr refl
    three false = inl refl

    two : (b : Bool) → (cond b (suc n + suc n) (cond (restarts_timer motion (u - (n + 1))) (suc n + suc n) u) ≡ u) ⊎ (cond b (suc n + suc n) (cond (restarts_timer motion (u - (n + 1))) (suc n + suc n) u) ≡ suc n + suc n)
    two true = inr refl
    two false = three (restarts_timer motion (u - (n + 1)))

    one : (b : Bool) → (cond b u (cond (leb u (n + 1)) (suc n + suc n) (cond (restarts_timer motion (u - (n + 1))) (suc n + suc n) u)) ≡ u)
        ⊎ (cond b u (cond (leb u (n + 1)) (suc n + suc n) (cond (restarts_timer motion (u - (n + 1))) (suc n + suc n) u)) ≡ suc n + suc n)
    one true = inl refl
    one false = two (leb u (n + 1))

module _ {B : Type 0} (m : Meaning B) (laws : Laws m) (nil : B) (is_zero : m.written false (pos 0) ≡ Some nil) (n : ℕ) (motion : Motion) (table before after : List B)
    (direct : Direct m nil n motion.windows before) (small : Small m (2 * n + 2) table) (spread : SpreadTo m n table before after) where
  abbrev N : ℕ
  N = suc n + suc n

  abbrev W : ℕ → ℕ → B
  W = with_new m nil n table after

  -- ── Sizes ──

  abbrev most : ℕ
  most = 2 ^ 40 + (10 ^ 9 + 1)

  front_small : (i : ℕ) → i < 2 * n + 2 → m.size_of (at m before i) ≤ 10 ^ 9 + 1
  front_small i h =
      elim (dec_lt i (n + 1)) [
        | yes l ↦ into_small m laws nil is_zero n motion before direct i l
        | no l ↦
            let e : n + 1 + (i - (n + 1)) ≡ i = omega arith in
            subst (λ (k : ℕ). m.size_of (at m before k) ≤ 10 ^ 9 + 1) e (onward_small m laws nil is_zero n motion before direct (i - (n + 1)) (omega arith))
      ]

  to_small : (u : ℕ) → u < 2 * n + 2 → m.size_of (to_new m n table before u) ≤ most
  to_small u h =
      best_small m laws nil is_zero n _ _ (n + 1) most (λ i l. let a = small u (n + 1 + i) h (omega arith) in let b = front_small i (omega arith) in omega (arith, a, b))

  from_small : (v : ℕ) → v < 2 * n + 2 → m.size_of (from_new m n table before v) ≤ most
  from_small v h =
      best_small m laws nil is_zero n _ _ n most (λ i l. let a = front_small (n + 2 + i) (omega arith) in let b = small (n + 2 + i) v (omega arith) h in omega (arith, a, b))

  star_small : (i : ℕ) → i < 6 * n + 6 → m.size_of (at m after i) ≤ most
  star_small i h =
      elim (dec_lt i (2 * n + 2)) [
        | yes l ↦ subst (λ x. m.size_of x ≤ most) (sym (spread.front i l)) (let a = front_small i l in omega (arith, a))
        | no l ↦ elim (dec_lt i (4 * n + 4)) [
          | yes k ↦
              let e : 2 * n + 2 + (i - (2 * n + 2)) ≡ i = omega arith in
              subst (λ (j : ℕ). m.size_of (at m after j) ≤ most) e (subst (λ x. m.size_of x ≤ most) (sym (spread.toward_new (i - (2 * n + 2)) (omega arith))) (to_small (i - (2 * n + 2)) (omega arith)))
          | no k ↦
              let e : 4 * n + 4 + (i - (4 * n + 4)) ≡ i = omega arith in
              subst (λ (j : ℕ). m.size_of (at m after j) ≤ most) e (subst (λ x. m.size_of x ≤ most) (sym (spread.out_of_new (i - (4 * n + 4)) (omega arith))) (from_small (i - (4 * n + 4)) (omega arith)))
        ]
      ]

  -- FITS: every sum of two of the star's bounds is within the reach
  pub star_fits : StarFits m n after
  star_fits i j hi hj = let a = star_small i hi in let b = star_small j hj in omega (arith, laws.reach_enough, a, b)

  -- ── The table with the new now ──

  -- the bound between two nodes, old or new, in the work table's own places
  to_place : (u k : ℕ) → u < 2 * n + 2 → 2 * n + 2 ≤ k → W u k ≡ at m after (2 * n + 2 + u)
  to_place u k hu hk = cond-true _ _ _ (lt-ltb u (2 * n + 2) hu) ∙ cond-false _ _ _ (le-ltb k (2 * n + 2) hk)

  from_place : (k v : ℕ) → 2 * n + 2 ≤ k → v < 2 * n + 2 → W k v ≡ at m after (4 * n + 4 + v)
  from_place k v hk hv = cond-false _ _ _ (le-ltb k (2 * n + 2) hk) ∙ cond-true _ _ _ (lt-ltb v (2 * n + 2) hv)

  new_place : (k l : ℕ) → 2 * n + 2 ≤ k → 2 * n + 2 ≤ l → W k l ≡ nil
  new_place k l hk hl = cond-false _ _ _ (le-ltb k (2 * n + 2) hk) ∙ cond-false _ _ _ (le-ltb l (2 * n + 2) hl)

  nil_small : m.size_of nil ≤ 1
  nil_small = laws.written_size false (pos 0) nil is_zero

  into_new_small : (u : ℕ) → u < suc N → m.size_of (W u N) ≤ most
  into_new_small u h =
      elim (dec_lt u (2 * n + 2)) [
        | yes l ↦ subst (λ x. m.size_of x ≤ most) (sym (to_place u N l (omega arith))) (star_small (2 * n + 2 + u) (omega arith))
        | no l ↦ subst (λ x. m.size_of x ≤ most) (sym (new_place u N (omega arith) (omega arith))) (let a = nil_small in omega (arith, a))
      ]

  from_new_small : (v : ℕ) → v < suc N → m.size_of (W N v) ≤ most
  from_new_small v h =
      elim (dec_lt v (2 * n + 2)) [
        | yes l ↦ subst (λ x. m.size_of x ≤ most) (sym (from_place N v (omega arith) l)) (star_small (4 * n + 4 + v) (omega arith))
        | no l ↦ subst (λ x. m.size_of x ≤ most) (sym (new_place N v (omega arith) (omega arith))) (let a = nil_small in omega (arith, a))
      ]

  sums : (u v : ℕ) → u < suc N → v < suc N → (s : B) × (m.sum (W u N) (W N v) ≡ Some s)
  sums u v hu hv = let a = into_new_small u hu in let b = from_new_small v hv in sum_there m laws (W u N) (W N v) (omega (arith, a, b))

  -- its pivot on the new now
  abbrev V : ℕ → ℕ → B
  V u v = relaxed m (W u v) (W u N) (W N v)

  pivoted_to : PivotedTo m (suc N) W N V
  pivoted_to u v hu hv = go (sums u v hu hv)
    where
      go : ((s : B) × (m.sum (W u N) (W N v) ≡ Some s)) → (s : B) × (m.sum (W u N) (W N v) ≡ Some s) × (V u v ≡ tighter_of m (W u v) s)
      go (s, e) = (s, e, ap (with_sum m (W u v)) e)

  free : m.allows (W N N) (zero_of m.differences)
  free = subst (λ x. m.allows x (zero_of m.differences)) (sym (new_place N N (omega arith) (omega arith))) ((laws.written_allows false (pos 0) nil is_zero (zero_of m.differences)).1 (laws.ordered.le_refl (zero_of m.differences)))

  column : (u : ℕ) → u < suc N → V u N ≡ W u N
  column u h = go (sums u N h (omega arith))
    where
      go : ((s : B) × (m.sum (W u N) (W N N) ≡ Some s)) → V u N ≡ W u N
      go (s, e) = ap (with_sum m (W u N)) e ∙ column_stays m laws (suc N) W N (omega arith) free u s e

  own_row : (v : ℕ) → v < suc N → V N v ≡ W N v
  own_row v h = go (sums N v (omega arith) h)
    where
      go : ((s : B) × (m.sum (W N N) (W N v) ≡ Some s)) → V N v ≡ W N v
      go (s, e) = ap (with_sum m (W N v)) e ∙ row_stays m laws (suc N) W N (omega arith) free v s e

  -- what the code computes for a place is what the pivot has under the new names
  new_through : (u v : ℕ) → u < 2 * n + 2 → v < 2 * n + 2 → V (motion_name n motion u) (motion_name n motion v) ≡ new_cell m nil n motion table after u v
  new_through u v hu hv = go (name_either n motion u) (name_either n motion v)
    where
      held : B
      held = cell m (2 * n + 2) table u v

      Same : ℕ → ℕ → Type 0
      Same p q = V p q ≡ settled_cell m nil n after held p q

      old_old : Same u v
      old_old =
          ap (λ x. relaxed m x (W u N) (W N v)) (at_old m laws nil is_zero n motion table before after direct small spread u v hu hv)
          ∙ ap (λ x. relaxed m held x (W N v)) (to_place u N hu (omega arith)) ∙ ap (λ x. relaxed m held (at m after (2 * n + 2 + u)) x) (from_place N v (omega arith) hv)
          ∙ sym (cond-true _ _ _ (lt-ltb u (2 * n + 2) hu) ∙ cond-true _ _ _ (lt-ltb v (2 * n + 2) hv))

      old_new : Same u N
      old_new = column u (omega arith) ∙ to_place u N hu (omega arith) ∙ sym (cond-true _ _ _ (lt-ltb u (2 * n + 2) hu) ∙ cond-false _ _ _ (le-ltb N (2 * n + 2) (omega arith)))

      new_old : Same N v
      new_old = own_row v (omega arith) ∙ from_place N v (omega arith) hv ∙ sym (cond-false _ _ _ (le-ltb N (2 * n + 2) (omega arith)) ∙ cond-true _ _ _ (lt-ltb v (2 * n + 2) hv))

      new_new : Same N N
      new_new = column N (omega arith) ∙ new_place N N (omega arith) (omega arith) ∙ sym (cond-false _ _ _ (le-ltb N (2 * n + 2) (omega arith)) ∙ cond-false _ _ _ (le-ltb N (2 * n + 2) (omega arith)))

      go : (motion_name n motion u ≡ u) ⊎ (motion_name n motion u ≡ N) → (motion_name n motion v ≡ v) ⊎ (motion_name n motion v ≡ N) → Same (motion_name n motion u) (motion_name n motion v)
      go (inl a) (inl b) = subst₂ Same (sym a) (sym b) old_old
      go (inl a) (inr b) = subst₂ Same (sym a) (sym b) old_new
      go (inr a) (inl b) = subst₂ Same (sym a) (sym b) new_old
      go (inr a) (inr b) = subst₂ Same (sym a) (sym b) new_new

  -- ── What is found ──

  module _ (c : Chart) (good : Good m.differences n c (table_of m n table)) where
    -- the trip that the code tests, in the theory's places
    trip_is : (i : ℕ) → i < n → (TripAllows m n after i) ↔ Sum m.differences (m.allows (at m before (n + 1 + (1 + i)))) (m.allows (W (suc n + (1 + i)) N)) (zero_of m.differences)
    trip_is i h = (subst₂ Trip onward_same back_same, subst₂ Trip (sym onward_same) (sym back_same))
      where
        Trip : B → B → Type 0
        Trip a b = Sum m.differences (m.allows a) (m.allows b) (zero_of m.differences)

        onward_same : at m after (n + 2 + i) ≡ at m before (n + 1 + (1 + i))
        onward_same = let e : n + 2 + i ≡ n + 1 + (1 + i) = omega arith in spread.front (n + 2 + i) (omega arith) ∙ ap (at m before) e

        back_same : at m after (3 * n + 4 + i) ≡ W (suc n + (1 + i)) N
        back_same = let e : 3 * n + 4 + i ≡ 2 * n + 2 + (suc n + (1 + i)) = omega arith in ap (at m after) e ∙ sym (to_place (suc n + (1 + i)) N (omega arith) (omega arith))

    -- NEVER: a trip that does not allow 0 leaves no run
    trip_never : (i : ℕ) → i < n → (TripAllows m n after i → ⊥) → graph.Never m.differences n (c ++ motion ∷ [])
    trip_never i h fails =
        motion_never laws.ordered n c motion (table_of m n table) good (λ i. m.allows (at m before i)) (λ i. m.allows (at m before (n + 1 + i)))
        (motion_bounds m laws nil is_zero n motion before direct) (allowed_at m W) (spread_is m laws nil is_zero n motion table before after direct small spread)
        (1 + i) (omega arith) (omega arith) (λ s. fails ((trip_is i h).1 s))

    module _ (of : MotionOf n motion) (trips : (i : ℕ) → i < n → TripAllows m n after i) where
      tests : (i : ℕ) → 1 ≤ i → i ≤ n → Sum m.differences (m.allows (at m before (n + 1 + i))) (m.allows (W (suc n + i) N)) (zero_of m.differences)
      tests i p l =
          let e : 1 + (i - 1) ≡ i = omega arith in
          subst (λ (k : ℕ). Sum m.differences (m.allows (at m before (n + 1 + k))) (m.allows (W (suc n + k) N)) (zero_of m.differences)) e ((trip_is (i - 1) (omega arith)).0 (trips (i - 1) (omega arith)))

      -- GOOD: the places that the code computes make the longer chart's table
      new_good : Good m.differences n (c ++ motion ∷ []) (allowed_at m (new_cell m nil n motion table after))
      new_good =
          good_same laws.ordered n (c ++ motion ∷ []) (allowed_at m (λ u v. V (motion_name n motion u) (motion_name n motion v))) (allowed_at m (new_cell m nil n motion table after))
          (λ u v hu hv d. subst (λ x. m.allows (V (motion_name n motion u) (motion_name n motion v)) d ↔ m.allows x d) (new_through u v (omega arith) (omega arith)) ((λ h. h), (λ h. h)))
          (λ u v. laws.lower (new_cell m nil n motion table after u v))
          (good_motion laws.ordered n c motion (table_of m n table) good (λ i. m.allows (at m before i)) (λ i. m.allows (at m before (n + 1 + i)))
          (motion_bounds m laws nil is_zero n motion before direct) (allowed_at m W) (spread_is m laws nil is_zero n motion table before after direct small spread)
          of (λ i. laws.lower (at m before i)) (λ i. laws.lower (at m before (n + 1 + i))) (λ u v. laws.lower (W u v)) tests
          (allowed_at m V) (λ u v. laws.lower (V u v)) (bound_pivot m laws (suc N) W N (omega arith) V pivoted_to) (motion_name n motion) (motion_names n motion))

      -- RUNS: and so does a list that holds them
      rows_good : (next : List B) → Rows m (2 * n + 2) (2 * n + 2) (new_cell m nil n motion table after) next → Good m.differences n (c ++ motion ∷ []) (table_of m n next)
      rows_good next rows =
          good_same laws.ordered n (c ++ motion ∷ []) (allowed_at m (new_cell m nil n motion table after)) (table_of m n next)
          (λ u v hu hv d. subst (λ x. m.allows x d ↔ m.allows (cell m (2 * n + 2) next u v) d) (rows u v (omega arith) (omega arith)) ((λ h. h), (λ h. h)))
          (λ u v. laws.lower (cell m (2 * n + 2) next u v)) new_good

      -- LARGE: a place above 2^40 makes the normalised table large, and a run is left
      place_large : (u v : ℕ) → u < 2 * n + 2 → v < 2 * n + 2 → 2 ^ 40 < m.size_of (new_cell m nil n motion table after u v)
          → HasRun m.differences n (c ++ motion ∷ []) × normal.Large m n (c ++ motion ∷ [])
      place_large u v hu hv big = (
        has_run laws.ordered n (c ++ motion ∷ []) (allowed_at m (new_cell m nil n motion table after)) new_good,
        (u, v, hu, hv, new_cell m nil n motion table after u v, tightest laws.ordered n (c ++ motion ∷ []) (allowed_at m (new_cell m nil n motion table after)) new_good u v (omega arith) (omega arith), big),
      )

    -- FINDS: what is found from the bounds of the new now, in the words of charts
    pub finds : MotionOf n motion → (next : List B) (r : Found) → Settled m nil n motion table after next r → Finds m n (c ++ motion ∷ []) next r
    finds of next Runs (trips, rows, sizes) = chart_table m laws n (c ++ motion ∷ []) next (rows_good of trips next rows) sizes
    finds of next Never (i, h, fails) = trip_never i h fails
    finds of next Large (trips, (u, v, hu, hv, big)) = place_large of trips u v hu hv big
