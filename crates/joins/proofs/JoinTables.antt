-- The two tables of a join end to end, and the joined chart's table. Assumes nothing.
use Rattle.std.proofs.Common.{◌≡◌, ℕ, suc, ◌+◌, ◌-◌, ◌*◌, ◌^◌, ◌<◌, ◌≤◌, true, false, ◌&&◌, ◌||◌, ltb, ◌⊎◌, List, ◌++◌, sym, ap, ◌∙◌, subst, inl, inr, ⊎_elim, arith}
use Rattle.std.proofs.lemmas.Bool.{lt-ltb, le-ltb, and_from, and_left, and_right, or_left, or_right, or_from, cond-true, cond-false}
use Rattle.bound.specs.Differences.{Differences}
use Rattle.bound.specs.Meaning.{Meaning, Laws, tighter_of}
use Rattle.chart.specs.Charts.{Chart, ChartOf}
use Rattle.runs.specs.Runs.{HasRun}
use Rattle.runs.specs.Good.{Good}
use Rattle.runs.specs.Joining.{JoinedTo, JoiningBounds}
use Rattle.runs.specs.Normal as normal
use Rattle.runs.specs.Normal.{place, table_of}
use Rattle.runs.specs.Places.{allowed_at}
use Rattle.runs.proofs.BoundEnds.{joined_to, joined_small}
use Rattle.runs.proofs.BoundJoin.{join_first, join_last}
use Rattle.runs.proofs.GoodRuns.{good_same, has_run, tightest}
use Rattle.table.specs.Cells.{cell, Rows, Small}
use Rattle.joins.specs.Joins.{first_cell, later_cell, joined_cell, outer_cell, LargeIn, SmallIn}

module _ {B : Type 0} (m : Meaning B) (n : ℕ) (table other : List B) where
  -- ── one place ──

  -- which tests hold of a place
  before : (u v : ℕ) → (u < suc n) ⊎ (v < suc n) → (ltb u (n + 1) || ltb v (n + 1)) ≡ true
  before u v =
      ⊎_elim (λ (h : u < suc n). or_left (ltb u (n + 1)) (ltb v (n + 1)) (lt-ltb u (n + 1) (omega arith)))
      (λ (h : v < suc n). or_right (ltb u (n + 1)) (ltb v (n + 1)) (lt-ltb v (n + 1) (omega arith)))

  after : (u v : ℕ) → suc n ≤ u → suc n ≤ v → (ltb u (n + 1) || ltb v (n + 1)) ≡ false
  after u v hu hv = or_from (ltb u (n + 1)) (ltb v (n + 1)) (le-ltb u (n + 1) (omega arith)) (le-ltb v (n + 1) (omega arith))

  within : (u v : ℕ) → u < suc n + suc n → v < suc n + suc n → (ltb u (2 * n + 2) && ltb v (2 * n + 2)) ≡ true
  within u v hu hv = and_from (ltb u (2 * n + 2)) (ltb v (2 * n + 2)) (lt-ltb u (2 * n + 2) (omega arith)) (lt-ltb v (2 * n + 2) (omega arith))

  without : (u v : ℕ) → (suc n + suc n ≤ u) ⊎ (suc n + suc n ≤ v) → (ltb u (2 * n + 2) && ltb v (2 * n + 2)) ≡ false
  without u v =
      ⊎_elim (λ (h : suc n + suc n ≤ u). and_left (ltb u (2 * n + 2)) (ltb v (2 * n + 2)) (le-ltb u (2 * n + 2) (omega arith)))
      (λ (h : suc n + suc n ≤ v). and_right (ltb u (2 * n + 2)) (ltb v (2 * n + 2)) (le-ltb v (2 * n + 2) (omega arith)))

  later_is : (u v : ℕ) → suc n ≤ u → suc n ≤ v → joined_cell m n table other u v ≡ later_cell m n table other u v
  later_is u v hu hv = cond-false _ _ _ (after u v hu hv)

  first_is : (u v : ℕ) → (u < suc n) ⊎ (v < suc n) → joined_cell m n table other u v ≡ first_cell m n table u v
  first_is u v h = cond-true _ _ _ (before u v h)

  -- node i of the second table
  shifted : (i : ℕ) → suc n + i - (n + 1) ≡ i
  shifted i = omega arith

  other_is : (i j : ℕ) → cell m (2 * n + 2) other (suc n + i - (n + 1)) (suc n + j - (n + 1)) ≡ cell m (2 * n + 2) other i j
  other_is i j =
      ap (λ (x : ℕ). cell m (2 * n + 2) other x (suc n + j - (n + 1))) (shifted i) ∙ ap (λ (y : ℕ). cell m (2 * n + 2) other i y) (shifted j)

  -- ── all places ──

  module _ (work : List B) (rows : Rows m (3 * n + 3) (3 * n + 3) (joined_cell m n table other) work) where
    pub ends_joined : JoinedTo m n (place m n table) (place m n other) (cell m (3 * n + 3) work)
    ends_joined =
        record {
          first = λ u v hu hv h. rows u v (omega arith) (omega arith) ∙ first_is u v h ∙ cond-true _ _ _ (within u v hu hv);
          middle = λ i j hi hj. rows (suc n + i) (suc n + j) (omega arith) (omega arith) ∙ later_is (suc n + i) (suc n + j) (omega arith) (omega arith)
              ∙ cond-true _ _ _ (within (suc n + i) (suc n + j) (omega arith) (omega arith))
              ∙ ap (tighter_of m (place m n table (suc n + i) (suc n + j))) (other_is i j);
          second = λ i j hi hj h. rows (suc n + i) (suc n + j) (omega arith) (omega arith) ∙ later_is (suc n + i) (suc n + j) (omega arith) (omega arith)
              ∙ cond-false _ _ _ (without (suc n + i) (suc n + j) (far i j h)) ∙ other_is i j;
          open_onward = λ u j hu hj h. rows u (suc n + j) (omega arith) (omega arith) ∙ first_is u (suc n + j) (inl hu)
              ∙ cond-false _ _ _ (without u (suc n + j) (inr (omega arith)));
          open_back = λ i v hi h hv. rows (suc n + i) v (omega arith) (omega arith) ∙ first_is (suc n + i) v (inr hv)
              ∙ cond-false _ _ _ (without (suc n + i) v (inl (omega arith)));
        }
      where
        far : (i j : ℕ) → (suc n ≤ i) ⊎ (suc n ≤ j) → (suc n + suc n ≤ suc n + i) ⊎ (suc n + suc n ≤ suc n + j)
        far i j (inl h) = inl (omega arith)
        far i j (inr h) = inr (omega arith)

    module _ (laws : Laws m) (small : Small m (2 * n + 2) table) (small' : Small m (2 * n + 2) other) where
      pub ends_small : Small m (3 * n + 3) work
      ends_small u v hu hv =
          joined_small m laws n (place m n table) (place m n other) (cell m (3 * n + 3) work) ends_joined (2 ^ 40)
          (λ a b ha hb. small a b (omega arith) (omega arith)) (λ a b ha hb. small' a b (omega arith) (omega arith)) u v (omega arith) (omega arith)

      pub ends_first : (c d : Chart) → Good m.differences n c (table_of m n table) → Good m.differences n d (table_of m n other)
          → JoiningBounds m n c d (table_of m n table) (table_of m n other) 0 (cell m (3 * n + 3) work)
      ends_first c d good good' =
          join_first m laws n c d (table_of m n table) (table_of m n other) good good' (cell m (3 * n + 3) work)
          (joined_to m laws n (place m n table) (place m n other) (cell m (3 * n + 3) work) ends_joined) (λ u v hu hv. ends_small u v (omega arith) (omega arith))

-- ── The joined chart's table ──

module _ {B : Type 0} (m : Meaning B) (laws : Laws m) (n : ℕ) (table other work : List B) (c d : Chart)
    (good : Good m.differences n c (table_of m n table)) (good' : Good m.differences n d (table_of m n other)) (of : ChartOf n d)
    (joining : JoiningBounds m n c d (table_of m n table) (table_of m n other) (n + 1) (cell m (3 * n + 3) work)) where
  abbrev D : Differences
  D = m.differences

  outer_good : Good D n (c ++ d) (allowed_at m (outer_cell m n work))
  outer_good =
      join_last m laws n c d (table_of m n table) (table_of m n other) good good' of (cell m (3 * n + 3) work)
      (subst (λ (k : ℕ). JoiningBounds m n c d (table_of m n table) (table_of m n other) k (cell m (3 * n + 3) work)) (omega arith) joining)

  pub joined_good : (next : List B) → Rows m (2 * n + 2) (2 * n + 2) (outer_cell m n work) next → Good D n (c ++ d) (table_of m n next)
  joined_good next rows =
      good_same laws.ordered n (c ++ d) (allowed_at m (outer_cell m n work)) (table_of m n next)
      (λ u v hu hv x. let e = rows u v (omega arith) (omega arith) in ((λ h. subst (λ b. m.allows b x) (sym e) h), (λ h. subst (λ b. m.allows b x) e h)))
      (λ u v. laws.lower (place m n next u v)) outer_good

  pub joined_large : ((u : ℕ) × (u < 2 * n + 2) × LargeIn m n work u) → HasRun D n (c ++ d) × normal.Large m n (c ++ d)
  joined_large (u, hu, (v, hv, large)) = (
    has_run laws.ordered n (c ++ d) (allowed_at m (outer_cell m n work)) outer_good,
    (u, v, hu, hv, outer_cell m n work u v, tightest laws.ordered n (c ++ d) (allowed_at m (outer_cell m n work)) outer_good u v (omega arith) (omega arith), large),
  )

-- sizes that are small in the work table are small where they are put
pub outer_small : {B : Type 0} (m : Meaning B) (n : ℕ) (work next : List B) → Rows m (2 * n + 2) (2 * n + 2) (outer_cell m n work) next
    → ((u : ℕ) → u < 2 * n + 2 → SmallIn m n work u (2 * n + 2)) → Small m (2 * n + 2) next
outer_small m n work next rows small u v hu hv = subst (λ b. m.size_of b ≤ 2 ^ 40) (sym (rows u v hu hv)) (small u hu v hv)
