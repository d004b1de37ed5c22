-- The table with the new now of a motion is one with a new node, whose direct bounds stand at the end nodes. Assumes nothing.
use Rattle.std.proofs.Common.{◌≡◌, ℕ, zero, suc, ◌+◌, ◌<◌, ◌≤◌, ◌⊎◌, ◌↔◌, refl, subst, inl, inr, arith}
use Rattle.bound.specs.Differences.{Differences, Ordered, zero_of}
use Rattle.runs.specs.Tables.{Set, Table, Lower, Sum, Closed, Into, Onward, IsStar}
use Rattle.runs.specs.Motions.{Spread}
use Rattle.runs.proofs.Lists.{by_parts}
use Rattle.runs.proofs.Sums.{sum_swap, sum_map, sum_open}
use Rattle.runs.proofs.Solve.{some_point}
use Rattle.runs.proofs.Star.{Test}

-- The bounds as direct bounds of nodes: open but at the end nodes.
abbrev pub node_into : (D : Differences) → ℕ → (ℕ → Set D) → ℕ → Set D
node_into D n into u d = (i : ℕ) → i ≤ n → u ≡ suc n + i → into i d

abbrev pub node_onward : (D : Differences) → ℕ → (ℕ → Set D) → ℕ → Set D
node_onward D n onward u d = (i : ℕ) → 1 ≤ i → i ≤ n → u ≡ suc n + i → onward i d

module _ {D : Differences} (o : Ordered D) (n : ℕ) (into onward : ℕ → Set D) where
  open D use {Diff, le, add, neg}

  same_node : (i j : ℕ) → suc n + i ≡ suc n + j → i ≡ j
  same_node i j e = omega arith

  into_node : (i : ℕ) (d : Diff) → into i d → node_into D n into (suc n + i) d
  into_node i d h j l e = subst (λ z. into z d) (same_node i j e) h

  onward_node : (i : ℕ) (d : Diff) → onward i d → node_onward D n onward (suc n + i) d
  onward_node i d h j p l e = subst (λ z. onward z d) (same_node i j e) h

  into_open : (u : ℕ) → u < suc n → (d : Diff) → node_into D n into u d
  into_open u h d i l e = absurd (omega arith)

  onward_open : (u : ℕ) → u < suc n → (d : Diff) → node_onward D n onward u d
  onward_open u h d i p l e = absurd (omega arith)

  onward_open_now : (d : Diff) → node_onward D n onward (suc n + 0) d
  onward_open_now d i p l e = absurd (omega arith)

  pub into_node_lower : ((i : ℕ) → Lower D (into i)) → (u : ℕ) → Lower D (node_into D n into u)
  into_node_lower low u d e l h i k p = low i d e l (h i k p)

  pub onward_node_lower : ((i : ℕ) → Lower D (onward i)) → (u : ℕ) → Lower D (node_onward D n onward u)
  onward_node_lower low u d e l h i q k p = low i d e l (h i q k p)

  module _ (T : Table D) (closed : Closed D (suc n + suc n) T) (W : Table D) (spread : Spread D n T into onward W) where
    abbrev N : ℕ
    N = suc n + suc n

    toward_new : (u : ℕ) → u < N → (d : Diff) → W u N d ↔ Into D N T (node_into D n into) u d
    toward_new u hu d = (there, back)
      where
        there : W u N d → Into D N T (node_into D n into) u d
        there h =
            by_parts (suc n) (suc n) (λ i. Sum D (T u i) (node_into D n into i) d)
            (λ i l. sum_open o (T u i) (node_into D n into i) (some_point o N T closed u i hu (omega arith)) (into_open i l) d)
            (λ i l. sum_map o (T u (suc n + i)) (into i) (T u (suc n + i)) (node_into D n into (suc n + i)) (λ e k. k) (into_node i) d
            ((spread.toward_new u hu).within (i, omega arith) d h))

        back : Into D N T (node_into D n into) u d → W u N d
        back h = go (spread.toward_new u hu).reached
          where
            go : ((i : (i : ℕ) × (i ≤ n)) × ((d : Diff) → Sum D (T u (suc n + i.0)) (into i.0) d → W u N d)) ⊎ ((d : Diff) → W u N d) → W u N d
            go (inl ((i, l), k)) =
                k d (sum_map o (T u (suc n + i)) (node_into D n into (suc n + i)) (T u (suc n + i)) (into i) (λ e m. m) (λ e m. m i l refl) d (h (suc n + i) (omega arith)))
            go (inr k) = k d

    out_of_new : (v : ℕ) → v < N → (d : Diff) → W N v d ↔ Onward D N T (node_onward D n onward) v d
    out_of_new v hv d = (there, back)
      where
        open_at : (i : ℕ) → i < N → ((e : Diff) → node_onward D n onward i e) → Sum D (node_onward D n onward i) (T i v) d
        open_at i l h = sum_swap o (T i v) (node_onward D n onward i) d (sum_open o (T i v) (node_onward D n onward i) (some_point o N T closed i v l hv) h d)

        there : W N v d → Onward D N T (node_onward D n onward) v d
        there h = by_parts (suc n) (suc n) (λ i. Sum D (node_onward D n onward i) (T i v) d) (λ i l. open_at i (omega arith) (onward_open i l)) timer
          where
            timer : (i : ℕ) → i < suc n → Sum D (node_onward D n onward (suc n + i)) (T (suc n + i) v) d
            timer zero l = open_at (suc n + 0) (omega arith) onward_open_now
            timer (suc i) l =
                sum_map o (onward (suc i)) (T (suc n + suc i) v) (node_onward D n onward (suc n + suc i)) (T (suc n + suc i) v) (onward_node (suc i)) (λ e k. k) d
                ((spread.out_of_new v hv).within (suc i, omega arith, omega arith) d h)

        back : Onward D N T (node_onward D n onward) v d → W N v d
        back h = go (spread.out_of_new v hv).reached
          where
            go : ((i : (i : ℕ) × (1 ≤ i) × (i ≤ n)) × ((d : Diff) → Sum D (onward i.0) (T (suc n + i.0) v) d → W N v d)) ⊎ ((d : Diff) → W N v d) → W N v d
            go (inl ((i, p, l), k)) =
                k d (sum_map o (node_onward D n onward (suc n + i)) (T (suc n + i) v) (onward i) (T (suc n + i) v) (λ e m. m i p l refl) (λ e m. m) d (h (suc n + i) (omega arith)))
            go (inr k) = k d

    -- STAR
    pub spread_star : IsStar D N T (node_into D n into) (node_onward D n onward) W
    spread_star = record { old = spread.old; into = toward_new; onward = out_of_new; self = spread.self }

    -- TEST: the tests at the timers are enough.
    pub spread_test : ((i : ℕ) → i ≤ n → (d : Diff) × into i d)
        → ((i : ℕ) → 1 ≤ i → i ≤ n → Sum D (onward i) (W (suc n + i) N) (zero_of D))
        → Test o N T (node_into D n into) (node_onward D n onward) closed
    spread_test points tests = by_parts (suc n) (suc n) Passes (λ u l. open_at u (omega arith) (onward_open u l)) timer
      where
        Passes : ℕ → Type 0
        Passes j = Sum D (node_onward D n onward j) (Into D N T (node_into D n into) j) (zero_of D)

        point : (u : ℕ) → u < N → (d : Diff) × W u N d
        point u hu = go (spread.toward_new u hu).reached
          where
            go : ((i : (i : ℕ) × (i ≤ n)) × ((d : Diff) → Sum D (T u (suc n + i.0)) (into i.0) d → W u N d)) ⊎ ((d : Diff) → W u N d) → (d : Diff) × W u N d
            go (inl ((i, l), k)) = at (some_point o N T closed u (suc n + i) hu (omega arith)) (points i l)
              where
                at : ((e : Diff) × T u (suc n + i) e) → ((f : Diff) × into i f) → (d : Diff) × W u N d
                at (e, he) (f, hf) = (add e f, k (add e f) (e, f, he, hf, o.le_refl (add e f)))
            go (inr k) = (zero_of D, k (zero_of D))

        open_at : (j : ℕ) → j < N → ((e : Diff) → node_onward D n onward j e) → Passes j
        open_at j l h =
            let p = point j l in
            sum_swap o (Into D N T (node_into D n into) j) (node_onward D n onward j) (zero_of D)
            (sum_open o (Into D N T (node_into D n into) j) (node_onward D n onward j) (p.0, (toward_new j l p.0).0 p.1) h (zero_of D))

        timer : (i : ℕ) → i < suc n → Passes (suc n + i)
        timer zero l = open_at (suc n + 0) (omega arith) onward_open_now
        timer (suc i) l =
            sum_map o (onward (suc i)) (W (suc n + suc i) N) (node_onward D n onward (suc n + suc i)) (Into D N T (node_into D n into) (suc n + suc i))
            (onward_node (suc i)) (λ e. (toward_new (suc n + suc i) (omega arith) e).0) (zero_of D) (tests (suc i) (omega arith) (omega arith))
