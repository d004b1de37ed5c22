-- The join of two charts: from good tables of both, the working table, pivoted on each node of the middle and renamed, is good; where a test fails the joined chart never runs. Assumes nothing.
use Rattle.std.proofs.Common.{◌≡◌, ℕ, suc, ◌+◌, ◌-◌, ◌<◌, ◌≤◌, cond, ◌⊎◌, ◌↔◌, [], ◌∷◌, ◌++◌, length, sym, refl, ap, ◌∙◌, subst, subst₂, inl, inr, arith, le-leb}
use native.Mathlib.Decide.{dec_lt, ℕ_discrete}
use borrow.Author.Tests.{lt-leb}
use Rattle.bound.specs.Differences.{Differences, Same, Ordered, zero_of}
use Rattle.chart.specs.Charts.{Chart, ChartOf}
use Rattle.runs.specs.Runs.{Reading, reads, Run}
use Rattle.runs.specs.Graph.{before, date, node, Attained, Never}
use Rattle.runs.specs.Tables.{Table, Lower, Within, Sum, Settled, Closed, Satisfies, Pivoted, IsPivot, IsJoined, Renamed}
use Rattle.runs.specs.Good.{Shows, Good}
use Rattle.runs.specs.Joining.{join_node, Joining, JoinNames}
use Rattle.bound.specs.Groups.{≈-refl, ≈-sym}
use Rattle.bound.specs.Solver.{◌⊞◌, ◌⊟◌, v0, v1, v2, v3, v4, v5, same_from3}
use Rattle.runs.proofs.Lists.{by_parts, past_last}
use Rattle.runs.proofs.RunParts.{goes_time, goes_after}
use Rattle.runs.proofs.Chains.{attained_up, attained_sum, attained_never}
use Rattle.runs.proofs.Embed.{attained_first, attained_last, past_date, past_before}
use Rattle.runs.proofs.Nodes.{node_start, node_end}
use Rattle.runs.proofs.Pivot.{pivot_keeps, pivot_settles, pivot_sound, same_settled, same_solutions}
use Rattle.runs.proofs.Join.{left_settled, right_settled, join_no_more, join_sound}
use Rattle.runs.proofs.Rename.{renamed_closed, renamed_solutions}
use Rattle.runs.proofs.GoodRuns.{end_of, time_of, shows_own}

-- ── The dates of the nodes ──

module _ (n : ℕ) (c d : Chart) where
  join_old : (u : ℕ) → u < suc n + suc n → join_node n c d u ≡ node n c u
  join_old u l = ap (λ b. cond b (date (before (length (c ++ d))) (u - (suc n + suc n))) (node n c u)) (lt-leb (suc n + suc n) u l)

  join_far : (i : ℕ) → join_node n c d (suc n + (suc n + i)) ≡ date (before (length (c ++ d))) i
  join_far i =
      let e : (suc n + (suc n + i)) - (suc n + suc n) ≡ i = omega arith in
      ap (λ b. cond b (date (before (length (c ++ d))) ((suc n + (suc n + i)) - (suc n + suc n))) (node n c (suc n + (suc n + i))))
      (le-leb (suc n + suc n) (suc n + (suc n + i)) (omega arith)) ∙ ap (date (before (length (c ++ d)))) e

  -- nodes of the second chart's table
  join_second : (i : ℕ) → i < suc n + suc n → join_node n c d (suc n + i) ≡ past_date c (node n d i)
  join_second =
      by_parts (suc n) (suc n) (λ i. join_node n c d (suc n + i) ≡ past_date c (node n d i))
      (λ i l. join_old (suc n + i) (omega arith) ∙ node_end n c i ∙ ap (past_date c) (sym (node_start n d i l)))
      (λ i l. join_far i ∙ ap (λ k. date k i) (sym (past_before c (length d) ∙ ap before (past_last c d))) ∙ ap (past_date c) (sym (node_end n d i)))

module _ {D : Differences} (o : Ordered D) (n : ℕ) (c d : Chart) (S T : Table D) where
  open D use {Diff, le, add, neg}

  abbrev M : ℕ
  M = suc n + (suc n + suc n)

  abbrev At : (W : Table D) → ℕ → ℕ → Type 0
  At W u v = Attained D n (c ++ d) (join_node n c d u) (join_node n c d v) (W u v)

  -- ── The working table at first ──

  module _ (good : Good D n c S) (good' : Good D n d T) (W : Table D) (low : (u v : ℕ) → Lower D (W u v)) (joined : IsJoined D (suc n) S T W) where
    first_attained : (u v : ℕ) → u < suc n + suc n → v < suc n + suc n → Within D (S u v) (W u v) → At W u v
    first_attained u v hu hv h =
        subst₂ (λ p q. Attained D n (c ++ d) p q (W u v)) (sym (join_old n c d u hu)) (sym (join_old n c d v hv))
        (attained_up o (S u v) (W u v) h (attained_first d D (S u v) (good.attained u v hu hv)))

    second_attained : (i j : ℕ) → i < suc n + suc n → j < suc n + suc n → Within D (T i j) (W (suc n + i) (suc n + j)) → At W (suc n + i) (suc n + j)
    second_attained i j hi hj h =
        subst₂ (λ p q. Attained D n (c ++ d) p q (W (suc n + i) (suc n + j))) (sym (join_second n c d i hi)) (sym (join_second n c d j hj))
        (attained_up o (T i j) (W (suc n + i) (suc n + j)) h (attained_last c D (T i j) (good'.attained i j hi hj)))

    joined_attained : (u v : ℕ) → u < M → v < M → At W u v
    joined_attained u v hu hv =
        by_parts (suc n) (suc n + suc n) (λ u. At W u v)
        (λ u lu. by_parts (suc n) (suc n + suc n) (λ v. At W u v)
        (λ v lv. first_attained u v (omega arith) (omega arith) (joined.left_in u v (omega arith) (omega arith) (inl lu)))
        (λ j lj. to_right u lu j lj (dec_lt j (suc n))) v hv)
        (λ i li. by_parts (suc n) (suc n + suc n) (λ v. At W (suc n + i) v)
        (λ v lv. to_left i li (dec_lt i (suc n)) v lv)
        (λ j lj. inside i j li lj (dec_lt i (suc n)) (dec_lt j (suc n))) v hv) u hu
      where
        to_right : (u : ℕ) → u < suc n → (j : ℕ) → j < suc n + suc n → Dec (j < suc n) → At W u (suc n + j)
        to_right u lu j lj (yes l) = first_attained u (suc n + j) (omega arith) (omega arith) (joined.left_in u (suc n + j) (omega arith) (omega arith) (inl lu))
        to_right u lu j lj (no l) = inr (joined.open_right u j lu lj (omega arith))

        to_left : (i : ℕ) → i < suc n + suc n → Dec (i < suc n) → (v : ℕ) → v < suc n → At W (suc n + i) v
        to_left i li (yes l) v lv = first_attained (suc n + i) v (omega arith) (omega arith) (joined.left_in (suc n + i) v (omega arith) (omega arith) (inr lv))
        to_left i li (no l) v lv = inr (joined.open_left i v li (omega arith) lv)

        inside : (i j : ℕ) → i < suc n + suc n → j < suc n + suc n → Dec (i < suc n) → Dec (j < suc n) → At W (suc n + i) (suc n + j)
        inside i j li lj (yes p) (yes q) = middle (joined.middle_either i j p q)
          where
            middle : Within D (S (suc n + i) (suc n + j)) (W (suc n + i) (suc n + j)) ⊎ Within D (T i j) (W (suc n + i) (suc n + j)) → At W (suc n + i) (suc n + j)
            middle (inl h) = first_attained (suc n + i) (suc n + j) (omega arith) (omega arith) h
            middle (inr h) = second_attained i j li lj h
        inside i j li lj (yes p) (no q) = second_attained i j li lj (joined.right_in i j li lj (inr (omega arith)))
        inside i j li lj (no p) _ = second_attained i j li lj (joined.right_in i j li lj (inl (omega arith)))

    -- FIRST
    pub joining_first : Joining D n c d S T 0 W
    joining_first =
        record {
          lower = low;
          no_more = join_no_more o (suc n) S T W good.closed good'.closed low joined;
          settled = by_parts (suc n) (suc n + suc n) (λ u. Settled D M W u ⊎ ((suc n + 0 ≤ u) × (u < suc n + suc n)))
              (λ u l. inl (left_settled o (suc n) S T W good.closed good'.closed low joined u l))
              (λ i l. last i l (dec_lt i (suc n)));
          parts = λ x. (join_sound o (suc n) S T W good.closed good'.closed low joined x).0;
          attained = joined_attained;
        }
      where
        last : (i : ℕ) → i < suc n + suc n → Dec (i < suc n) → Settled D M W (suc n + i) ⊎ ((suc n + 0 ≤ suc n + i) × (suc n + i < suc n + suc n))
        last i l (yes s) = inr (omega arith, omega arith)
        last i l (no s) = inl (right_settled o (suc n) S T W good.closed good'.closed low joined i l (omega arith))

  -- ── A pivot ──

  -- NEVER: where the test of the next node fails, the joined chart never runs.
  pub joining_never : (k : ℕ) (W : Table D) → Joining D n c d S T k W → k ≤ n → (W (suc n + k) (suc n + k) (zero_of D) → ⊥) → Never D n (c ++ d)
  joining_never k W joining l fails =
      attained_never o (W (suc n + k) (suc n + k)) (joining.attained (suc n + k) (suc n + k) (omega arith) (omega arith)) fails

  -- STEP
  pub joining_step : (k : ℕ) (W V : Table D) → Joining D n c d S T k W → k ≤ n → W (suc n + k) (suc n + k) (zero_of D)
      → ((u v : ℕ) → Lower D (V u v)) → IsPivot D M W (suc n + k) V → Joining D n c d S T (suc k) V
  joining_step k W V joining l free low pivot =
      record {
        lower = low;
        no_more = λ u h e x. joining.no_more u h e ((pivot.both u u h h e).0 x).0;
        settled = λ u h. settle u h (joining.settled u h);
        parts = λ x s. joining.parts x ((pivot_sound o M W x p below).1 ((same_solutions o M (Pivoted D W p) V swapped x).1 s));
        attained = λ u v hu hv. attain u v hu hv (pivot.either u v hu hv);
      }
    where
      p : ℕ
      p = suc n + k

      below : p < M
      below = omega arith

      swapped : (u v : ℕ) → u < M → v < M → (e : Diff) → Pivoted D W p u v e ↔ V u v e
      swapped u v hu hv e = ((pivot.both u v hu hv e).1, (pivot.both u v hu hv e).0)

      settle : (u : ℕ) → u < M → Settled D M W u ⊎ ((suc n + k ≤ u) × (u < suc n + suc n)) → Settled D M V u ⊎ ((suc n + suc k ≤ u) × (u < suc n + suc n))
      settle u h (inl s) = inl (same_settled o M (Pivoted D W p) V swapped u h (pivot_keeps o M W joining.lower p below free u h s))
      settle u h (inr (from, to)) = go (ℕ_discrete p u)
        where
          go : Dec (p ≡ u) → Settled D M V u ⊎ ((suc n + suc k ≤ u) × (u < suc n + suc n))
          go (yes e) = inl (subst (λ z. Settled D M V z) e (same_settled o M (Pivoted D W p) V swapped p below (pivot_settles o M W p free)))
          go (no e) = inr (let f : suc n + k ≡ u → ⊥ = e in omega arith, to)

      attain : (u v : ℕ) → u < M → v < M → Within D (W u v) (V u v) ⊎ Within D (Sum D (W u p) (W p v)) (V u v) → At V u v
      attain u v hu hv (inl h) = attained_up o (W u v) (V u v) h (joining.attained u v hu hv)
      attain u v hu hv (inr h) =
          attained_up o (Sum D (W u p) (W p v)) (V u v) h
          (attained_sum o (W u p) (W p v) (joining.attained u p hu below) (joining.attained p v below hv))

  -- ── The last ──

  module _ (good : Good D n c S) (good' : Good D n d T) (of : ChartOf n d) (W : Table D) (joining : Joining D n c d S T (suc n) W)
      (name : ℕ → ℕ) (names : JoinNames n name) where
    closed : Closed D M W
    closed = record { lower = joining.lower; no_more = joining.no_more; settled = λ u h. all u (joining.settled u h) }
      where
        all : (u : ℕ) → Settled D M W u ⊎ ((suc n + suc n ≤ u) × (u < suc n + suc n)) → Settled D M W u
        all u (inl s) = s
        all u (inr (from, to)) = absurd (omega arith)

    names_below : (u : ℕ) → u < suc n + suc n → name u < M
    names_below =
        by_parts (suc n) (suc n) (λ u. name u < M) (λ u l. subst (λ z. z < M) (sym (names.first u l)) (omega arith))
        (λ i l. subst (λ z. z < M) (sym (names.last i l)) (omega arith))

    abbrev pub joint : Table D
    joint = Renamed D W name

    joint_runs : (x : ℕ → Diff) → Satisfies D (suc n + suc n) joint x → (σ : Reading D) (t : Diff) (ε : Reading D) → Shows D n x σ t ε → Run D n (c ++ d) σ t ε
    joint_runs x s σ t ε shows = go ((renamed_solutions o M W closed (suc n + suc n) name names_below x).0 s)
      where
        go : ((y : ℕ → Diff) × Satisfies D M W y × ((u : ℕ) → u < suc n + suc n → Same D (y (name u)) (x u))) → Run D n (c ++ d) σ t ε
        go (y, sy, same) = (
          run.0,
          goes_time o n (c ++ d) σ ε (add (time_of o n y) (time_of o n z)) t
              (same_from3 o (x 0 ∷ x (suc n + 0) ∷ y 0 ∷ y (suc n + 0) ∷ z (suc n + 0) ∷ t ∷ []) (v3 ⊟ v2 ⊞ (v4 ⊟ v3)) v5 v4 v1 v0 v2 (v1 ⊟ v0) v5 refl
              (last_same 0 (omega arith)) (≈-sym o (first_same 0 (omega arith))) shows.time)
              (goes_after o n c d of σ (end_of o n y) ε (time_of o n y) (time_of o n z) run.1 run'.1),
        )
          where
            -- the dates of the second table's nodes
            z : ℕ → Diff
            z i = y (suc n + i)

            first_same : (i : ℕ) → i < suc n → Same D (y i) (x i)
            first_same i l = subst (λ k. Same D (y k) (x i)) (names.first i l) (same i (omega arith))

            last_same : (i : ℕ) → i < suc n → Same D (z (suc n + i)) (x (suc n + i))
            last_same i l = subst (λ k. Same D (y k) (x (suc n + i))) (names.last i l) (same (suc n + i) (omega arith))

            run : Run D n c σ (time_of o n y) (end_of o n y)
            run =
                good.runs y (joining.parts y sy).0 σ (time_of o n y) (end_of o n y)
                record {
                  starts = λ i l. same_from3 o (x 0 ∷ x i ∷ y 0 ∷ y i ∷ reads D σ i ∷ []) (v2 ⊟ v3) v4 v2 v0 v1 v3 (v0 ⊟ v1) v4 refl
                      (first_same 0 (omega arith)) (≈-sym o (first_same i l)) (shows.starts i l);
                  time = ≈-refl o (time_of o n y);
                  ends = (shows_own o n y).ends;
                }

            run' : Run D n d (end_of o n y) (time_of o n z) ε
            run' =
                good'.runs z (joining.parts y sy).1 (end_of o n y) (time_of o n z) ε
                record {
                  starts = (shows_own o n y).ends;
                  time = ≈-refl o (time_of o n z);
                  ends = λ i l. same_from3 o (x (suc n + 0) ∷ x (suc n + i) ∷ z (suc n + 0) ∷ z (suc n + i) ∷ reads D ε i ∷ []) (v2 ⊟ v3) v4 v2 v0 v1 v3 (v0 ⊟ v1) v4 refl
                      (last_same 0 (omega arith)) (≈-sym o (last_same i l)) (shows.ends i l);
                }

    -- the nodes keep their dates
    name_node : (u : ℕ) → u < suc n + suc n → join_node n c d (name u) ≡ node n (c ++ d) u
    name_node =
        by_parts (suc n) (suc n) (λ u. join_node n c d (name u) ≡ node n (c ++ d) u)
        (λ u l. ap (join_node n c d) (names.first u l) ∙ join_old n c d u (omega arith) ∙ node_start n c u l ∙ sym (node_start n (c ++ d) u l))
        (λ i l. ap (join_node n c d) (names.last i l) ∙ join_far n c d i ∙ sym (node_end n (c ++ d) i))

    -- JOIN
    pub good_join : Good D n (c ++ d) joint
    good_join =
        record {
          closed = renamed_closed o M W closed (suc n + suc n) name names_below;
          runs = joint_runs;
          attained = λ u v hu hv. subst₂ (λ p q. Attained D n (c ++ d) p q (joint u v)) (name_node u hu) (name_node v hv)
              (joining.attained (name u) (name v) (names_below u hu) (names_below v hv));
        }
