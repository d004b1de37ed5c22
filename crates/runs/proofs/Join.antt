-- Two closed tables end to end: in the table of both every outer node is settled, and its solutions are those of both.
use Rattle.std.proofs.Common.{◌≡◌, ℕ, ◌+◌, ◌-◌, ◌<◌, ◌≤◌, ◌⊎◌, ◌↔◌, subst, inl, inr, arith}
use native.Mathlib.Decide.{dec_lt}
use Rattle.bound.specs.Differences.{Differences, Ordered, zero_of, minus}
use Rattle.runs.specs.Tables.{Table, Lower, Sum, Settled, Closed, Satisfies, Within, IsJoined}
use Rattle.runs.proofs.Sums.{sum_swap, sum_map, sum_open}
use Rattle.runs.proofs.Lists.{by_parts}
use Rattle.runs.proofs.Solve.{some_point}

module _ {D : Differences} (o : Ordered D) (m : ℕ) (S T W : Table D) (c_s : Closed D (m + m) S) (c_t : Closed D (m + m) T)
    (low : (u v : ℕ) → Lower D (W u v)) (joined : IsJoined D m S T W) where
  open D use {Diff, le, add, neg}

  -- the node x of the first start is settled
  pub left_settled : (x : ℕ) → x < m → Settled D (m + (m + m)) W x
  left_settled x hx =
      record {
        through = λ u v hu hv. by_last (λ u. (d : Diff) → W u v d → Sum D (W u x) (W x v) d)
            (λ u lu. by_last (λ v. (d : Diff) → W u v d → Sum D (W u x) (W x v) d) (λ v lv. near u v lu lv) (λ j lj ge d _. sum_open o (W u x) (W x (m + j)) (place u lu) (joined.open_right x j hx lj ge) d) v hv)
            (λ i li ge. by_last (λ v. (d : Diff) → W (m + i) v d → Sum D (W (m + i) x) (W x v) d)
            (λ v lv d _. sum_swap o (W x v) (W (m + i) x) d (sum_open o (W x v) (W (m + i) x) (place' v lv) (joined.open_left i x li ge hx) d))
            (λ j lj gj d _. sum_open o (W (m + i) x) (W x (m + j)) (d, joined.open_left i x li ge hx d) (joined.open_right x j hx lj gj) d) v hv) u hu;
        nought = joined.left_in x x (omega arith) (omega arith) (inl hx) (zero_of D) (c_s.settled x (omega arith)).nought;
      }
    where
      -- below m + m, or m above a number from m to m + m
      by_last : (P : ℕ → Type 0) → ((u : ℕ) → u < m + m → P u) → ((i : ℕ) → i < m + m → m ≤ i → P (m + i)) → (u : ℕ) → u < m + (m + m) → P u
      by_last P h g u l = go (dec_lt u (m + m))
        where
          go : Dec (u < m + m) → P u
          go (yes s) = h u s
          go (no s) = let e : m + (u - m) ≡ u = omega arith in subst P e (g (u - m) (omega arith) (omega arith))

      near : (u v : ℕ) → u < m + m → v < m + m → (d : Diff) → W u v d → Sum D (W u x) (W x v) d
      near u v hu hv d h =
          sum_map o (S u x) (S x v) (W u x) (W x v) (joined.left_in u x hu (omega arith) (inr hx)) (joined.left_in x v (omega arith) hv (inl hx)) d
          ((c_s.settled x (omega arith)).through u v hu hv d (joined.left_out u v hu hv d h))

      place : (u : ℕ) → u < m + m → (e : Diff) × W u x e
      place u hu = let p = some_point o (m + m) S c_s u x hu (omega arith) in (p.0, joined.left_in u x hu (omega arith) (inr hx) p.0 p.1)

      place' : (v : ℕ) → v < m + m → (e : Diff) × W x v e
      place' v hv = let p = some_point o (m + m) S c_s x v (omega arith) hv in (p.0, joined.left_in x v (omega arith) hv (inl hx) p.0 p.1)

  -- the node m + k of the last end, m ≤ k, is settled
  pub right_settled : (k : ℕ) → k < m + m → m ≤ k → Settled D (m + (m + m)) W (m + k)
  right_settled k hk mk =
      record {
        through = λ u v hu hv. by_parts m (m + m) (λ u. (d : Diff) → W u v d → Sum D (W u (m + k)) (W (m + k) v) d)
            (λ u lu. by_parts m (m + m) (λ v. (d : Diff) → W u v d → Sum D (W u (m + k)) (W (m + k) v) d)
            (λ v lv d _. sum_open o (W u (m + k)) (W (m + k) v) (d, joined.open_right u k lu hk mk d) (joined.open_left k v hk mk lv) d)
            (λ j lj d _. sum_swap o (W (m + k) (m + j)) (W u (m + k)) d (sum_open o (W (m + k) (m + j)) (W u (m + k)) (place' j lj) (joined.open_right u k lu hk mk) d)) v hv)
            (λ i li. by_parts m (m + m) (λ v. (d : Diff) → W (m + i) v d → Sum D (W (m + i) (m + k)) (W (m + k) v) d)
            (λ v lv d _. sum_open o (W (m + i) (m + k)) (W (m + k) v) (place i li) (joined.open_left k v hk mk lv) d)
            (λ j lj. near i j li lj) v hv) u hu;
        nought = joined.right_in k k hk hk (inl mk) (zero_of D) (c_t.settled k hk).nought;
      }
    where
      near : (i j : ℕ) → i < m + m → j < m + m → (d : Diff) → W (m + i) (m + j) d → Sum D (W (m + i) (m + k)) (W (m + k) (m + j)) d
      near i j hi hj d h =
          sum_map o (T i k) (T k j) (W (m + i) (m + k)) (W (m + k) (m + j)) (joined.right_in i k hi hk (inr mk)) (joined.right_in k j hk hj (inl mk)) d
          ((c_t.settled k hk).through i j hi hj d (joined.right_out i j hi hj d h))

      place : (i : ℕ) → i < m + m → (e : Diff) × W (m + i) (m + k) e
      place i hi = let p = some_point o (m + m) T c_t i k hi hk in (p.0, joined.right_in i k hi hk (inr mk) p.0 p.1)

      place' : (j : ℕ) → j < m + m → (e : Diff) × W (m + k) (m + j) e
      place' j hj = let p = some_point o (m + m) T c_t k j hk hj in (p.0, joined.right_in k j hk hj (inl mk) p.0 p.1)

  pub join_no_more : (u : ℕ) → u < m + (m + m) → (d : Diff) → W u u d → le d (zero_of D)
  join_no_more u hu =
      by_parts m (m + m) (λ u. (d : Diff) → W u u d → le d (zero_of D))
      (λ u l d h. c_s.no_more u (omega arith) d (joined.left_out u u (omega arith) (omega arith) d h))
      (λ i l d h. c_t.no_more i l d (joined.right_out i i l l d h)) u hu

  -- SOUND: its solutions are those of both tables.
  pub join_sound : (x : ℕ → Diff)
      → Satisfies D (m + (m + m)) W x ↔ (Satisfies D (m + m) S x × Satisfies D (m + m) T (λ i. x (m + i)))
  join_sound x = (apart, together)
    where
      apart : Satisfies D (m + (m + m)) W x → Satisfies D (m + m) S x × Satisfies D (m + m) T (λ i. x (m + i))
      apart s = (
        (λ u v hu hv. joined.left_out u v hu hv _ (s u v (omega arith) (omega arith))),
        (λ i j hi hj. joined.right_out i j hi hj _ (s (m + i) (m + j) (omega arith) (omega arith))),
      )

      together : Satisfies D (m + m) S x × Satisfies D (m + m) T (λ i. x (m + i)) → Satisfies D (m + (m + m)) W x
      together (s, t) u v hu hv =
          by_parts m (m + m) (λ u. W u v (minus D (x u) (x v)))
          (λ u lu. by_parts m (m + m) (λ v. W u v (minus D (x u) (x v)))
          (λ v lv. joined.left_in u v (omega arith) (omega arith) (inl lu) _ (s u v (omega arith) (omega arith)))
          (λ j lj. to_right u lu j lj (dec_lt j m)) v hv)
          (λ i li. by_parts m (m + m) (λ v. W (m + i) v (minus D (x (m + i)) (x v)))
          (λ v lv. to_left i li (dec_lt i m) v lv)
          (λ j lj. inside i j li lj (dec_lt i m) (dec_lt j m)) v hv) u hu
        where
          to_right : (u : ℕ) → u < m → (j : ℕ) → j < m + m → Dec (j < m) → W u (m + j) (minus D (x u) (x (m + j)))
          to_right u lu j lj (yes l) = joined.left_in u (m + j) (omega arith) (omega arith) (inl lu) _ (s u (m + j) (omega arith) (omega arith))
          to_right u lu j lj (no l) = joined.open_right u j lu lj (omega arith) _

          to_left : (i : ℕ) → i < m + m → Dec (i < m) → (v : ℕ) → v < m → W (m + i) v (minus D (x (m + i)) (x v))
          to_left i li (yes l) v lv = joined.left_in (m + i) v (omega arith) (omega arith) (inr lv) _ (s (m + i) v (omega arith) (omega arith))
          to_left i li (no l) v lv = joined.open_left i v li (omega arith) lv _

          inside : (i j : ℕ) → i < m + m → j < m + m → Dec (i < m) → Dec (j < m) → W (m + i) (m + j) (minus D (x (m + i)) (x (m + j)))
          inside i j li lj (yes p) (yes q) = in_middle (joined.middle_either i j p q)
            where
              in_middle : Within D (S (m + i) (m + j)) (W (m + i) (m + j)) ⊎ Within D (T i j) (W (m + i) (m + j)) → W (m + i) (m + j) (minus D (x (m + i)) (x (m + j)))
              in_middle (inl h) = h _ (s (m + i) (m + j) (omega arith) (omega arith))
              in_middle (inr h) = h _ (t i j li lj)
          inside i j li lj (yes p) (no q) = joined.right_in i j li lj (inr (omega arith)) _ (t i j li lj)
          inside i j li lj (no p) _ = joined.right_in i j li lj (inl (omega arith)) _ (t i j li lj)
