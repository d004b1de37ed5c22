-- A pivot on a node p settles p, keeps what is settled, and keeps the solutions.
use Rattle.std.proofs.Common.{ℕ, ◌<◌, ◌↔◌, [], ◌∷◌, refl}
use Rattle.bound.specs.Differences.{Differences, Ordered, zero_of, minus}
use Rattle.runs.specs.Tables.{Set, Table, Lower, Sum, Through, Settled, Closed, Satisfies, Pivoted}
use Rattle.bound.specs.Solver.{◌⊞◌, ◌⊟◌, nil, v0, v1, v2, v3, v4, le_same, le_from2}
use Rattle.runs.proofs.Sums.{sum_swap, sum_lower, sum_map, sum_right, sum_left, sum_nought}
use Rattle.chart.specs.Lists.{All}
use Rattle.runs.proofs.Helly.{Demand, Above, Below, Agree, helly}

module _ {D : Differences} (o : Ordered D) (N : ℕ) (W : Table D) where
  open D use {Diff, le, add, neg}

  -- the way of two steps between dates
  pub two_steps : (S R : Set D) (a b c : Diff) → S (minus D a b) → R (minus D b c) → Sum D S R (minus D a c)
  two_steps S R a b c h k = (minus D a b, minus D b c, h, k, le_same o (a ∷ b ∷ c ∷ []) (v0 ⊟ v2) (v0 ⊟ v1 ⊞ (v1 ⊟ v2)) refl)

  -- SOUND: a pivot has the same solutions.
  pub pivot_sound : (x : ℕ → Diff) (p : ℕ) → p < N → Satisfies D N W x ↔ Satisfies D N (Pivoted D W p) x
  pivot_sound x p hp = (
    (λ s u v hu hv. (s u v hu hv, two_steps (W u p) (W p v) (x u) (x p) (x v) (s u p hu hp) (s p v hp hv))),
    (λ s u v hu hv. (s u v hu hv).0),
  )

  pub pivot_lower : (p : ℕ) → ((u v : ℕ) → Lower D (W u v)) → (u v : ℕ) → Lower D (Pivoted D W p u v)
  pivot_lower p low u v d e h (k, l) = (low u v d e h k, sum_lower o (W u p) (W p v) d e h l)

  -- the row and the column of p stay as they are, so that a pivot can be done in place
  pub pivot_column : (p : ℕ) → W p p (zero_of D) → (u : ℕ) (d : Diff) → W u p d ↔ Pivoted D W p u p d
  pivot_column p h u d = ((λ k. (k, sum_nought o (W u p) (W p p) h d k)), (λ k. k.0))

  pub pivot_row : (p : ℕ) → W p p (zero_of D) → (v : ℕ) (d : Diff) → W p v d ↔ Pivoted D W p p v d
  pivot_row p h v d = ((λ k. (k, sum_swap o (W p v) (W p p) d (sum_nought o (W p v) (W p p) h d k))), (λ k. k.0))

  -- SETTLES: a pivot settles its node.
  pub pivot_settles : (p : ℕ) → W p p (zero_of D) → Settled D N (Pivoted D W p) p
  pivot_settles p h =
      record {
        through = λ u v _ _ d k. sum_map o (W u p) (W p v) (Pivoted D W p u p) (Pivoted D W p p v)
            (λ e. (pivot_column p h u e).0) (λ f. (pivot_row p h v f).0) d k.1;
        nought = (pivot_row p h p (zero_of D)).0 h;
      }

  module _ (low : (u v : ℕ) → Lower D (W u v)) (p : ℕ) (hp : p < N) (free : W p p (zero_of D)) (x : ℕ) (hx : x < N) (settled : Settled D N W x) where
    kept_through : Through D N (Pivoted D W p) x
    kept_through u v hu hv d (k, l) =
        go (helly o direct (round ∷ []) onward (turning ∷ []) ((dd, (dt, tt)), ((rd, (rt, tt)), tt)))
      where
        direct : Demand D
        direct = record { set = W u x; lower = low u x; place = d }

        round : Demand D
        round = record { set = Sum D (W u p) (W p x); lower = sum_lower o (W u p) (W p x); place = d }

        onward : Demand D
        onward = record { set = W x v; lower = low x v; place = zero_of D }

        turning : Demand D
        turning = record { set = Sum D (W x p) (W p v); lower = sum_lower o (W x p) (W p v); place = zero_of D }

        less : le (minus D d (zero_of D)) d
        less = le_same o (d ∷ []) (v0 ⊟ nil) v0 refl

        dd : Agree D direct onward
        dd = sum_lower o (W u x) (W x v) d (minus D d (zero_of D)) less (settled.through u v hu hv d k)

        dt : Agree D direct turning
        dt =
            sum_lower o (W u x) (Sum D (W x p) (W p v)) d (minus D d (zero_of D)) less
            (sum_right o (W u x) (W x p) (W p v) d
            (sum_map o (W u p) (W p v) (Sum D (W u x) (W x p)) (W p v) (settled.through u p hu hp) (λ f h. h) d l))

        rd : Agree D round onward
        rd =
            sum_lower o (Sum D (W u p) (W p x)) (W x v) d (minus D d (zero_of D)) less
            (sum_left o (W u p) (W p x) (W x v) d
            (sum_map o (W u p) (W p v) (W u p) (Sum D (W p x) (W x v)) (λ f h. h) (settled.through p v hp hv) d l))

        loop : Sum D (W u p) (W p v) d → Sum D (W p x) (W x p) (zero_of D) → Sum D (Sum D (W u p) (W p x)) (Sum D (W x p) (W p v)) d
        loop (e, f, he, hf, h) (a, b, ha, hb, m) = (
          add e a,
          add b f,
          (e, a, he, ha, o.le_refl (add e a)),
          (b, f, hb, hf, o.le_refl (add b f)),
          le_from2 o (a ∷ b ∷ e ∷ f ∷ d ∷ []) v4 (v2 ⊞ v0 ⊞ (v1 ⊞ v3)) v4 (v2 ⊞ v3) nil (v0 ⊞ v1) refl h m,
        )

        rt : Agree D round turning
        rt =
            sum_lower o (Sum D (W u p) (W p x)) (Sum D (W x p) (W p v)) d (minus D d (zero_of D)) less
            (loop l (settled.through p p hp hp (zero_of D) free))

        go : ((y : Diff) × All (Above D y) (direct ∷ round ∷ []) × All (Below D y) (onward ∷ turning ∷ []))
            → Sum D (Pivoted D W p u x) (Pivoted D W p x v) d
        go (y, a, b) = (
          minus D d y,
          minus D y (zero_of D),
          (a.0, a.1.0),
          (b.0, b.1.0),
          le_same o (d ∷ y ∷ []) v0 (v0 ⊟ v1 ⊞ (v1 ⊟ nil)) refl,
        )

    -- KEEPS: a pivot keeps what is settled.
    pub pivot_keeps : Settled D N (Pivoted D W p) x
    pivot_keeps =
        record {
          through = kept_through;
          nought = (settled.nought, sum_swap o (W p x) (W x p) (zero_of D) (settled.through p p hp hp (zero_of D) free));
        }

-- ── Tables that allow the same ──

-- Below N the two tables allow the same.
abbrev pub SameTable : (D : Differences) → ℕ → Table D → Table D → Type 0
SameTable D N V W = (u v : ℕ) → u < N → v < N → (d : D.Diff) → V u v d ↔ W u v d

module _ {D : Differences} (o : Ordered D) (N : ℕ) (V W : Table D) (same : SameTable D N V W) where
  open D use {Diff, le, add, neg}

  pub same_settled : (x : ℕ) → x < N → Settled D N V x → Settled D N W x
  same_settled x h s =
      record {
        through = λ u v hu hv d k. sum_map o (V u x) (V x v) (W u x) (W x v) (λ e. (same u x hu h e).0) (λ f. (same x v h hv f).0) d
            (s.through u v hu hv d ((same u v hu hv d).1 k));
        nought = (same x x h h (zero_of D)).0 s.nought;
      }

  pub same_closed : ((u v : ℕ) → Lower D (W u v)) → Closed D N V → Closed D N W
  same_closed low c =
      record {
        lower = low;
        no_more = λ u h d k. c.no_more u h d ((same u u h h d).1 k);
        settled = λ u h. same_settled u h (c.settled u h);
      }

  pub same_solutions : (x : ℕ → Diff) → Satisfies D N V x ↔ Satisfies D N W x
  same_solutions x = (
    (λ s u v hu hv. (same u v hu hv (minus D (x u) (x v))).0 (s u v hu hv)),
    (λ s u v hu hv. (same u v hu hv (minus D (x u) (x v))).1 (s u v hu hv)),
  )
