-- The elapsed time is eliminated: two readings keep every limit of a closed table exactly when some time between them gives dates that keep the table.
use Rattle.std.proofs.Common.{◌≡◌, ℕ, ◌+◌, ◌<◌, ◌⊎◌, [], ◌∷◌, refl, subst, subst₂, inl, inr, arith}
use native.Mathlib.Decide.{ℕ_discrete}
use Rattle.bound.specs.Differences.{Differences, Ordered, zero_of, minus}
use Rattle.runs.specs.Tables.{Table, Sum, Closed, Satisfies}
use Rattle.runs.proofs.Dates.{dates, by_halves, date_start, date_end, limited, KeepsLimit, KeepsAll, KeepsNamed}
use Rattle.bound.specs.Solver.{◌⊞◌, ◌⊟◌, opp, nil, v0, v1, v2, v3, v4, le_same}
use Rattle.runs.proofs.Sums.{sum_swap, sum_lower, sum_nought, sum_no_more}
use Rattle.chart.specs.Lists.{All}
use Rattle.runs.proofs.Lists.{grid, grid_all, all_grid}
use Rattle.runs.proofs.Helly.{Demand, Above, Below, Agree, helly}

-- ── Helly over two grids of demands ──

pub helly_grid : {D : Differences} (o : Ordered D) (m : ℕ) → 0 < m → (q p : ℕ → ℕ → Demand D)
    → ((i j k l : ℕ) → i < m → j < m → k < m → l < m → Agree D (q i j) (p k l))
    → (r : D.Diff) × ((i j : ℕ) → i < m → j < m → Above D r (q i j)) × ((k l : ℕ) → k < m → l < m → Below D r (p k l))
helly_grid {D} o m pos q p h = go (helly o (q 0 0) (grid q m m) (p 0 0) (grid p m m) (line 0 0 pos pos, grid_all Line q m m line))
  where
    Line : Demand D → Type 0
    Line x = All (Agree D x) (p 0 0 ∷ grid p m m)

    line : (i j : ℕ) → i < m → j < m → Line (q i j)
    line i j li lj = (h i j 0 0 li lj pos pos, grid_all (Agree D (q i j)) p m m (λ k l. h i j k l li lj))

    go : ((r : D.Diff) × All (Above D r) (q 0 0 ∷ grid q m m) × All (Below D r) (p 0 0 ∷ grid p m m))
        → (r : D.Diff) × ((i j : ℕ) → i < m → j < m → Above D r (q i j)) × ((k l : ℕ) → k < m → l < m → Below D r (p k l))
    go (r, a, b) = (r, all_grid (Above D r) q m m a.1, all_grid (Below D r) p m m b.1)

module _ {D : Differences} (o : Ordered D) (m : ℕ) (T : Table D) (closed : Closed D (m + m) T) (start end : ℕ → D.Diff) where
  open D use {Diff, le, add, neg}

  -- what the table says of the start alone, and of the end alone
  abbrev StartKept : Type 0
  StartKept = (a b : ℕ) → a < m → b < m → T b a (minus D (start a) (start b))

  abbrev EndKept : Type 0
  EndKept = (c d : ℕ) → c < m → d < m → T (m + d) (m + c) (minus D (end c) (end d))

  start_of : (a b : ℕ) → a < m → b < m → 0 < m → Sum D (T b a) (T (m + 0) (m + 0)) (limited D start end a b 0 0) → T b a (minus D (start a) (start b))
  start_of a b ha hb pos h =
      sum_no_more o (T b a) (T (m + 0) (m + 0)) (closed.lower b a) (closed.no_more (m + 0) (omega arith)) (minus D (start a) (start b))
      (sum_lower o (T b a) (T (m + 0) (m + 0)) (limited D start end a b 0 0) (minus D (start a) (start b))
      (le_same o (start a ∷ start b ∷ end 0 ∷ []) (v0 ⊟ v1) (v0 ⊟ v1 ⊞ (v2 ⊟ v2)) refl) h)

  end_of : (c d : ℕ) → c < m → d < m → 0 < m → Sum D (T 0 0) (T (m + d) (m + c)) (limited D start end 0 0 c d)
      → T (m + d) (m + c) (minus D (end c) (end d))
  end_of c d hc hd pos h =
      sum_no_more o (T (m + d) (m + c)) (T 0 0) (closed.lower (m + d) (m + c)) (closed.no_more 0 (omega arith)) (minus D (end c) (end d))
      (sum_lower o (T (m + d) (m + c)) (T 0 0) (limited D start end 0 0 c d) (minus D (end c) (end d))
      (le_same o (end c ∷ end d ∷ start 0 ∷ []) (v0 ⊟ v1) (v2 ⊟ v2 ⊞ (v0 ⊟ v1)) refl)
      (sum_swap o (T 0 0) (T (m + d) (m + c)) (limited D start end 0 0 c d) h))

  start_kept : 0 < m → KeepsAll D m T start end → StartKept
  start_kept pos k a b ha hb = start_of a b ha hb pos (k a b 0 0 ha hb pos pos).straight

  end_kept : 0 < m → KeepsAll D m T start end → EndKept
  end_kept pos k c d hc hd = end_of c d hc hd pos (k 0 0 c d pos pos hc hd).straight

  -- demands on the time: (b, c) from below, (d, a) from above
  abbrev early : ℕ → ℕ → Demand D
  early b c = record { set = T b (m + c); lower = closed.lower b (m + c); place = minus D (end c) (start b) }

  abbrev late : ℕ → ℕ → Demand D
  late d a = record { set = T (m + d) a; lower = closed.lower (m + d) a; place = minus D (end d) (start a) }

  agree : KeepsAll D m T start end → (b c d a : ℕ) → b < m → c < m → d < m → a < m → Agree D (early b c) (late d a)
  agree k b c d a hb hc hd ha =
      sum_lower o (T b (m + c)) (T (m + d) a) (limited D start end a b c d) _
      (le_same o (start a ∷ start b ∷ end c ∷ end d ∷ []) (v2 ⊟ v1 ⊟ (v3 ⊟ v0)) (v0 ⊟ v1 ⊞ (v2 ⊟ v3)) refl)
      (sum_swap o (T (m + d) a) (T b (m + c)) (limited D start end a b c d) (k a b c d ha hb hc hd).crossed)

  -- ELAPSED: readings that keep every limit have a time between them.
  pub elapsed : 0 < m → KeepsAll D m T start end → (t : Diff) × Satisfies D (m + m) T (dates D m start end t)
  elapsed pos k = go (helly_grid o m pos early late (agree k))
    where
      go : ((t : Diff) × ((b c : ℕ) → b < m → c < m → Above D t (early b c)) × ((d a : ℕ) → d < m → a < m → Below D t (late d a)))
          → (t : Diff) × Satisfies D (m + m) T (dates D m start end t)
      go (t, above, below) = (
        t,
        λ u v hu hv. by_halves D m start end t (λ u x. T u v (minus D x (dates D m start end t v)))
            (λ i hi. by_halves D m start end t (λ v y. T i v (minus D (neg (start i)) y))
            (λ j hj. closed.lower i j _ _ (le_same o (start i ∷ start j ∷ []) (opp v0 ⊟ opp v1) (v1 ⊟ v0) refl) (start_kept pos k j i hj hi))
            (λ j hj. closed.lower i (m + j) _ _ (le_same o (start i ∷ end j ∷ t ∷ []) (opp v0 ⊟ (v2 ⊟ v1)) (v1 ⊟ v0 ⊟ v2) refl) (above i j hi hj)) v hv)
            (λ i hi. by_halves D m start end t (λ v y. T (m + i) v (minus D (minus D t (end i)) y))
            (λ j hj. closed.lower (m + i) j _ _ (le_same o (start j ∷ end i ∷ t ∷ []) (v2 ⊟ v1 ⊟ opp v0) (v2 ⊟ (v1 ⊟ v0)) refl) (below i j hi hj))
            (λ j hj. closed.lower (m + i) (m + j) _ _ (le_same o (end i ∷ end j ∷ t ∷ []) (v2 ⊟ v0 ⊟ (v2 ⊟ v1)) (v1 ⊟ v0) refl) (end_kept pos k j i hj hi)) v hv)
            u hu,
      )

  -- And dates that keep the table are of readings that keep every limit.
  pub limits_kept : (t : Diff) → Satisfies D (m + m) T (dates D m start end t) → KeepsAll D m T start end
  limits_kept t s a b c d ha hb hc hd =
      record {
        straight = (
          minus D (neg (start b)) (neg (start a)),
          minus D (minus D t (end d)) (minus D t (end c)),
          subst₂ (λ x y. T b a (minus D x y)) (at_start b hb) (at_start a ha) (s b a (omega arith) (omega arith)),
          subst₂ (λ x y. T (m + d) (m + c) (minus D x y)) (at_end d hd) (at_end c hc) (s (m + d) (m + c) (omega arith) (omega arith)),
          le_same o (start a ∷ start b ∷ end c ∷ end d ∷ t ∷ []) (v0 ⊟ v1 ⊞ (v2 ⊟ v3)) (opp v1 ⊟ opp v0 ⊞ (v4 ⊟ v3 ⊟ (v4 ⊟ v2))) refl,
        );
        crossed = (
          minus D (minus D t (end d)) (neg (start a)),
          minus D (neg (start b)) (minus D t (end c)),
          subst₂ (λ x y. T (m + d) a (minus D x y)) (at_end d hd) (at_start a ha) (s (m + d) a (omega arith) (omega arith)),
          subst₂ (λ x y. T b (m + c) (minus D x y)) (at_start b hb) (at_end c hc) (s b (m + c) (omega arith) (omega arith)),
          le_same o (start a ∷ start b ∷ end c ∷ end d ∷ t ∷ []) (v0 ⊟ v1 ⊞ (v2 ⊟ v3)) (v4 ⊟ v3 ⊟ opp v0 ⊞ (opp v1 ⊟ (v4 ⊟ v2))) refl,
        );
      }
    where
      at_start : (i : ℕ) → i < m → dates D m start end t i ≡ neg (start i)
      at_start = date_start D m start end t

      at_end : (i : ℕ) → i < m → dates D m start end t (m + i) ≡ minus D t (end i)
      at_end = date_end D m start end t

  -- ── Limits under their names are enough ──

  straight_and_crossed : StartKept → EndKept → (a b c d : ℕ) → a < m → b < m → c < m → d < m → (a ≡ b) ⊎ (c ≡ d) → KeepsLimit D m T start end a b c d
  straight_and_crossed hs he a b c d ha hb hc hd (inl e) =
      subst (λ z. KeepsLimit D m T start end a z c d) e
      record {
        straight = sum_swap o (T (m + d) (m + c)) (T a a) _
            (sum_nought o (T (m + d) (m + c)) (T a a) (closed.settled a (omega arith)).nought _ less);
        crossed = (closed.settled a (omega arith)).through (m + d) (m + c) (omega arith) (omega arith) _ less;
      }
    where
      less : T (m + d) (m + c) (limited D start end a a c d)
      less = closed.lower (m + d) (m + c) _ _ (le_same o (start a ∷ end c ∷ end d ∷ []) (v0 ⊟ v0 ⊞ (v1 ⊟ v2)) (v1 ⊟ v2) refl) (he c d hc hd)
  straight_and_crossed hs he a b c d ha hb hc hd (inr e) =
      subst (λ z. KeepsLimit D m T start end a b c z) e
      record {
        straight = sum_nought o (T b a) (T (m + c) (m + c)) (closed.settled (m + c) (omega arith)).nought _ less;
        crossed = sum_swap o (T b (m + c)) (T (m + c) a) _
            ((closed.settled (m + c) (omega arith)).through b a (omega arith) (omega arith) _ less);
      }
    where
      less : T b a (limited D start end a b c c)
      less = closed.lower b a _ _ (le_same o (start a ∷ start b ∷ end c ∷ []) (v0 ⊟ v1 ⊞ (v2 ⊟ v2)) (v0 ⊟ v1) refl) (hs a b ha hb)

  -- NAMED: readings that keep every limit that has a name keep all.
  pub named_are_all : 0 < m → KeepsNamed D m T start end → KeepsAll D m T start end
  named_are_all pos k a b c d ha hb hc hd = go (ℕ_discrete a b) (ℕ_discrete c d)
    where
      starts : StartKept
      starts a b ha hb = by (ℕ_discrete a b)
        where
          by : Dec (a ≡ b) → T b a (minus D (start a) (start b))
          by (yes e) =
              subst (λ z. T z a (minus D (start a) (start z))) e
              (closed.lower a a (zero_of D) _ (le_same o (start a ∷ []) (v0 ⊟ v0) nil refl) (closed.settled a (omega arith)).nought)
          by (no n) = start_of a b ha hb pos (k a b 0 0 ha hb pos pos record { first = λ e. absurd (n e); second = λ e. refl; some = λ e. n (omega arith) }).straight

      ends : EndKept
      ends c d hc hd = by (ℕ_discrete c d)
        where
          by : Dec (c ≡ d) → T (m + d) (m + c) (minus D (end c) (end d))
          by (yes e) =
              subst (λ z. T (m + z) (m + c) (minus D (end c) (end z))) e
              (closed.lower (m + c) (m + c) (zero_of D) _ (le_same o (end c ∷ []) (v0 ⊟ v0) nil refl) (closed.settled (m + c) (omega arith)).nought)
          by (no n) = end_of c d hc hd pos (k 0 0 c d pos pos hc hd record { first = λ e. refl; second = λ e. absurd (n e); some = λ e. n (omega arith) }).straight

      go : Dec (a ≡ b) → Dec (c ≡ d) → KeepsLimit D m T start end a b c d
      go (yes e) _ = straight_and_crossed starts ends a b c d ha hb hc hd (inl e)
      go (no n) (yes e) = straight_and_crossed starts ends a b c d ha hb hc hd (inr e)
      go (no n) (no o) = k a b c d ha hb hc hd record { first = λ e. absurd (n e); second = λ e. absurd (o e); some = λ e. n (omega arith) }
