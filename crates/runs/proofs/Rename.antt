-- A closed table under new names for its nodes, some of which may be left out, is closed, and its solutions are the parts of solutions.
-- What a closed table says at one place, some solution reaches.
use Rattle.std.proofs.Common.{ℕ, ◌<◌, ◌↔◌, List, [], ◌∷◌, refl}
use Rattle.bound.specs.Differences.{Differences, Same, Ordered, zero_of, minus}
use Rattle.runs.specs.Tables.{Table, Sum, Closed, Satisfies, Renamed, Entry, Fits}
use Rattle.bound.specs.Solver.{◌⊞◌, ◌⊟◌, nil, v0, v1, v2, v3, le_same, le_from2, le_from3}
use Rattle.chart.specs.Lists.{All}
use Rattle.runs.specs.Lists.{row}
use Rattle.runs.proofs.Lists.{row_all, all_row}
use Rattle.runs.proofs.Helly.{greater_of}
use Rattle.runs.proofs.Solve.{solve, fits_self}

module _ {D : Differences} (o : Ordered D) (N : ℕ) (T : Table D) (closed : Closed D N T) where
  open D use {Diff, le, add, neg}

  -- RENAMED
  pub renamed_closed : (M : ℕ) (f : ℕ → ℕ) → ((i : ℕ) → i < M → f i < N) → Closed D M (Renamed D T f)
  renamed_closed M f h =
      record {
        lower = λ u v. closed.lower (f u) (f v);
        no_more = λ u l. closed.no_more (f u) (h u l);
        settled = λ x l. record {
          through = λ u v hu hv. (closed.settled (f x) (h x l)).through (f u) (f v) (h u hu) (h v hv);
          nought = (closed.settled (f x) (h x l)).nought;
        };
      }

  -- a solution of the renamed table is a part of a solution of the table, and the other way round
  pub renamed_solutions : (M : ℕ) (f : ℕ → ℕ) → ((i : ℕ) → i < M → f i < N) → (x : ℕ → Diff)
      → Satisfies D M (Renamed D T f) x ↔ ((y : ℕ → Diff) × Satisfies D N T y × ((i : ℕ) → i < M → Same D (y (f i)) (x i)))
  renamed_solutions M f h x = (whole, part)
    where
      entry : ℕ → Entry D
      entry i = record { node = f i; value = x i }

      Whole : Type 0
      Whole = (y : ℕ → Diff) × Satisfies D N T y × ((i : ℕ) → i < M → Same D (y (f i)) (x i))

      finish : ((y : ℕ → Diff) × Satisfies D N T y × All (λ e. Same D (y e.node) e.value) (row entry M)) → Whole
      finish (y, s, a) = (y, s, all_row (λ e. Same D (y e.node) e.value) entry M a)

      whole : Satisfies D M (Renamed D T f) x → Whole
      whole s =
          finish (solve o N T closed (row entry M) (row_all (λ e. e.node < N) entry M h)
          (row_all (λ i. All (Fits D T i) (row entry M)) entry M (λ i hi. row_all (Fits D T (entry i)) entry M (λ j hj. s i j hi hj))))

      part : Whole → Satisfies D M (Renamed D T f) x
      part (y, s, a) u v hu hv =
          closed.lower (f u) (f v) (minus D (y (f u)) (y (f v))) (minus D (x u) (x v))
          (le_from2 o (x u ∷ x v ∷ y (f u) ∷ y (f v) ∷ []) (v0 ⊟ v1) (v2 ⊟ v3) v0 v2 v3 v1 refl (a u hu).1 (a v hv).0)
          (s (f u) (f v) (h u hu) (h v hv))

  -- REACHED: what a place allows, a solution reaches.
  pub reached : (u v : ℕ) → u < N → v < N → (d : Diff) → T u v d → (x : ℕ → Diff) × Satisfies D N T x × le d (minus D (x u) (x v))
  reached u v hu hv d h = back ((closed.settled u hu).through v v hv hv (zero_of D) (closed.settled v hv).nought)
    where
      Result : Type 0
      Result = (x : ℕ → Diff) × Satisfies D N T x × le d (minus D (x u) (x v))

      Back : Diff → Type 0
      Back p = T v u (minus D (zero_of D) p)

      entries : Diff → List (Entry D)
      entries p = record { node = u; value = p } ∷ record { node = v; value = zero_of D } ∷ []

      finish : (p : Diff) → le d p → ((x : ℕ → Diff) × Satisfies D N T x × All (λ e. Same D (x e.node) e.value) (entries p)) → Result
      finish p l (x, s, (a, (b, _))) =
          (x, s, le_from3 o (d ∷ p ∷ x u ∷ x v ∷ []) v0 (v2 ⊟ v3) v0 v1 v1 v2 v3 nil refl l a.1 b.0)

      at : (p : Diff) → T u v p → Back p → le d p → Result
      at p k b l =
          finish p l (solve o N T closed (entries p) (hu, (hv, tt)) (
            (
              fits_self o N T closed u p hu,
              (closed.lower u v p (minus D p (zero_of D)) (le_same o (p ∷ []) (v0 ⊟ nil) v0 refl) k, tt),
            ),
            ((b, (fits_self o N T closed v (zero_of D) hv, tt)), tt),
          ))

      high : (e p : Diff) → T v u e → le (zero_of D) (add e p) → ((q : Diff) × T u v q × le p q × le d q) → Result
      high e p he l (q, k, pq, dq) =
          at q k (closed.lower v u e (minus D (zero_of D) q) (le_from2 o (e ∷ p ∷ q ∷ []) (nil ⊟ v2) v0 nil (v0 ⊞ v1) v1 v2 refl l pq) he) dq

      back : Sum D (T v u) (T u v) (zero_of D) → Result
      back (e, p, he, hp, l) = high e p he l (greater_of o (T u v) p d hp h)
