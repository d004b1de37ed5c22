-- One new node on a closed table: bounds between it and the old nodes are spread over the table, one test says whether there is a solution, and one pivot closes the table.
use Rattle.std.proofs.Common.{ℕ, suc, ◌<◌, ◌↔◌, [], ◌∷◌, refl, arith}
use Rattle.bound.specs.Differences.{Differences, Ordered, zero_of, minus}
use Rattle.runs.specs.Tables.{Set, Table, Lower, Sum, Settled, Closed, Satisfies, Pivoted, Into, Onward, IsStar, KeepsDirect}
use Rattle.bound.specs.Solver.{◌⊞◌, ◌⊟◌, nil, v0, v1, v2, le_same, le_from}
use Rattle.runs.proofs.Sums.{sum_swap, sum_lower, sum_map, sum_right, sum_left, sum_no_more}
use Rattle.runs.proofs.Lists.{up_to}
use Rattle.runs.proofs.Helly.{highest}
use Rattle.runs.proofs.Pivot.{two_steps, pivot_lower, pivot_settles, pivot_keeps}

module _ {D : Differences} (o : Ordered D) (N : ℕ) (T : Table D) (a b : ℕ → Set D) where
  open D use {Diff, le, add, neg}

  -- dates that keep T and the direct bounds keep what follows from them
  pub into_kept : (x : ℕ → Diff) → Satisfies D N T x → KeepsDirect D N a b x → (u : ℕ) → u < N → Into D N T a u (minus D (x u) (x N))
  into_kept x s k u h i l = two_steps o N T (T u i) (a i) (x u) (x i) (x N) (s u i h l) (k.into i l)

  pub onward_kept : (x : ℕ → Diff) → Satisfies D N T x → KeepsDirect D N a b x → (v : ℕ) → v < N → Onward D N T b v (minus D (x N) (x v))
  onward_kept x s k v h i l = two_steps o N T (b i) (T i v) (x N) (x i) (x v) (k.onward i l) (s i v l h)

  module _ (closed : Closed D N T) where
    through : (x u v : ℕ) → x < N → u < N → v < N → (c : Diff) → T u v c → Sum D (T u x) (T x v) c
    through x u v hx hu hv = (closed.settled x hx).through u v hu hv

    -- what is said of u and the new node is said through x
    into_through : (x u : ℕ) → x < N → u < N → (d : Diff) → Into D N T a u d → Sum D (T u x) (Into D N T a x) d
    into_through x u hx hu d h = go (highest o (T u x) Q up (ways x hx).0 (ways x hx).2 N (λ i l. one (ways i l)))
      where
        Q : ℕ → Set D
        Q i e = Sum D (T x i) (a i) (minus D d e)

        up : (i : ℕ) (e f : Diff) → le e f → Q i e → Q i f
        up i e f l k = sum_lower o (T x i) (a i) (minus D d e) (minus D d f) (le_from o (d ∷ e ∷ f ∷ []) (v0 ⊟ v2) (v0 ⊟ v1) v1 v2 refl l) k

        ways : (i : ℕ) → i < N → Sum D (T u x) (Sum D (T x i) (a i)) d
        ways i l = sum_right o (T u x) (T x i) (a i) d
            (sum_map o (T u i) (a i) (Sum D (T u x) (T x i)) (a i) (through x u i hx hu l) (λ f k. k) d (h i l))

        one : {i : ℕ} → Sum D (T u x) (Sum D (T x i) (a i)) d → (e : Diff) × T u x e × Q i e
        one {i} (e, f, he, hf, k) = (e, he, sum_lower o (T x i) (a i) f (minus D d e) (le_from o (d ∷ e ∷ f ∷ []) (v0 ⊟ v1) v2 v0 (v1 ⊞ v2) refl k) hf)

        go : ((e : Diff) × T u x e × ((i : ℕ) → i < N → Q i e)) → Sum D (T u x) (Into D N T a x) d
        go (e, he, k) = (e, minus D d e, he, k, le_same o (d ∷ e ∷ []) v0 (v1 ⊞ (v0 ⊟ v1)) refl)

    onward_through : (x v : ℕ) → x < N → v < N → (d : Diff) → Onward D N T b v d → Sum D (Onward D N T b x) (T x v) d
    onward_through x v hx hv d h = go (highest o (T x v) Q up (ways x hx).1 (ways x hx).3 N (λ i l. one (ways i l)))
      where
        Q : ℕ → Set D
        Q i f = Sum D (b i) (T i x) (minus D d f)

        up : (i : ℕ) (e f : Diff) → le e f → Q i e → Q i f
        up i e f l k = sum_lower o (b i) (T i x) (minus D d e) (minus D d f) (le_from o (d ∷ e ∷ f ∷ []) (v0 ⊟ v2) (v0 ⊟ v1) v1 v2 refl l) k

        ways : (i : ℕ) → i < N → Sum D (Sum D (b i) (T i x)) (T x v) d
        ways i l = sum_left o (b i) (T i x) (T x v) d
            (sum_map o (b i) (T i v) (b i) (Sum D (T i x) (T x v)) (λ f k. k) (through x i v hx l hv) d (h i l))

        one : {i : ℕ} → Sum D (Sum D (b i) (T i x)) (T x v) d → (f : Diff) × T x v f × Q i f
        one {i} (e, f, he, hf, k) = (f, hf, sum_lower o (b i) (T i x) e (minus D d f) (le_from o (d ∷ e ∷ f ∷ []) (v0 ⊟ v2) v1 v0 (v1 ⊞ v2) refl k) he)

        go : ((f : Diff) × T x v f × ((i : ℕ) → i < N → Q i f)) → Sum D (Onward D N T b x) (T x v) d
        go (f, hf, k) = (minus D d f, f, k, hf, le_same o (d ∷ f ∷ []) v0 (v0 ⊟ v1 ⊞ v1) refl)

    -- the test: no way from the new node to j and back is short of nought
    abbrev pub Test : Type 0
    Test = (j : ℕ) → j < N → Sum D (b j) (Into D N T a j) (zero_of D)

    -- then no way through any x is
    round_trip : Test → (x : ℕ) → x < N → Sum D (Onward D N T b x) (Into D N T a x) (zero_of D)
    round_trip test x hx = go (highest o (Into D N T a x) Q up (ways x hx).1 (ways x hx).3 N (λ i l. one (ways i l)))
      where
        Q : ℕ → Set D
        Q i f = Sum D (b i) (T i x) (minus D (zero_of D) f)

        up : (i : ℕ) (e f : Diff) → le e f → Q i e → Q i f
        up i e f l k =
            sum_lower o (b i) (T i x) (minus D (zero_of D) e) (minus D (zero_of D) f) (le_from o (e ∷ f ∷ []) (nil ⊟ v1) (nil ⊟ v0) v0 v1 refl l) k

        ways : (i : ℕ) → i < N → Sum D (Sum D (b i) (T i x)) (Into D N T a x) (zero_of D)
        ways i l = sum_left o (b i) (T i x) (Into D N T a x) (zero_of D)
            (sum_map o (b i) (Into D N T a i) (b i) (Sum D (T i x) (Into D N T a x)) (λ f k. k) (into_through x i hx l) (zero_of D) (test i l))

        one : {i : ℕ} → Sum D (Sum D (b i) (T i x)) (Into D N T a x) (zero_of D) → (f : Diff) × Into D N T a x f × Q i f
        one {i} (e, f, he, hf, k) =
            (f, hf, sum_lower o (b i) (T i x) e (minus D (zero_of D) f) (le_from o (e ∷ f ∷ []) (nil ⊟ v1) v0 nil (v0 ⊞ v1) refl k) he)

        go : ((f : Diff) × Into D N T a x f × ((i : ℕ) → i < N → Q i f)) → Sum D (Onward D N T b x) (Into D N T a x) (zero_of D)
        go (f, hf, k) = (minus D (zero_of D) f, f, k, hf, le_same o (f ∷ []) nil (nil ⊟ v0 ⊞ v0) refl)

    module _ (W : Table D) (star : IsStar D N T a b W) where
      -- SETTLED: if the test passes, every old node is settled in the table with the new one.
      pub star_settled : Test → (x : ℕ) → x < N → Settled D (suc N) W x
      star_settled test x hx =
          record {
            through = λ u v hu hv. up_to N (λ u. (d : Diff) → W u v d → Sum D (W u x) (W x v) d)
                (λ u lu. up_to N (λ v. (d : Diff) → W u v d → Sum D (W u x) (W x v) d) (λ v lv. old_old u v lu lv) (old_new u lu) v hv)
                (up_to N (λ v. (d : Diff) → W N v d → Sum D (W N x) (W x v) d) (λ v lv. new_old v lv) new_new v hv) u hu;
            nought = (star.old x x hx hx (zero_of D)).1 (closed.settled x hx).nought;
          }
        where
          old_old : (u v : ℕ) → u < N → v < N → (d : Diff) → W u v d → Sum D (W u x) (W x v) d
          old_old u v hu hv d h =
              sum_map o (T u x) (T x v) (W u x) (W x v) (λ e. (star.old u x hu hx e).1) (λ f. (star.old x v hx hv f).1) d
              (through x u v hx hu hv d ((star.old u v hu hv d).0 h))

          old_new : (u : ℕ) → u < N → (d : Diff) → W u N d → Sum D (W u x) (W x N) d
          old_new u hu d h =
              sum_map o (T u x) (Into D N T a x) (W u x) (W x N) (λ e. (star.old u x hu hx e).1) (λ f. (star.into x hx f).1) d
              (into_through x u hx hu d ((star.into u hu d).0 h))

          new_old : (v : ℕ) → v < N → (d : Diff) → W N v d → Sum D (W N x) (W x v) d
          new_old v hv d h =
              sum_map o (Onward D N T b x) (T x v) (W N x) (W x v) (λ e. (star.onward x hx e).1) (λ f. (star.old x v hx hv f).1) d
              (onward_through x v hx hv d ((star.onward v hv d).0 h))

          new_new : (d : Diff) → W N N d → Sum D (W N x) (W x N) d
          new_new d h =
              sum_map o (Onward D N T b x) (Into D N T a x) (W N x) (W x N) (λ e. (star.onward x hx e).1) (λ f. (star.into x hx f).1) d
              (sum_lower o (Onward D N T b x) (Into D N T a x) (zero_of D) d ((star.self d).0 h) (round_trip test x hx))

      star_no_more : (u : ℕ) → u < suc N → (d : Diff) → W u u d → le d (zero_of D)
      star_no_more u hu =
          up_to N (λ u. (d : Diff) → W u u d → le d (zero_of D)) (λ u l d h. closed.no_more u l d ((star.old u u l l d).0 h)) (λ d h. (star.self d).0 h) u hu

      -- CLOSED: and one pivot on the new node closes it.
      pub star_closed : ((u v : ℕ) → Lower D (W u v)) → Test → Closed D (suc N) (Pivoted D W N)
      star_closed low test =
          record {
            lower = pivot_lower o (suc N) W N low;
            no_more = λ u h d k. star_no_more u h d k.0;
            settled = up_to N (Settled D (suc N) (Pivoted D W N))
                (λ u l. pivot_keeps o (suc N) W low N (omega arith) free u (omega arith) (star_settled test u l))
                (pivot_settles o (suc N) W N free);
          }
        where
          free : W N N (zero_of D)
          free = (star.self (zero_of D)).1 (o.le_refl (zero_of D))

      -- SOUND: it has the solutions of T that keep the direct bounds.
      pub star_sound : ((i : ℕ) → Lower D (a i)) → ((i : ℕ) → Lower D (b i)) → (x : ℕ → Diff)
          → Satisfies D (suc N) W x ↔ (Satisfies D N T x × KeepsDirect D N a b x)
      star_sound low_a low_b x = (apart, together)
        where
          apart : Satisfies D (suc N) W x → Satisfies D N T x × KeepsDirect D N a b x
          apart s = (
            (λ u v hu hv. (star.old u v hu hv _).0 (s u v (omega arith) (omega arith))),
            record {
              into = λ i l. sum_no_more o (a i) (T i i) (low_a i) (closed.no_more i l) _
                  (sum_swap o (T i i) (a i) _ ((star.into i l _).0 (s i N (omega arith) (omega arith)) i l));
              onward = λ i l. sum_no_more o (b i) (T i i) (low_b i) (closed.no_more i l) _
                  ((star.onward i l _).0 (s N i (omega arith) (omega arith)) i l);
            },
          )

          together : Satisfies D N T x × KeepsDirect D N a b x → Satisfies D (suc N) W x
          together (s, k) u v hu hv =
              up_to N (λ u. W u v (minus D (x u) (x v)))
              (λ u lu. up_to N (λ v. W u v (minus D (x u) (x v))) (λ v lv. (star.old u v lu lv _).1 (s u v lu lv)) ((star.into u lu _).1 (into_kept x s k u lu)) v hv)
              (up_to N (λ v. W N v (minus D (x N) (x v))) (λ v lv. (star.onward v lv _).1 (onward_kept x s k v lv))
              ((star.self _).1 (le_same o (x N ∷ []) (v0 ⊟ v0) nil refl)) v hv) u hu
