-- What a chart's table tells of its runs: the dates of runs are its solutions, so its places are the tightest chains and the chart has a run. Assumes nothing.
use Rattle.std.proofs.Common.{◌≡◌, ℕ, zero, suc, ◌+◌, ◌<◌, [], ◌∷◌, length, sym, refl, subst, subst₂, inl, inr, arith}
use Rattle.bound.specs.Differences.{Differences, Same, Ordered, zero_of, minus}
use Rattle.chart.specs.Charts.{Chart}
use Rattle.runs.specs.Runs.{Reading, reads, Run, HasRun}
use Rattle.runs.specs.Graph.{before, Date, node, Chain, Allowed, Attained, Tightest}
use Rattle.runs.specs.Tables.{Set, Table, Lower, Satisfies}
use Rattle.runs.specs.Good.{Shows, Good}
use Rattle.bound.specs.Groups.{≈-refl, ≈-sym, ≈-trans}
use Rattle.bound.specs.Solver.{◌⊞◌, ◌⊟◌, opp, nil, v0, v1, v2, v3, v4, rearrange, le_from, le_from2, same_from, same_from2}
use Rattle.runs.proofs.Dates.{dates, by_halves, date_start, date_end}
use Rattle.runs.proofs.Instants.{Instant, date_at, instants, ends}
use Rattle.runs.proofs.Sound.{run_date, chain_kept}
use Rattle.runs.proofs.Chains.{allowed_lower, attained_up}
use Rattle.runs.proofs.Pivot.{SameTable, same_closed, same_solutions}
use Rattle.runs.proofs.Nodes.{node_start, node_end}
use Rattle.runs.proofs.Rename.{reached}
use Rattle.runs.proofs.Solve.{solvable}

-- ── Readings and dates ──

module _ {D : Differences} (o : Ordered D) (n : ℕ) where
  open D use {Diff, le, add, neg}

  -- the readings that dates of the nodes show
  abbrev pub start_of : (ℕ → Diff) → Reading D
  start_of x i = minus D (x 0) (x i)

  abbrev pub end_of : (ℕ → Diff) → Reading D
  end_of x i = minus D (x (suc n + 0)) (x (suc n + i))

  abbrev pub time_of : (ℕ → Diff) → Diff
  time_of x = minus D (x (suc n + 0)) (x 0)

  start_reads : (x : ℕ → Diff) (i : ℕ) → Same D (minus D (x 0) (x i)) (reads D (start_of x) i)
  start_reads x zero = rearrange o (x 0 ∷ []) (v0 ⊟ v0) nil refl
  start_reads x (suc i) = ≈-refl o _

  end_reads : (x : ℕ → Diff) (i : ℕ) → Same D (minus D (x (suc n + 0)) (x (suc n + i))) (reads D (end_of x) i)
  end_reads x zero = rearrange o (x (suc n + 0) ∷ []) (v0 ⊟ v0) nil refl
  end_reads x (suc i) = ≈-refl o _

  pub shows_own : (x : ℕ → Diff) → Shows D n x (start_of x) (time_of x) (end_of x)
  shows_own x = record { starts = λ i l. start_reads x i; time = ≈-refl o (time_of x); ends = λ i l. end_reads x i }

  -- the dates that readings and a time give
  abbrev pub dates_of : Reading D → Diff → Reading D → ℕ → Diff
  dates_of σ t ε = dates D (suc n) (reads D σ) (reads D ε) t

  pub shows_dates : (σ : Reading D) (t : Diff) (ε : Reading D) → Shows D n (dates_of σ t ε) σ t ε
  shows_dates σ t ε =
      record {
        starts = λ i l. subst₂ (λ a b. Same D (minus D a b) (reads D σ i)) (sym (at_start 0 (omega arith))) (sym (at_start i l))
            (rearrange o (reads D σ i ∷ []) (opp nil ⊟ opp v0) v0 refl);
        time = subst₂ (λ a b. Same D (minus D a b) t) (sym (at_end 0 (omega arith))) (sym (at_start 0 (omega arith)))
            (rearrange o (t ∷ []) (v0 ⊟ nil ⊟ opp nil) v0 refl);
        ends = λ i l. subst₂ (λ a b. Same D (minus D a b) (reads D ε i)) (sym (at_end 0 (omega arith))) (sym (at_end i l))
            (rearrange o (t ∷ reads D ε i ∷ []) (v0 ⊟ nil ⊟ (v0 ⊟ v1)) v1 refl);
      }
    where
      at_start : (i : ℕ) → i < suc n → dates_of σ t ε i ≡ neg (reads D σ i)
      at_start = date_start D (suc n) (reads D σ) (reads D ε) t

      at_end : (i : ℕ) → i < suc n → dates_of σ t ε (suc n + i) ≡ minus D t (reads D ε i)
      at_end = date_end D (suc n) (reads D σ) (reads D ε) t

  -- dates that show readings and a time are those that they give, but for the date of the start
  pub shown_dates : (x : ℕ → Diff) (σ : Reading D) (t : Diff) (ε : Reading D) → Shows D n x σ t ε
      → (u : ℕ) → u < suc n + suc n → Same D (minus D (x u) (x 0)) (dates_of σ t ε u)
  shown_dates x σ t ε s =
      by_halves D (suc n) (reads D σ) (reads D ε) t (λ u y. Same D (minus D (x u) (x 0)) y)
      (λ i l. same_from o (x 0 ∷ x i ∷ reads D σ i ∷ []) (v1 ⊟ v0) (opp v2) v2 (v0 ⊟ v1) refl (≈-sym o (s.starts i l)))
      (λ i l. same_from2 o (x 0 ∷ x (suc n + 0) ∷ x (suc n + i) ∷ t ∷ reads D ε i ∷ []) (v2 ⊟ v0) (v3 ⊟ v4) (v1 ⊟ v0) v3 v4 (v1 ⊟ v2) refl
      s.time (≈-sym o (s.ends i l)))

  -- the dates of a run that starts at 0, at the nodes of the table
  pub run_dates : (c : Chart) (σ : Reading D) (t : Diff) (ε : Reading D) (run : Run D n c σ t ε)
      → (u : ℕ) → u < suc n + suc n → Same D (run_date o n c σ t ε run (zero_of D) (node n c u)) (dates_of σ t ε u)
  run_dates c σ t ε run =
      by_halves D (suc n) (reads D σ) (reads D ε) t (λ u y. Same D (at (node n c u)) y)
      (λ i l. subst (λ z. Same D (at z) (neg (reads D σ i))) (sym (node_start n c i l))
      (rearrange o (reads D σ i ∷ []) (nil ⊟ v0) (opp v0) refl))
      (λ i l. subst (λ z. Same D (at z) (minus D t (reads D ε i))) (sym (node_end n c i)) (at_end i l))
    where
      at : Date → Diff
      at = run_date o n c σ t ε run (zero_of D)

      last : Instant D
      last = instants D n (before (length c)) c σ t ε run.1 (zero_of D)

      at_end : (i : ℕ) → i < suc n → Same D (date_at D last i) (minus D t (reads D ε i))
      at_end i l =
          let e = ends o n c σ t ε run.1 (zero_of D) in
          same_from2 o (last.now ∷ t ∷ reads D last.reading i ∷ reads D ε i ∷ []) (v0 ⊟ v2) (v1 ⊟ v3) v0 (nil ⊞ v1) v3 v2 refl
          e.0 (≈-sym o (e.1 i (omega arith)))

-- ── What follows for a good table ──

module _ {D : Differences} (o : Ordered D) (n : ℕ) (c : Chart) (T : Table D) (good : Good D n c T) where
  open D use {Diff, le, add, neg}

  -- KEPT: the dates of a run keep the table.
  pub run_kept : (σ : Reading D) (t : Diff) (ε : Reading D) → Run D n c σ t ε → Satisfies D (suc n + suc n) T (dates_of o n σ t ε)
  run_kept σ t ε run u v hu hv = go (good.attained u v hu hv)
    where
      at : ℕ → Diff
      at u = run_date o n c σ t ε run (zero_of D) (node n c u)

      go : Attained D n c (node n c u) (node n c v) (T u v) → T u v (minus D (dates_of o n σ t ε u) (dates_of o n σ t ε v))
      go (inr h) = h _
      go (inl (π, h)) =
          good.closed.lower u v (minus D (at u) (at v)) _
          (le_from2 o (at u ∷ at v ∷ dates_of o n σ t ε u ∷ dates_of o n σ t ε v ∷ []) (v2 ⊟ v3) (v0 ⊟ v1) v2 v0 v1 v3 refl
          (run_dates o n c σ t ε run u hu).1 (run_dates o n c σ t ε run v hv).0)
          (h (minus D (at u) (at v)) (chain_kept o n c σ t ε run (zero_of D) π))

  -- a run for each solution
  pub solution_runs : (x : ℕ → Diff) → Satisfies D (suc n + suc n) T x → Run D n c (start_of o n x) (time_of o n x) (end_of o n x)
  solution_runs x s = good.runs x s (start_of o n x) (time_of o n x) (end_of o n x) (shows_own o n x)

  -- every chain between two nodes allows their dates' difference in every solution
  pub solution_keeps : (x : ℕ → Diff) → Satisfies D (suc n + suc n) T x → (u v : ℕ) → u < suc n + suc n → v < suc n + suc n
      → (π : Chain n c (node n c u) (node n c v)) → Allowed D π (minus D (x u) (x v))
  solution_keeps x s u v hu hv π =
      allowed_lower o π (minus D (at u) (at v)) (minus D (x u) (x v))
      (le_from2 o (x u ∷ x v ∷ at u ∷ at v ∷ x 0 ∷ []) (v0 ⊟ v1) (v2 ⊟ v3) (v0 ⊟ v4) v2 v3 (v1 ⊟ v4) refl (same u hu).0 (same v hv).1)
      (chain_kept o n c (start_of o n x) (time_of o n x) (end_of o n x) run (zero_of D) π)
    where
      run : Run D n c (start_of o n x) (time_of o n x) (end_of o n x)
      run = solution_runs x s

      at : ℕ → Diff
      at u = run_date o n c (start_of o n x) (time_of o n x) (end_of o n x) run (zero_of D) (node n c u)

      same : (u : ℕ) → u < suc n + suc n → Same D (minus D (x u) (x 0)) (at u)
      same u h =
          ≈-trans o (shown_dates o n x (start_of o n x) (time_of o n x) (end_of o n x) (shows_own o n x) u h)
          (≈-sym o (run_dates o n c (start_of o n x) (time_of o n x) (end_of o n x) run u h))

  -- NORMALISED: every place is the tightest chain, or open.
  pub tightest : (u v : ℕ) → u < suc n + suc n → v < suc n + suc n → Tightest D n c (node n c u) (node n c v) (T u v)
  tightest u v hu hv = ((λ π d h. go π d (reached o (suc n + suc n) T good.closed u v hu hv d h)), good.attained u v hu hv)
    where
      go : (π : Chain n c (node n c u) (node n c v)) (d : Diff)
          → ((x : ℕ → Diff) × Satisfies D (suc n + suc n) T x × le d (minus D (x u) (x v))) → Allowed D π d
      go π d (x, s, l) = allowed_lower o π (minus D (x u) (x v)) d l (solution_keeps x s u v hu hv π)

  -- RUNS
  pub has_run : HasRun D n c
  has_run = go (solvable o (suc n + suc n) T good.closed)
    where
      go : ((x : ℕ → Diff) × Satisfies D (suc n + suc n) T x) → HasRun D n c
      go (x, s) = (start_of o n x, end_of o n x, (time_of o n x, solution_runs x s))

  -- SPAN: the time of a run keeps place (n + 1, 0), and the negated time place (0, n + 1).
  pub time_kept : (σ : Reading D) (t : Diff) (ε : Reading D) → Run D n c σ t ε → T (suc n + 0) 0 t × T 0 (suc n + 0) (neg t)
  time_kept σ t ε run =
      let x = dates_of o n σ t ε in
      let s = run_kept σ t ε run in
      let e = (shows_dates o n σ t ε).time in (
        good.closed.lower (suc n + 0) 0 _ t e.1 (s (suc n + 0) 0 (omega arith) (omega arith)),
        good.closed.lower 0 (suc n + 0) _ (neg t) (le_from o (x 0 ∷ x (suc n + 0) ∷ t ∷ []) (opp v2) (v0 ⊟ v1) (v1 ⊟ v0) v2 refl e.0)
            (s 0 (suc n + 0) (omega arith) (omega arith)),
      )

  -- and what they allow, runs reach
  pub time_reached : (d : Diff) → T (suc n + 0) 0 d → (σ : Reading D) × (t : Diff) × (ε : Reading D) × Run D n c σ t ε × le d t
  time_reached d h = go (reached o (suc n + suc n) T good.closed (suc n + 0) 0 (omega arith) (omega arith) d h)
    where
      go : ((x : ℕ → Diff) × Satisfies D (suc n + suc n) T x × le d (minus D (x (suc n + 0)) (x 0)))
          → (σ : Reading D) × (t : Diff) × (ε : Reading D) × Run D n c σ t ε × le d t
      go (x, s, l) = (start_of o n x, time_of o n x, end_of o n x, solution_runs x s, l)

  pub time_reached_back : (d : Diff) → T 0 (suc n + 0) d → (σ : Reading D) × (t : Diff) × (ε : Reading D) × Run D n c σ t ε × le d (neg t)
  time_reached_back d h = go (reached o (suc n + suc n) T good.closed 0 (suc n + 0) (omega arith) (omega arith) d h)
    where
      go : ((x : ℕ → Diff) × Satisfies D (suc n + suc n) T x × le d (minus D (x 0) (x (suc n + 0))))
          → (σ : Reading D) × (t : Diff) × (ε : Reading D) × Run D n c σ t ε × le d (neg t)
      go (x, s, l) =
          (start_of o n x, time_of o n x, end_of o n x, solution_runs x s, le_from o (d ∷ x 0 ∷ x (suc n + 0) ∷ []) v0 (opp (v2 ⊟ v1)) v0 (v1 ⊟ v2) refl l)

-- ── Tables that allow the same ──

-- a table that allows the same as a good one is good
pub good_same : {D : Differences} (o : Ordered D) (n : ℕ) (c : Chart) (V W : Table D) → SameTable D (suc n + suc n) V W → ((u v : ℕ) → Lower D (W u v))
    → Good D n c V → Good D n c W
good_same o n c V W same low good =
    record {
      closed = same_closed o (suc n + suc n) V W same low good.closed;
      runs = λ x s. good.runs x ((same_solutions o (suc n + suc n) V W same x).1 s);
      attained = λ u v hu hv. attained_up o (V u v) (W u v) (λ d. (same u v hu hv d).0) (good.attained u v hu hv);
    }

-- sets that are tightest between the same dates hold the same
pub tightest_same : (D : Differences) (n : ℕ) (c : Chart) (u v : Date) (S R : Set D) → Tightest D n c u v S → Tightest D n c u v R → (d : D.Diff) → S d → R d
tightest_same D n c u v S R (s, _) (_, inl (π, h)) d k = h d (s π d k)
tightest_same D n c u v S R (s, _) (_, inr h) d k = h d
