-- The theorems that the public functions carry, from the lemmas. Assumes nothing.
use Rattle.std.proofs.Common.{◌≡◌, ℕ, suc, ◌+◌, ◌<◌, true, false, ◌⊎◌, [], ◌∷◌, refl, inl, inr, arith}
use Rattle.bound.specs.Differences.{Differences, Same, Ordered, zero_of, minus}
use Rattle.bound.specs.Meaning.{Meaning, Laws}
use Rattle.bound.specs.Solver.{◌⊟◌, nil, v0, v1, v2, v3, le_same, same_from2}
use Rattle.runs.specs.Runs.{Reading}
use Rattle.runs.specs.Graph.{node}
use Rattle.runs.specs.Limits.{Name, NameOf, Before}
use Rattle.runs.specs.Tables.{Pivoted, Into}
use Rattle.runs.specs.Places.{allowed_at, PivotedTo}
use Rattle.runs.specs.Normal.{table_of}
use Rattle.runs.specs.Good.{Shows}
use Rattle.runs.specs.Claims.{PartialSolutionsExtend, ClosedTablesReached, PivotsKeep, NewNodeCloses, RunsKeepChains, RunsExactly, TablesTell, FailsFirst, LimitsTellWithin, Answered}
use Rattle.runs.proofs.Sums.{sum_map}
use Rattle.runs.proofs.Solve.{solve}
use Rattle.runs.proofs.Rename.{reached}
use Rattle.runs.proofs.Tight.{tight}
use Rattle.runs.proofs.Pivot.{SameTable, pivot_sound, pivot_settles, pivot_keeps, same_settled, same_closed, same_solutions}
use Rattle.runs.proofs.Star.{star_closed, star_sound}
use Rattle.runs.proofs.Sound.{run_date, chain_kept}
use Rattle.runs.proofs.Chains.{never_runs}
use Rattle.runs.proofs.GoodRuns.{dates_of, shows_dates, run_dates, run_kept, has_run}
use Rattle.runs.proofs.GoodLimits.{normalised, limit_sharp, joined_by_limits, within_by_limits}
use Rattle.runs.proofs.BoundPivot.{bound_pivot}
use Rattle.runs.proofs.BoundJoin.{join_answered}
use Rattle.runs.proofs.MotionSizes.{spread_sum, pivot_sum, limit_sum}
use Rattle.runs.proofs.FirstName.{first_name}

-- dates that are the same show the same
shows_same : {D : Differences} (o : Ordered D) (n : ℕ) (x y : ℕ → D.Diff) (σ : Reading D) (t : D.Diff) (ε : Reading D)
    → ((u : ℕ) → u < suc n + suc n → Same D (x u) (y u)) → Shows D n y σ t ε → Shows D n x σ t ε
shows_same {D} o n x y σ t ε same s =
    record {
      starts = λ i l. moved 0 i (omega arith) (omega arith) (s.starts i l);
      time = moved (suc n + 0) 0 (omega arith) (omega arith) s.time;
      ends = λ i l. moved (suc n + 0) (suc n + i) (omega arith) (omega arith) (s.ends i l);
    }
  where
    moved : (u v : ℕ) → u < suc n + suc n → v < suc n + suc n → {r : D.Diff} → Same D (minus D (y u) (y v)) r → Same D (minus D (x u) (x v)) r
    moved u v hu hv h = (
      o.le_trans _ _ _ (same_from2 o (x u ∷ x v ∷ y u ∷ y v ∷ []) (v0 ⊟ v1) (v2 ⊟ v3) v0 v2 v3 v1 refl (same u hu) ((same v hv).1, (same v hv).0)).0 h.0,
      o.le_trans _ _ _ h.1 (same_from2 o (x u ∷ x v ∷ y u ∷ y v ∷ []) (v0 ⊟ v1) (v2 ⊟ v3) v0 v2 v3 v1 refl (same u hu) ((same v hv).1, (same v hv).0)).1,
    )

module _ {B : Type 0} (m : Meaning B) (laws : Laws m) where
  D : Differences
  D = m.differences

  o : Ordered m.differences
  o = laws.ordered

  pub extends : PartialSolutionsExtend m
  extends N W closed es nodes pairs = solve o N (allowed_at m W) closed es nodes pairs

  pub reaches : ClosedTablesReached m
  reaches N W closed =
      record {
        places = λ u v hu hv d h. reached o N (allowed_at m W) closed u v hu hv d h;
        limits = λ a b c e ha hb hc he d h k. tight o N (allowed_at m W) closed a b c e ha hb hc he d h k;
      }

  -- a pivot of bounds allows what the pivot of the sets does
  pivoted_same : (N : ℕ) (W : ℕ → ℕ → B) (p : ℕ) (V : ℕ → ℕ → B) → p < N → PivotedTo m N W p V → SameTable m.differences N (Pivoted m.differences (allowed_at m W) p) (allowed_at m V)
  pivoted_same N W p V hp pivot u v hu hv d = let b = (bound_pivot m laws N W p hp V pivot).both u v hu hv d in (b.1, b.0)

  pub pivots : PivotsKeep m
  pivots N W p V hp pivot =
      record {
        solutions = λ x. (
          λ s. (same_solutions o N P V' same x).0 ((pivot_sound o N T x p hp).0 s),
          λ s. (pivot_sound o N T x p hp).1 ((same_solutions o N P V' same x).1 s),
        );
        settles = λ free. same_settled o N P V' same p hp (pivot_settles o N T p free);
        keeps = λ free x hx settled. same_settled o N P V' same x hx (pivot_keeps o N T (λ u v. laws.lower (W u v)) p hp free x hx settled);
        forbids = λ forbids x s. forbids (laws.lower (W p p) _ _ (le_same o (x p ∷ []) nil (v0 ⊟ v0) refl) (s p p hp hp));
      }
    where
      T : ℕ → ℕ → m.differences.Diff → Type 0
      T = allowed_at m W

      V' : ℕ → ℕ → m.differences.Diff → Type 0
      V' = allowed_at m V

      P : ℕ → ℕ → m.differences.Diff → Type 0
      P = Pivoted m.differences (allowed_at m W) p

      same : SameTable m.differences N (Pivoted m.differences (allowed_at m W) p) (allowed_at m V)
      same = pivoted_same N W p V hp pivot

  pub new_node : NewNodeCloses m
  new_node N T into onward W closed star =
      record {
        solutions = star_sound o N (allowed_at m T) (λ i. m.allows (into i)) (λ i. m.allows (onward i)) closed (allowed_at m W) star (λ i. laws.lower (into i)) (λ i. laws.lower (onward i));
        closes = λ test V pivot.
            same_closed o (suc N) (Pivoted m.differences (allowed_at m W) N) (allowed_at m V) (pivoted_same (suc N) W N V (omega arith) pivot) (λ u v. laws.lower (V u v))
            (star_closed o N (allowed_at m T) (λ i. m.allows (into i)) (λ i. m.allows (onward i)) closed (allowed_at m W) star (λ u v. laws.lower (W u v))
            (λ j h. sum_map o (m.allows (onward j)) (m.allows (W j N)) (m.allows (onward j)) (Into m.differences N (allowed_at m T) (λ i. m.allows (into i)) j)
            (λ e k. k) (λ f. (star.into j h f).0) (zero_of m.differences) (test j h)));
      }

  pub runs_keep : RunsKeepChains m
  runs_keep n c σ t ε run =
      record {
        at = run_date o n c σ t ε run (zero_of m.differences);
        shows = shows_same o n (λ u. run_date o n c σ t ε run (zero_of m.differences) (node n c u)) (dates_of o n σ t ε) σ t ε (run_dates o n c σ t ε run) (shows_dates o n σ t ε);
        chains = chain_kept o n c σ t ε run (zero_of m.differences);
      }

  pub runs_exactly : RunsExactly m
  runs_exactly n c (inl never) = (λ r n. never_runs o n r, λ h. absurd (h never))
  runs_exactly n c (inr (W, good)) = (λ r n. never_runs o n r, λ h. has_run o n c (allowed_at m W) good)

  pub tells : TablesTell m
  tells n c bounds good =
      record {
        normalised = normalised m laws n c bounds good;
        runs = has_run o n c (table_of m n bounds) good;
        dates = λ σ t ε. (
          λ run. (dates_of o n σ t ε, run_kept o n c (table_of m n bounds) good σ t ε run, shows_dates o n σ t ε),
          λ (x, s, shows). good.runs x s σ t ε shows,
        );
        sharp = limit_sharp m laws n c bounds good;
        joined = joined_by_limits m laws n c bounds good;
      }

  pub decides : LimitsTellWithin m
  decides n c c' bounds bounds' good good' limit limit' is is' =
      record { within = within_by_limits m laws n c bounds good c' bounds' good' limit limit' is is'; either = go (first_name n (λ l. m.tighter (limit l) (limit' l))) }
    where
      go : ((l : Name) → NameOf n l → m.tighter (limit l) (limit' l) ≡ true)
          ⊎ ((l : Name) × NameOf n l × (m.tighter (limit l) (limit' l) ≡ false) × ((k : Name) → NameOf n k → Before k l → m.tighter (limit k) (limit' k) ≡ true))
          → ((l : Name) → NameOf n l → m.tighter (limit l) (limit' l) ≡ true) ⊎ ((l : Name) × FailsFirst m n limit limit' l)
      go (inl all) = inl all
      go (inr (l, of, e, f)) = inr (l, record { named = of; fails = e; first = f })

  pub answered : Answered m
  answered =
      record {
        spread = spread_sum m laws;
        pivot = λ a b ha hb. let s = pivot_sum m laws a b ha hb in (s.0, s.1);
        limit = λ a b ha hb. let s = limit_sum m laws a b ha hb in (s.0, s.1);
        join = λ n c d S T W k few l j. join_answered m laws n c d (allowed_at m S) (allowed_at m T) few k l W j;
      }
