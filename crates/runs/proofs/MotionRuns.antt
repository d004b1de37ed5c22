-- Dates that keep a table and the bounds of one more motion are those of a run of the longer chart. Assumes nothing.
use Rattle.std.proofs.Common.{◌≡◌, ℕ, zero, suc, ◌+◌, ◌<◌, ◌≤◌, Bool, true, false, cond, [], ◌∷◌, pos, neg_ℤ, sym, refl, subst, arith}
use Rattle.bound.specs.Differences.{Differences, Same, Ordered, zero_of, minus}
use Rattle.runs.specs.Lists.{At}
use Rattle.chart.specs.declared.types.Window.{Window}
use Rattle.chart.specs.Charts.{Motion, Chart, WindowOf, MotionOf, restarts_timer}
use Rattle.runs.specs.Runs.{Reading, reads, Holds, grown, restarted, Goes, Run}
use Rattle.runs.specs.Tables.{Set, KeepsDirect}
use Rattle.runs.specs.Motions.{MotionBounds, MotionNames}
use Rattle.runs.specs.Good.{Shows}
use Rattle.bound.specs.Groups.{≈-refl, ≈-sym, ≈-trans}
use Rattle.bound.specs.Solver.{◌⊞◌, ◌⊟◌, opp, nil, v0, v1, v2, v3, v4, v5, rearrange, le_from, same_from3}
use Rattle.runs.proofs.Lists.{all_at, at_all}
use Rattle.runs.proofs.Windows.{stands_lower, stands_from}
use Rattle.runs.proofs.Timers.{reads_some, reads_grown, reads_restarted, reads_left}
use Rattle.runs.proofs.RunParts.{goes_time, goes_after}
use Rattle.runs.proofs.NewNow.{node_into, node_onward}
use Rattle.runs.proofs.GoodRuns.{end_of, time_of, shows_own}
use Rattle.runs.proofs.MotionChains.{longer}

module _ {D : Differences} (o : Ordered D) (n : ℕ) (c : Chart) (motion : Motion) (of : MotionOf n motion)
    (into onward : ℕ → Set D) (bounds : MotionBounds D n motion into onward) (name : ℕ → ℕ) (names : MotionNames n motion name)
    (x y : ℕ → D.Diff) (keeps : KeepsDirect D (suc n + suc n) (node_into D n into) (node_onward D n onward) y)
    (same : (u : ℕ) → u < suc n + suc n → Same D (y (name u)) (x u))
    (σ : Reading D) (t : D.Diff) (ε : Reading D) (shows : Shows D n x σ t ε) where
  open D use {Diff, le, add, neg}

  abbrev N : ℕ
  N = suc n + suc n

  abbrev mid : Reading D
  mid = end_of o n y

  abbrev wait : Diff
  wait = minus D (y N) (y (suc n + 0))

  start_same : (i : ℕ) → i < suc n → Same D (y i) (x i)
  start_same i l = subst (λ z. Same D (y z) (x i)) (names.stays i l) (same i (omega arith))

  now_same : Same D (y N) (x (suc n + 0))
  now_same = subst (λ z. Same D (y z) (x (suc n + 0))) names.now (same (suc n + 0) (omega arith))

  timer_same : (i : ℕ) → 1 ≤ i → i ≤ n → (r : Bool) → restarts_timer motion i ≡ r → Same D (y (cond r N (suc n + i))) (x (suc n + i))
  timer_same i p l r e =
      subst (λ r. Same D (y (cond r N (suc n + i))) (x (suc n + i))) e
      (subst (λ z. Same D (y z) (x (suc n + i))) (names.timers i p l) (same (suc n + i) (omega arith)))

  -- the old end
  pub shows_mid : Shows D n y σ (time_of o n y) mid
  shows_mid =
      record {
        starts = λ i l. same_from3 o (x 0 ∷ x i ∷ y 0 ∷ y i ∷ reads D σ i ∷ []) (v2 ⊟ v3) v4 v2 v0 v1 v3 (v0 ⊟ v1) v4 refl
            (start_same 0 (omega arith)) (≈-sym o (start_same i l)) (shows.starts i l);
        time = ≈-refl o (time_of o n y);
        ends = (shows_own o n y).ends;
      }

  -- the value of a timer after the wait
  value : (i : ℕ) → 1 ≤ i → Same D (reads D (grown D mid wait) i) (minus D (y N) (y (suc n + i)))
  value i p =
      subst (λ v. Same D v (minus D (y N) (y (suc n + i)))) (sym (reads_grown D mid wait i p))
      (subst (λ v. Same D (add v wait) (minus D (y N) (y (suc n + i)))) (sym (reads_some D mid i p))
      (rearrange o (y (suc n + 0) ∷ y (suc n + i) ∷ y N ∷ []) (v0 ⊟ v1 ⊞ (v2 ⊟ v0)) (v2 ⊟ v1) refl))

  held : (q : ℕ) (w : Window) → At motion.windows q w → Holds D (grown D mid wait) w
  held q w at =
      stands_from o w.sign v w.number
      (λ b side. stands_lower o b (pos w.number) (minus D (y N) (y (suc n + i))) v (value i p).0
      ((bounds.uppers i p l).within record { place = q; window = w; strict = b; at = at; on = refl; side = side } _ (keeps.onward (suc n + i) (omega (arith, l)) i p l refl)))
      (λ b side. stands_lower o b (neg_ℤ (pos w.number)) (minus D (y (suc n + i)) (y N)) (neg v)
      (le_from o (y N ∷ y (suc n + i) ∷ v ∷ []) (opp v2) (v1 ⊟ v0) (v0 ⊟ v1) v2 refl (value i p).1)
      ((bounds.lowers i p l).within record { place = q; window = w; strict = b; at = at; on = refl; side = side } _ (keeps.into (suc n + i) (omega (arith, l)) i l refl)))
    where
      i : ℕ
      i = w.timer

      v : Diff
      v = reads D (grown D mid wait) i

      p : 1 ≤ i
      p = w.some

      l : i ≤ n
      l = all_at (WindowOf n) of.timers at

  -- the values at the new end
  end_value : (i : ℕ) → 1 ≤ i → i ≤ n → (r : Bool) → restarts_timer motion i ≡ r → Same D (reads D (restarted D (restarts_timer motion) (grown D mid wait)) i) (reads D ε i)
  end_value i p l true e =
      subst (λ v. Same D v (reads D ε i)) (sym (reads_restarted D (restarts_timer motion) (grown D mid wait) i e))
      (same_from3 o (y N ∷ x (suc n + 0) ∷ x (suc n + i) ∷ reads D ε i ∷ []) nil v3 v0 v1 v2 v0 (v1 ⊟ v2) v3 refl
      now_same (≈-sym o (timer_same i p l true e)) (shows.ends i (omega arith)))
  end_value i p l false e =
      subst (λ v. Same D v (reads D ε i)) (sym (reads_left D (restarts_timer motion) (grown D mid wait) i e))
      (≈-trans o (value i p)
      (same_from3 o (y N ∷ y (suc n + i) ∷ x (suc n + 0) ∷ x (suc n + i) ∷ reads D ε i ∷ []) (v0 ⊟ v1) v4 v0 v2 v3 v1 (v2 ⊟ v3) v4 refl
      now_same (≈-sym o (timer_same i p l false e)) (shows.ends i (omega arith))))

  equal_end : (i : ℕ) → i ≤ n → Same D (reads D (restarted D (restarts_timer motion) (grown D mid wait)) i) (reads D ε i)
  equal_end zero l = ≈-refl o (zero_of D)
  equal_end (suc i) l = end_value (suc i) (omega arith) l (restarts_timer motion (suc i)) refl

  goes_on : Goes D n (motion ∷ []) mid wait ε
  goes_on = (
    wait,
    zero_of D,
    le_from o (y N ∷ y (suc n + 0) ∷ []) nil (v0 ⊟ v1) (v1 ⊟ v0) nil refl ((bounds.wait _).0 (keeps.into (suc n + 0) (omega arith) 0 (omega arith) refl)),
    at_all (Holds D (grown D mid wait)) motion.windows held,
    rearrange o (wait ∷ []) v0 (v0 ⊞ nil) refl,
    (equal_end, ≈-refl o (zero_of D)),
  )

  pub longer_runs : Run D n c σ (time_of o n y) mid → Run D n (longer c motion) σ t ε
  longer_runs run = (
    run.0,
    goes_time o n (longer c motion) σ ε (add (time_of o n y) wait) t
        (same_from3 o (x 0 ∷ x (suc n + 0) ∷ y 0 ∷ y (suc n + 0) ∷ y N ∷ t ∷ []) (v3 ⊟ v2 ⊞ (v4 ⊟ v3)) v5 v4 v1 v0 v2 (v1 ⊟ v0) v5 refl
        now_same (≈-sym o (start_same 0 (omega arith))) shows.time)
        (goes_after o n c (motion ∷ []) (of, tt) σ mid ε (time_of o n y) wait run.1 goes_on),
  )
