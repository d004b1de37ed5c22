-- The dates of a run keep every limit that the chart writes, and so every chain. Assumes nothing.
use Rattle.std.proofs.Common.{◌≡◌, ℕ, ◌≤◌, Bool, true, false, [], ◌∷◌, pos, neg_ℤ, sym, refl, subst, subst₂}
use Rattle.bound.specs.Differences.{Differences, Same, Ordered, zero_of, minus}
use Rattle.bound.specs.Meaning.{Stands}
use Rattle.runs.specs.Lists.{At}
use Rattle.chart.specs.declared.types.Window.{Window}
use Rattle.chart.specs.Charts.{Motion, Chart, restarts_timer}
use Rattle.runs.specs.Runs.{Reading, reads, Holds, grown, restarted, Run}
use Rattle.runs.specs.Graph.{Moment, before, Date, Limit, UpperSign, LowerSign, Writes, Chain, Allowed}
use Rattle.runs.specs.Graph.Moment.{after_wait, after_restarts}
use Rattle.runs.specs.Graph.Writes.{never_after_now, not_back, wait_keeps, wait_kept, upper, lower, restart, now_keeps, now_kept, restart_keeps, restart_kept}
use Rattle.runs.specs.Graph.Chain.{stop, by}
use Rattle.bound.specs.Groups.{≈-refl}
use Rattle.bound.specs.Solver.{◌⊞◌, ◌⊟◌, opp, nil, v0, v1, v2, rearrange, le_same, le_from}
use Rattle.runs.proofs.Lists.{all_at}
use Rattle.runs.proofs.Windows.{upper_stands, lower_stands, stands_lower}
use Rattle.runs.proofs.Timers.{reads_grown, reads_restarted, reads_left}
use Rattle.runs.proofs.Instants.{Instant, instant, date_at, instants, Moved, moved, lawful_at}

module _ {D : Differences} (o : Ordered D) where
  open D use {Diff, le, add, neg}

  -- ── One limit between two instants ──

  -- a date that a motion's instants give, where p waits and then restarts
  module _ (m : Motion) (p : Instant D) (wait : Diff) where
    abbrev waited : Instant D
    waited = instant D (add p.now wait) (grown D p.reading wait)

    abbrev ended : Instant D
    ended = instant D (add p.now wait) (restarted D (restarts_timer m) (grown D p.reading wait))

    not_back_kept : le (zero_of D) wait → le (minus D (date_at D p 0) (date_at D waited 0)) (zero_of D)
    not_back_kept h = le_from o (p.now ∷ wait ∷ []) (v0 ⊟ nil ⊟ (v0 ⊞ v1 ⊟ nil)) nil nil v1 refl h

    -- a wait keeps the timers' dates
    wait_same : (i : ℕ) → 1 ≤ i → Same D (date_at D p i) (date_at D waited i)
    wait_same i l =
        subst (λ v. Same D (date_at D p i) (minus D (add p.now wait) v)) (sym (reads_grown D p.reading wait i l))
        (rearrange o (p.now ∷ wait ∷ reads D p.reading i ∷ []) (v0 ⊟ v2) (v0 ⊞ v1 ⊟ (v2 ⊞ v1)) refl)

    restart_same : (i : ℕ) → restarts_timer m i ≡ true → Same D (date_at D ended 0) (date_at D ended i)
    restart_same i e =
        subst (λ v. Same D (date_at D ended 0) (minus D (add p.now wait) v)) (sym (reads_restarted D (restarts_timer m) (grown D p.reading wait) i e))
        (≈-refl o (date_at D ended 0))

    left_same : (i : ℕ) → restarts_timer m i ≡ false → Same D (date_at D waited i) (date_at D ended i)
    left_same i e =
        subst (λ v. Same D (date_at D waited i) (minus D (add p.now wait) v)) (sym (reads_left D (restarts_timer m) (grown D p.reading wait) i e))
        (≈-refl o (date_at D waited i))

  less_nought : (a b : Diff) → le a b → le (minus D a b) (zero_of D)
  less_nought a b h = le_from o (a ∷ b ∷ []) (v0 ⊟ v1) nil v0 v1 refl h

  upper_kept : (q : Instant D) (w : Window) (s : Bool) → UpperSign w.sign s → Holds D q.reading w
      → Stands D s (minus D (date_at D q 0) (date_at D q w.timer)) (pos w.number)
  upper_kept q w s u h =
      stands_lower o s (pos w.number) (reads D q.reading w.timer) _
      (le_same o (q.now ∷ reads D q.reading w.timer ∷ []) (v0 ⊟ nil ⊟ (v0 ⊟ v1)) v1 refl)
      (upper_stands o u (reads D q.reading w.timer) w.number h)

  lower_kept : (q : Instant D) (w : Window) (s : Bool) → LowerSign w.sign s → Holds D q.reading w
      → Stands D s (minus D (date_at D q w.timer) (date_at D q 0)) (neg_ℤ (pos w.number))
  lower_kept q w s u h =
      stands_lower o s (neg_ℤ (pos w.number)) (neg (reads D q.reading w.timer)) _
      (le_same o (q.now ∷ reads D q.reading w.timer ∷ []) (v0 ⊟ v1 ⊟ (v0 ⊟ nil)) (opp v1) refl)
      (lower_stands o u (reads D q.reading w.timer) w.number h)

  -- ── All limits ──

  module _ (n : ℕ) (c : Chart) (σ : Reading D) (t : Diff) (ε : Reading D) (run : Run D n c σ t ε) (now : Diff) where
    abbrev at : Moment → Instant D
    at k = instants D n k c σ t ε run.1 now

    -- the date of each node of the graph, where the run starts at the time now
    abbrev pub run_date : Date → Diff
    run_date u = date_at D (at u.moment) u.place

    step : {j : ℕ} {m : Motion} → At c j m → Moved D m (at (before j)) (at (after_wait j)) (at (after_restarts j))
    step a = moved o n a σ t ε run.1 now

    -- what holds of the instants after a wait from p holds of those of the motion
    by_step : {j : ℕ} {m : Motion} (a : At c j m) (P : Instant D → Instant D → Type 0)
        → P (waited m (at (before j)) (step a).wait) (ended m (at (before j)) (step a).wait) → P (at (after_wait j)) (at (after_restarts j))
    by_step a P h = subst₂ P (sym (step a).waited) (sym (step a).ended) h

    -- WRITTEN: the dates of the run keep every limit.
    pub writes_kept : (l : Limit) → Writes n c l → Stands D l.strict (minus D (run_date l.from) (run_date l.to)) l.number
    writes_kept _ (never_after_now {k} i at_k some most) =
        le_from o ((at k).now ∷ reads D (at k).reading i ∷ []) (v0 ⊟ v1 ⊟ (v0 ⊟ nil)) nil nil v1 refl (lawful_at o n k c σ t ε run.1 now run.0 i most)
    writes_kept _ (not_back {j} {m} a) =
        by_step a (λ q r. le (minus D (date_at D (at (before j)) 0) (date_at D q 0)) (zero_of D)) (not_back_kept m (at (before j)) (step a).wait (step a).onward)
    writes_kept _ (wait_keeps {j} {m} i a some most) =
        by_step a (λ q r. le (minus D (date_at D (at (before j)) i) (date_at D q i)) (zero_of D))
        (less_nought _ _ (wait_same m (at (before j)) (step a).wait i some).0)
    writes_kept _ (wait_kept {j} {m} i a some most) =
        by_step a (λ q r. le (minus D (date_at D q i) (date_at D (at (before j)) i)) (zero_of D))
        (less_nought _ _ (wait_same m (at (before j)) (step a).wait i some).1)
    writes_kept _ (upper {j} {q} {m} {w} {s} a b u) =
        by_step a (λ q r. Stands D s (minus D (date_at D q 0) (date_at D q w.timer)) (pos w.number))
        (upper_kept (waited m (at (before j)) (step a).wait) w s u (all_at (Holds D (grown D (at (before j)).reading (step a).wait)) (step a).held b))
    writes_kept _ (lower {j} {q} {m} {w} {s} a b u) =
        by_step a (λ q r. Stands D s (minus D (date_at D q w.timer) (date_at D q 0)) (neg_ℤ (pos w.number)))
        (lower_kept (waited m (at (before j)) (step a).wait) w s u (all_at (Holds D (grown D (at (before j)).reading (step a).wait)) (step a).held b))
    writes_kept _ (restart {j} {m} i a some most e) =
        by_step a (λ q r. le (minus D (date_at D r 0) (date_at D r i)) (zero_of D))
        (less_nought _ _ (restart_same m (at (before j)) (step a).wait i e).0)
    writes_kept _ (now_keeps {j} {m} a) = by_step a (λ q r. le (minus D (date_at D q 0) (date_at D r 0)) (zero_of D)) (less_nought _ _ (o.le_refl _))
    writes_kept _ (now_kept {j} {m} a) = by_step a (λ q r. le (minus D (date_at D r 0) (date_at D q 0)) (zero_of D)) (less_nought _ _ (o.le_refl _))
    writes_kept _ (restart_keeps {j} {m} i a some most e) =
        by_step a (λ q r. le (minus D (date_at D q i) (date_at D r i)) (zero_of D)) (less_nought _ _ (left_same m (at (before j)) (step a).wait i e).0)
    writes_kept _ (restart_kept {j} {m} i a some most e) =
        by_step a (λ q r. le (minus D (date_at D r i) (date_at D q i)) (zero_of D)) (less_nought _ _ (left_same m (at (before j)) (step a).wait i e).1)

    -- SOUND: and so every chain.
    pub chain_kept : {u v : Date} (π : Chain n c u v) → Allowed D π (minus D (run_date u) (run_date v))
    chain_kept {u} stop = le_same o (run_date u ∷ []) (v0 ⊟ v0) nil refl
    chain_kept {v = v} (by {l = l} w rest) = (
      minus D (run_date l.from) (run_date l.to),
      minus D (run_date l.to) (run_date v),
      writes_kept l w,
      chain_kept rest,
      rearrange o (run_date l.from ∷ run_date l.to ∷ run_date v ∷ []) (v0 ⊟ v2) (v0 ⊟ v1 ⊞ (v1 ⊟ v2)) refl,
    )
