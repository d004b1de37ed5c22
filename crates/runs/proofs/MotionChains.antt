-- The limits that one more motion writes: chains attain the bounds to and from the new now, and where a test fails the longer chart never runs. Assumes nothing.
use Rattle.std.proofs.Common.{◌≡◌, ℕ, zero, suc, ◌+◌, ◌<◌, ◌≤◌, ◌⊎◌, [], ◌∷◌, ◌++◌, length, pos, neg_ℤ, sym, refl, subst, inl, inr, arith}
use Rattle.bound.specs.Differences.{Differences, Ordered, zero_of}
use Rattle.bound.specs.Meaning.{Stands}
use Rattle.runs.specs.Lists.{At}
use Rattle.runs.specs.Lists.At.{here}
use Rattle.chart.specs.Charts.{Motion, Chart}
use Rattle.runs.specs.Graph.{before, Date, date, node, UpperSign, LowerSign, Attained, Never}
use Rattle.runs.specs.Graph.Moment.{after_wait, after_restarts}
use Rattle.runs.specs.Graph.Writes.{not_back, wait_keeps, wait_kept, upper, lower}
use Rattle.runs.specs.Tables.{Set, Table, Sum}
use Rattle.runs.specs.Motions.{Writing, MotionBounds, Spread}
use Rattle.runs.specs.Good.{Good}
use Rattle.runs.proofs.Lists.{at_last, past_first, past_last, past_suc}
use Rattle.runs.proofs.Windows.{stands_lower, stands_point}
use Rattle.runs.proofs.Chains.{Free, attained_up, attained_limit, attained_sum, attained_along, attained_never, free_stop, free_by}
use Rattle.runs.proofs.Embed.{attained_first}
use Rattle.runs.proofs.Nodes.{node_end}

-- The chart with one more motion.
abbrev pub longer : Chart → Motion → Chart
longer c motion = c ++ motion ∷ []

pub new_at : (c : Chart) (motion : Motion) → At (longer c motion) (length c) motion
new_at c motion = subst (λ j. At (longer c motion) j motion) (past_first c) (at_last c here)

-- it ends after the restarts of the motion
pub longer_end : (c : Chart) (motion : Motion) → before (length (longer c motion)) ≡ after_restarts (length c)
longer_end c motion =
    subst (λ k. before k ≡ after_restarts (length c)) (past_last c (motion ∷ []))
    (subst (λ k. before k ≡ after_restarts (length c)) (sym (past_suc c 0)) (subst (λ k. after_restarts k ≡ after_restarts (length c)) (sym (past_first c)) refl))

module _ {D : Differences} (o : Ordered D) (n : ℕ) (c : Chart) (motion : Motion) (T : Table D) (good : Good D n c T)
    (into onward : ℕ → Set D) (bounds : MotionBounds D n motion into onward) (W : Table D) (spread : Spread D n T into onward W) where
  open D use {Diff, le, add, neg}

  abbrev N : ℕ
  N = suc n + suc n

  abbrev chart : Chart
  chart = longer c motion

  -- ── The dates of the new limits ──

  abbrev old_date : ℕ → Date
  old_date i = date (before (length c)) i

  abbrev new_now : Date
  new_now = date (after_wait (length c)) 0

  into_attained : (i : ℕ) → i ≤ n → Attained D n chart (old_date i) new_now (into i)
  into_attained zero l = attained_up o (λ d. le d (zero_of D)) (into 0) (λ d. (bounds.wait d).1) (attained_limit o _ (not_back (new_at c motion)))
  into_attained (suc i) l = go (bounds.lowers (suc i) (omega arith) l).reached
    where
      go : ((w : Writing LowerSign motion.windows (suc i)) × ((d : Diff) → Stands D w.strict d (neg_ℤ (pos w.window.number)) → into (suc i) d))
          ⊎ ((d : Diff) → into (suc i) d) → Attained D n chart (old_date (suc i)) new_now (into (suc i))
      go (inr h) = inr h
      go (inl (w, h)) =
          attained_up o (λ d. Stands D w.strict d (neg_ℤ (pos w.window.number))) (into (suc i)) h
          (attained_along o (λ d. Stands D w.strict d (neg_ℤ (pos w.window.number))) (stands_lower o w.strict (neg_ℤ (pos w.window.number)))
          (subst (λ k. Free D n chart (old_date (suc i)) (date (after_wait (length c)) k)) (sym w.on) (free_by o (wait_keeps (suc i) (new_at c motion) (omega arith) l)))
          (free_stop o) (attained_limit o _ (lower (new_at c motion) w.at w.side)))

  onward_attained : (i : ℕ) → 1 ≤ i → i ≤ n → Attained D n chart new_now (old_date i) (onward i)
  onward_attained i p l = go (bounds.uppers i p l).reached
    where
      go : ((w : Writing UpperSign motion.windows i) × ((d : Diff) → Stands D w.strict d (pos w.window.number) → onward i d))
          ⊎ ((d : Diff) → onward i d) → Attained D n chart new_now (old_date i) (onward i)
      go (inr h) = inr h
      go (inl (w, h)) =
          attained_up o (λ d. Stands D w.strict d (pos w.window.number)) (onward i) h
          (attained_along o (λ d. Stands D w.strict d (pos w.window.number)) (stands_lower o w.strict (pos w.window.number))
          (free_stop o) (subst (λ k. Free D n chart (date (after_wait (length c)) k) (old_date i)) (sym w.on) (free_by o (wait_kept i (new_at c motion) p l)))
          (attained_limit o _ (upper (new_at c motion) w.at w.side)))

  pub old_attained : (u v : ℕ) → u < N → v < N → Attained D n chart (node n c u) (node n c v) (T u v)
  old_attained u v hu hv = attained_first (motion ∷ []) D (T u v) (good.attained u v hu hv)

  pub to_new_attained : (u : ℕ) → u < N → Attained D n chart (node n c u) new_now (W u N)
  to_new_attained u hu = go (spread.toward_new u hu).reached
    where
      go : ((i : (i : ℕ) × (i ≤ n)) × ((d : Diff) → Sum D (T u (suc n + i.0)) (into i.0) d → W u N d)) ⊎ ((d : Diff) → W u N d)
          → Attained D n chart (node n c u) new_now (W u N)
      go (inr h) = inr h
      go (inl ((i, l), h)) =
          attained_up o (Sum D (T u (suc n + i)) (into i)) (W u N) h
          (attained_sum o (T u (suc n + i)) (into i)
          (subst (λ z. Attained D n chart (node n c u) z (T u (suc n + i))) (node_end n c i) (old_attained u (suc n + i) hu (omega arith))) (into_attained i l))

  pub from_new_attained : (v : ℕ) → v < N → Attained D n chart new_now (node n c v) (W N v)
  from_new_attained v hv = go (spread.out_of_new v hv).reached
    where
      go : ((i : (i : ℕ) × (1 ≤ i) × (i ≤ n)) × ((d : Diff) → Sum D (onward i.0) (T (suc n + i.0) v) d → W N v d)) ⊎ ((d : Diff) → W N v d)
          → Attained D n chart new_now (node n c v) (W N v)
      go (inr h) = inr h
      go (inl ((i, p, l), h)) =
          attained_up o (Sum D (onward i) (T (suc n + i) v)) (W N v) h
          (attained_sum o (onward i) (T (suc n + i) v) (onward_attained i p l)
          (subst (λ z. Attained D n chart z (node n c v) (T (suc n + i) v)) (node_end n c i) (old_attained (suc n + i) v (omega arith) hv)))

  -- NEVER: where the test fails at a timer, the longer chart never runs.
  pub motion_never : (i : ℕ) → 1 ≤ i → i ≤ n → (Sum D (onward i) (W (suc n + i) N) (zero_of D) → ⊥) → Never D n chart
  motion_never i p l fails =
      attained_never o (Sum D (onward i) (W (suc n + i) N))
      (attained_sum o (onward i) (W (suc n + i) N) (onward_attained i p l)
      (subst (λ z. Attained D n chart z new_now (W (suc n + i) N)) (node_end n c i) (to_new_attained (suc n + i) (omega arith)))) fails

  -- no bound to the new now is empty
  pub into_point : (i : ℕ) → i ≤ n → (d : Diff) × into i d
  into_point zero l = (zero_of D, (bounds.wait (zero_of D)).1 (o.le_refl (zero_of D)))
  into_point (suc i) l = go (bounds.lowers (suc i) (omega arith) l).reached
    where
      go : ((w : Writing LowerSign motion.windows (suc i)) × ((d : Diff) → Stands D w.strict d (neg_ℤ (pos w.window.number)) → into (suc i) d))
          ⊎ ((d : Diff) → into (suc i) d) → (d : Diff) × into (suc i) d
      go (inr h) = (zero_of D, h (zero_of D))
      go (inl (w, h)) = let p = stands_point o w.strict (neg_ℤ (pos w.window.number)) in (p.0, h p.0 p.1)
