-- A chart with one more motion: from a good table, the table with the new now, closed by its pivot and renamed, is good. Assumes nothing.
use Rattle.std.proofs.Common.{◌≡◌, ℕ, zero, suc, ◌+◌, ◌<◌, ◌≤◌, Bool, true, false, cond, leb, ◌⊎◌, ◌↔◌, length, sym, refl, ap, ◌∙◌, subst, subst₂, inl, inr, arith, le-leb}
use Rattle.bound.specs.Differences.{Differences, Same, Ordered, zero_of}
use Rattle.runs.specs.Lists.{At}
use Rattle.chart.specs.Charts.{Motion, Chart, MotionOf, restarts_timer}
use Rattle.runs.specs.Runs.{Reading, Run}
use Rattle.runs.specs.Graph.{before, Date, date, node, Attained}
use Rattle.runs.specs.Graph.Moment.{after_wait, after_restarts}
use Rattle.runs.specs.Graph.MomentOf.{of_restarts}
use Rattle.runs.specs.Graph.Writes.{never_after_now, wait_keeps, wait_kept, restart, now_keeps, now_kept, restart_keeps, restart_kept}
use Rattle.runs.specs.Tables.{Set, Table, Lower, Within, Sum, Closed, Satisfies, Pivoted, IsPivot, IsStar, KeepsDirect, Renamed}
use Rattle.runs.specs.Motions.{MotionBounds, Spread, MotionNames}
use Rattle.runs.specs.Good.{Shows, Good}
use borrow.Author.Tests.{lt-leb}
use Rattle.runs.proofs.Lists.{up_to, by_parts}
use Rattle.runs.proofs.Chains.{Free, attained_up, attained_zero, attained_sum, attained_along, free_stop, free_by, free_after}
use Rattle.runs.proofs.Nodes.{node_start, node_end}
use Rattle.runs.proofs.Pivot.{pivot_sound, same_closed, same_solutions}
use Rattle.runs.proofs.Star.{star_closed, star_sound}
use Rattle.runs.proofs.Rename.{renamed_closed, renamed_solutions}
use Rattle.runs.proofs.NewNow.{node_into, node_onward, into_node_lower, onward_node_lower, spread_star, spread_test}
use Rattle.runs.proofs.GoodRuns.{end_of, time_of}
use Rattle.runs.proofs.MotionChains.{longer, new_at, longer_end, old_attained, to_new_attained, from_new_attained, into_point}
use Rattle.runs.proofs.MotionRuns.{shows_mid, longer_runs}

module _ {D : Differences} (o : Ordered D) (n : ℕ) (c : Chart) (motion : Motion) (T : Table D) (good : Good D n c T)
    (into onward : ℕ → Set D) (bounds : MotionBounds D n motion into onward) (W : Table D) (spread : Spread D n T into onward W) where
  open D use {Diff, le, add, neg}

  abbrev N : ℕ
  N = suc n + suc n

  abbrev chart : Chart
  chart = longer c motion

  -- ── The dates of the new limits ──

  abbrev old_date : ℕ → Date
  old_date i = date (before (length c)) i

  abbrev new_now : Date
  new_now = date (after_wait (length c)) 0

  module _ (of : MotionOf n motion) (low_into : (i : ℕ) → Lower D (into i)) (low_onward : (i : ℕ) → Lower D (onward i)) (low_w : (u v : ℕ) → Lower D (W u v))
      (tests : (i : ℕ) → 1 ≤ i → i ≤ n → Sum D (onward i) (W (suc n + i) N) (zero_of D))
      (V : Table D) (low_v : (u v : ℕ) → Lower D (V u v)) (pivot : IsPivot D (suc N) W N V)
      (name : ℕ → ℕ) (names : MotionNames n motion name) where
    star : IsStar D N T (node_into D n into) (node_onward D n onward) W
    star = spread_star o n into onward T good.closed W spread

    swapped : (u v : ℕ) → u < suc N → v < suc N → (d : Diff) → Pivoted D W N u v d ↔ V u v d
    swapped u v hu hv d = ((pivot.both u v hu hv d).1, (pivot.both u v hu hv d).0)

    closed : Closed D (suc N) V
    closed =
        same_closed o (suc N) (Pivoted D W N) V swapped low_v
        (star_closed o N T (node_into D n into) (node_onward D n onward) good.closed W star low_w
        (spread_test o n into onward T good.closed W spread (into_point o n c motion T good into onward bounds W spread) tests))

    -- its solutions keep the old table and the bounds
    apart : (y : ℕ → Diff) → Satisfies D (suc N) V y → Satisfies D N T y × KeepsDirect D N (node_into D n into) (node_onward D n onward) y
    apart y s =
        (star_sound o N T (node_into D n into) (node_onward D n onward) good.closed W star (into_node_lower o n into onward low_into) (onward_node_lower o n into onward low_onward) y).0
        ((pivot_sound o (suc N) W y N (omega arith)).1 ((same_solutions o (suc N) (Pivoted D W N) V swapped y).1 s))

    one_below : (r : Bool) (i : ℕ) → i ≤ n → cond r N (suc n + i) < suc N
    one_below true i l = omega arith
    one_below false i l = omega arith

    names_below : (u : ℕ) → u < N → name u < suc N
    names_below = by_parts (suc n) (suc n) (λ u. name u < suc N) (λ u l. subst (λ z. z < suc N) (sym (names.stays u l)) (omega arith)) timer
      where
        timer : (i : ℕ) → i < suc n → name (suc n + i) < suc N
        timer zero l = subst (λ z. z < suc N) (sym names.now) (omega arith)
        timer (suc i) l = subst (λ z. z < suc N) (sym (names.timers (suc i) (omega arith) (omega arith))) (one_below (restarts_timer motion (suc i)) (suc i) (omega arith))

    abbrev pub moved : Table D
    moved = Renamed D V name

    moved_runs : (x : ℕ → Diff) → Satisfies D N moved x → (σ : Reading D) (t : Diff) (ε : Reading D) → Shows D n x σ t ε → Run D n chart σ t ε
    moved_runs x s σ t ε shows = go ((renamed_solutions o (suc N) V closed N name names_below x).0 s)
      where
        go : ((y : ℕ → Diff) × Satisfies D (suc N) V y × ((u : ℕ) → u < N → Same D (y (name u)) (x u))) → Run D n chart σ t ε
        go (y, sy, same) =
            let k = apart y sy in
            longer_runs o n c motion of into onward bounds name names x y k.1 same σ t ε shows
            (good.runs y k.0 σ (time_of o n y) (end_of o n y) (shows_mid o n c motion of into onward bounds name names x y k.1 same σ t ε shows))

    -- ── Chains attain it ──

    -- the date of a node of the table with the new now
    abbrev date_of : ℕ → Date
    date_of u = cond (leb N u) new_now (node n c u)

    date_old : (u : ℕ) → u < N → date_of u ≡ node n c u
    date_old u l = ap (λ b. cond b new_now (node n c u)) (lt-leb N u l)

    date_new : date_of N ≡ new_now
    date_new = ap (λ b. cond b new_now (node n c N)) (le-leb N N (omega arith))

    spread_attained : (u v : ℕ) → u < suc N → v < suc N → Attained D n chart (date_of u) (date_of v) (W u v)
    spread_attained u v hu hv =
        up_to N (λ u. Attained D n chart (date_of u) (date_of v) (W u v))
        (λ u lu. up_to N (λ v. Attained D n chart (date_of u) (date_of v) (W u v))
        (λ v lv. subst₂ (λ p q. Attained D n chart p q (W u v)) (sym (date_old u lu)) (sym (date_old v lv))
        (attained_up o (T u v) (W u v) (λ d. (spread.old u v lu lv d).1) (old_attained o n c motion T good into onward bounds W spread u v lu lv)))
        (subst₂ (λ p q. Attained D n chart p q (W u N)) (sym (date_old u lu)) (sym date_new) (to_new_attained o n c motion T good into onward bounds W spread u lu)) v hv)
        (up_to N (λ v. Attained D n chart (date_of N) (date_of v) (W N v))
        (λ v lv. subst₂ (λ p q. Attained D n chart p q (W N v)) (sym date_new) (sym (date_old v lv)) (from_new_attained o n c motion T good into onward bounds W spread v lv))
        (attained_up o (λ d. le d (zero_of D)) (W N N) (λ d. (spread.self d).1) (attained_zero o)) v hv) u hu

    pivot_attained : (u v : ℕ) → u < suc N → v < suc N → Attained D n chart (date_of u) (date_of v) (V u v)
    pivot_attained u v hu hv = go (pivot.either u v hu hv)
      where
        go : Within D (W u v) (V u v) ⊎ Within D (Sum D (W u N) (W N v)) (V u v) → Attained D n chart (date_of u) (date_of v) (V u v)
        go (inl h) = attained_up o (W u v) (V u v) h (spread_attained u v hu hv)
        go (inr h) =
            attained_up o (Sum D (W u N) (W N v)) (V u v) h
            (attained_sum o (W u N) (W N v) (spread_attained u N hu (omega arith)) (spread_attained N v (omega arith) hv))

    -- the new end's dates are the same as those of the nodes that they are named after
    abbrev Alike : Date → Date → Type 0
    Alike p q = Free D n chart p q × Free D n chart q p

    abbrev new_date : ℕ → Date
    new_date i = date (after_restarts (length c)) i

    at_new : At chart (length c) motion
    at_new = new_at c motion

    now_alike : Alike (new_date 0) new_now
    now_alike = (free_by o (now_kept at_new), free_by o (now_keeps at_new))

    timer_alike : (i : ℕ) → 1 ≤ i → i ≤ n → (r : Bool) → restarts_timer motion i ≡ r → Alike (new_date i) (date_of (cond r N (suc n + i)))
    timer_alike i p l true e =
        subst (Alike (new_date i)) (sym date_new) (
          free_after o (free_by o (never_after_now i (of_restarts at_new) p l)) now_alike.0,
          free_after o now_alike.1 (free_by o (restart i at_new p l e)),
        )
    timer_alike i p l false e =
        subst (Alike (new_date i)) (sym (date_old (suc n + i) (omega arith) ∙ node_end n c i)) (
          free_after o (free_by o (restart_kept i at_new p l e)) (free_by o (wait_kept i at_new p l)),
          free_after o (free_by o (wait_keeps i at_new p l)) (free_by o (restart_keeps i at_new p l e)),
        )

    node_alike : (u : ℕ) → u < N → Alike (node n chart u) (date_of (name u))
    node_alike = by_parts (suc n) (suc n) (λ u. Alike (node n chart u) (date_of (name u))) first last
      where
        first : (u : ℕ) → u < suc n → Alike (node n chart u) (date_of (name u))
        first u l =
            subst₂ Alike (sym (node_start n chart u l)) (sym (ap date_of (names.stays u l) ∙ date_old u (omega arith) ∙ node_start n c u l))
            (free_stop o, free_stop o)

        at_end : (i : ℕ) → node n chart (suc n + i) ≡ new_date i
        at_end i = node_end n chart i ∙ ap (λ k. date k i) (longer_end c motion)

        last : (i : ℕ) → i < suc n → Alike (node n chart (suc n + i)) (date_of (name (suc n + i)))
        last zero l = subst₂ Alike (sym (at_end 0)) (sym (ap date_of names.now ∙ date_new)) now_alike
        last (suc i) l =
            subst₂ Alike (sym (at_end (suc i))) (sym (ap date_of (names.timers (suc i) (omega arith) (omega arith))))
            (timer_alike (suc i) (omega arith) (omega arith) (restarts_timer motion (suc i)) refl)

    -- MOTION
    pub good_motion : Good D n chart moved
    good_motion =
        record {
          closed = renamed_closed o (suc N) V closed N name names_below;
          runs = moved_runs;
          attained = λ u v hu hv. attained_along o (V (name u) (name v)) (low_v (name u) (name v)) (node_alike u hu).0 (node_alike v hv).1
              (pivot_attained (name u) (name v) (names_below u hu) (names_below v hv));
        }
