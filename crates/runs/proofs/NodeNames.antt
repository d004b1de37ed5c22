-- The names of the nodes after a motion and after a join. Assumes nothing.
use Rattle.std.proofs.Common.{◌≡◌, ℕ, suc, ◌+◌, ◌-◌, ◌<◌, ◌≤◌, cond, leb, ap, ◌∙◌, arith, le-leb}
use borrow.Author.Tests.{lt-leb}
use Rattle.chart.specs.Charts.{Motion, restarts_timer}
use Rattle.runs.specs.Motions.{MotionNames, motion_name}
use Rattle.runs.specs.Joining.{JoinNames, join_name}

pub motion_names : (n : ℕ) (motion : Motion) → MotionNames n motion (motion_name n motion)
motion_names n motion = record { stays = stays; now = now; timers = timers }
  where
    stays : (u : ℕ) → u < suc n → motion_name n motion u ≡ u
    stays u l =
        ap (λ b. cond b u (cond (leb u (n + 1)) (suc n + suc n) (cond (restarts_timer motion (u - (n + 1))) (suc n + suc n) u))) (le-leb u n (omega arith))

    -- past the start
    past : (i : ℕ) → motion_name n motion (suc n + i)
        ≡ cond (leb (suc n + i) (n + 1)) (suc n + suc n) (cond (restarts_timer motion ((suc n + i) - (n + 1))) (suc n + suc n) (suc n + i))
    past i =
        ap (λ b. cond b (suc n + i) (cond (leb (suc n + i) (n + 1)) (suc n + suc n) (cond (restarts_timer motion ((suc n + i) - (n + 1))) (suc n + suc n) (suc n + i))))
        (lt-leb (suc n + i) n (omega arith))

    now : motion_name n motion (suc n + 0) ≡ suc n + suc n
    now =
        past 0 ∙ ap (λ b. cond b (suc n + suc n) (cond (restarts_timer motion ((suc n + 0) - (n + 1))) (suc n + suc n) (suc n + 0)))
        (le-leb (suc n + 0) (n + 1) (omega arith))

    timers : (i : ℕ) → 1 ≤ i → i ≤ n → motion_name n motion (suc n + i) ≡ cond (restarts_timer motion i) (suc n + suc n) (suc n + i)
    timers i p l =
        let e : (suc n + i) - (n + 1) ≡ i = omega arith in
        past i
        ∙ ap (λ b. cond b (suc n + suc n) (cond (restarts_timer motion ((suc n + i) - (n + 1))) (suc n + suc n) (suc n + i)))
        (lt-leb (suc n + i) (n + 1) (omega arith))
        ∙ ap (λ k. cond (restarts_timer motion k) (suc n + suc n) (suc n + i)) e

pub join_names : (n : ℕ) → JoinNames n (join_name n)
join_names n =
    record {
      first = λ i l. ap (λ b. cond b i (suc n + i)) (le-leb i n (omega arith));
      last = λ i l. ap (λ b. cond b (suc n + i) (suc n + (suc n + i))) (lt-leb (suc n + i) n (omega arith));
    }
