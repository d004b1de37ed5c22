-- One window after the other. Assumes nothing.
use Rattle.std.proofs.Common.{◌≡◌, ℕ, suc, ◌+◌, ◌-◌, ◌*◌, ◌^◌, ◌<◌, ◌≤◌, List, [], ◌∷◌, ◌++◌, length, get_or, Ok, Err, Result, sym, refl, ap, ◌∙◌, append_assoc, append-nil, arith}
use Rattle.std.proofs.lemmas.Bool.Decides.{nat_tests}
use Rattle.std.specs.Result.{result_map_both}
use Rattle.chart.specs.declared.types.Timers.{Timers}
use Rattle.chart.specs.declared.types.Window.{Window}
use Rattle.chart.specs.declared.types.MotionFault.{MotionFault}
use Rattle.chart.specs.Reading.{window_at, before, windows_from, motion_of}

-- windows stand before those that are yet to be read
abbrev pub behind : List Window → Result (List Window) MotionFault → Result (List Window) MotionFault
behind ws r = result_map_both (λ vs. ws ++ vs) (λ e. e) r

behind_none : (r : Result (List Window) MotionFault) → r ≡ behind [] r
behind_none (Ok vs) = refl
behind_none (Err e) = refl

behind_more : (ws : List Window) (w : Window) (r : Result (List Window) MotionFault) → behind ws (before (Ok w) r) ≡ behind (ws ++ (w ∷ [])) r
behind_more ws w (Ok vs) = ap Ok (sym (append_assoc ws (w ∷ []) vs))
behind_more ws w (Err e) = refl

pub windows_start : (n : Timers) (bs : List ℕ) (m : ℕ) → windows_from n bs m 0 ≡ behind [] (windows_from n bs (m - 0) 0)
windows_start n bs m = let e : m - 0 ≡ m = omega arith in rw e (behind_none (windows_from n bs m 0))

module _ (n : Timers) (bs : List ℕ) (m k : ℕ) (ws : List Window) (h : k < m) (inv : windows_from n bs m 0 ≡ behind ws (windows_from n bs (m - k) k)) where
  -- what answers the k-th window answers it in its place
  step : (r : Result Window MotionFault) → window_at n bs (2 + 6 * k) ≡ r → windows_from n bs m 0 ≡ behind ws (before r (windows_from n bs (m - (k + 1)) (k + 1)))
  unfolding windows_from
  step r g =
      let e : m - k ≡ suc (m - (k + 1)) = omega arith in
      inv ∙ ap (λ (x : ℕ). behind ws (windows_from n bs x k)) e ∙ ap (λ (q : Result Window MotionFault). behind ws (before q (windows_from n bs (m - (k + 1)) (k + 1)))) g

  pub windows_fault : (e : MotionFault) → window_at n bs (2 + 6 * k) ≡ Err e → windows_from n bs m 0 ≡ Err e
  windows_fault e g = step (Err e) g

  pub windows_next : (w : Window) → window_at n bs (2 + 6 * k) ≡ Ok w → windows_from n bs m 0 ≡ behind (ws ++ (w ∷ [])) (windows_from n bs (m - (k + 1)) (k + 1))
  windows_next w g = step (Ok w) g ∙ behind_more ws w (windows_from n bs (m - (k + 1)) (k + 1))

pub windows_done : (n : Timers) (bs : List ℕ) (m k : ℕ) (ws : List Window) → m ≤ k → windows_from n bs m 0 ≡ behind ws (windows_from n bs (m - k) k) → windows_from n bs m 0 ≡ Ok ws
unfolding windows_from
windows_done n bs m k ws h inv =
    let e : m - k ≡ 0 = omega arith in
    inv ∙ ap (λ (x : ℕ). behind ws (windows_from n bs x k)) e ∙ ap Ok (append-nil ws)

-- a motion whose first two bytes are sound and whose windows are there is judged by its windows
pub by_windows : (n : Timers) (bs : List ℕ) → 2 ≤ length bs → get_or bs 0 0 ≤ 16 → get_or bs 1 0 < 2 ^ n.count → 2 + 6 * get_or bs 0 0 ≤ length bs
    → (r : Result (List Window) MotionFault) → windows_from n bs (get_or bs 0 0) 0 ≡ r
    → motion_of n bs ≡ result_map_both (λ ws. (record { windows = ws; restarts = get_or bs 1 0 }, 2 + 6 * get_or bs 0 0)) (λ e. e) r
by_windows n bs a b d f r e = rw (← e) (grind (arith, nat_tests))
