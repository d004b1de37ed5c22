-- What is read of a motion's bytes: the motion and how many bytes it used, or the first fault. Assumes nothing.
use Rattle.std.specs.Prelude.{ℕ, zero, suc, ◌+◌, ◌*◌, ◌^◌, ◌≤◌, cond, List, [], ◌∷◌, length, Some, None, Ok, Err, Option, Result, ◌==◌, nat_le, nat_lt, slice_index, slice_index_or}
use Rattle.std.proofs.Common.{le_trans}
use Rattle.std.specs.Result.{result_map_both}
use Rattle.chart.specs.declared.types.Timers.{Timers}
use Rattle.chart.specs.declared.types.Sign.{Sign}
use Rattle.chart.specs.declared.types.Sign.TheVariants.{AtMost, Under, AtLeast, Over, Equal}
use Rattle.chart.specs.declared.types.Window.{Window}
use Rattle.chart.specs.declared.types.MotionFault.{MotionFault}
use Rattle.chart.specs.declared.types.MotionFault.TheVariants as fault
use Rattle.chart.specs.Bytes.{four}
use Rattle.chart.specs.Ranges.{if_le, if_within}
use Rattle.chart.specs.Charts.{Motion}

-- 1 to 5 are ≤ < ≥ > =
abbrev pub sign_of : ℕ → Option Sign
sign_of b =
    cond (b == 1) (Some AtMost)
    (cond (b == 2) (Some Under)
    (cond (b == 3) (Some AtLeast)
    (cond (b == 4) (Some Over)
    (cond (b == 5) (Some Equal)
    None))))

-- a window of n timers by its parts, whose bytes begin at `at`: first its timer is looked at, then its sign, then its number
abbrev pub signed : (timer number at : ℕ) → 1 ≤ timer → timer ≤ 8 → Option Sign → Result Window MotionFault
signed timer number at some most None = Err (fault.Sign (at + 1))
signed timer number at some most (Some s) =
    if_le number 1000000000
    (λ range. Ok (record { timer = timer; sign = s; number = number; some = some; most = most; range = range }))
    (Err (fault.Number (at + 2)))

abbrev pub window_by : (n : Timers) (timer sign number at : ℕ) → Result Window MotionFault
window_by n timer sign number at =
    if_within 1 n.count timer
    (λ some most. signed timer number at some (le_trans most n.most) (sign_of sign))
    (Err (fault.Timer at))

-- the window whose six bytes begin at `at`
abbrev pub window_at : Timers → List ℕ → ℕ → Result Window MotionFault
window_at n bytes at = window_by n (slice_index bytes at) (slice_index bytes (at + 1)) (four bytes (at + 2)) at

-- a window before others, or the first fault
abbrev pub before : Result Window MotionFault → Result (List Window) MotionFault → Result (List Window) MotionFault
before (Err e) rest = Err e
before (Ok w) rest = result_map_both (λ ws. w ∷ ws) (λ e. e) rest

-- the windows from the k-th on, `left` of them
unfoldable pub windows_from : Timers → List ℕ → (left k : ℕ) → Result (List Window) MotionFault
windows_from n bytes zero k = Ok []
windows_from n bytes (suc left) k = before (window_at n bytes (2 + 6 * k)) (windows_from n bytes left (k + 1))

-- the motion at the front of the bytes
abbrev pub motion_of : Timers → List ℕ → Result (Motion × ℕ) MotionFault
motion_of n bytes =
    let windows = slice_index_or bytes 0 0 in
    let restarts = slice_index_or bytes 1 0 in
    cond (nat_lt (length bytes) 2) (Err fault.Cut)
    (cond (nat_lt 16 windows) (Err fault.Windows)
    (cond (nat_le (2 ^ n.count) restarts) (Err fault.Restart)
    (cond (nat_lt (length bytes) (2 + 6 * windows)) (Err fault.Cut)
    (result_map_both (λ ws. (record { windows = ws; restarts = restarts }, 2 + 6 * windows)) (λ e. e) (windows_from n bytes windows 0)))))
