use Rattle.std.proofs.Common.{◌≡◌, ℕ, ◌*◌, ◌%◌, ◌^◌, ◌<◌, ◌≤◌, length, get_or, take, Ok, Err, sym, ap, ◌∙◌, add-one, arith, take-suc-set, length-take-le}
use Rattle.std.proofs.lemmas.List.{take-append-le}
use Rattle.std.proofs.lemmas.Nat.{pow_below}
use Rattle.std.proofs.lemmas.Result.{err_from_is_err_and}
use Rattle.chart.proofs.Windows.{windows_fault, windows_next, windows_done, by_windows}
use Rattle.chart.proofs.read.motion_of.Goals as goal

-- what is left of the test on the restart byte
below : (r n : ℕ) → n ≤ 8 → r < (1 * 2 ^ n) % 4294967296 → r < 2 ^ n
below r n h e = let p = pow_below n 9 (omega arith) in omega arith

pub returns-in_err-slot : goal.returns-in_err-slot
returns-in_err-slot c =
    let p = err_from_is_err_and c.from_residual.result c.from_residual.ensures.1 in
    let n = c.args.timers in
    let bs = c.args.bytes.now in
    let k = c.loop-k.k in
    let f = c.in_err-slot.field-0.0 in
    let small : get_or bs 1 0 < 2 ^ n.count = below (get_or bs 1 0) n.count n.most c.if-restarts-timers.false in
    let long = c.loop-k.auto.slot-items ∙ length-take-le (get_or bs 0 0) _ (omega arith) in
    let before : k < get_or bs 0 0 = omega (arith, long) in
    let e = windows_fault n bs (get_or bs 0 0) k (take k c.loop-k.slot-items) before c.loop-k.invariant f (sym c.in_err-slot.ensures) in
    rw (p.1, p.2) (sym (by_windows n bs (omega arith) (omega arith) small (omega arith) (Err f) e))

pub loop-k-preserved : goal.loop-k-preserved
loop-k-preserved c =
    let n = c.args.timers in
    let bs = c.args.bytes.now in
    let k = c.loop-k.k in
    let ws = c.loop-k.slot-items in
    let w = c.in_ok-slot.field-0 in
    let long = c.loop-k.auto.slot-items ∙ length-take-le (get_or bs 0 0) _ (omega arith) in
    let lt : k < length ws = omega arith in
    let before : k < get_or bs 0 0 = omega (arith, long) in
    rw (add-one, take-suc-set ws k w lt, ← add-one) (windows_next n bs (get_or bs 0 0) k (take k ws) before c.loop-k.invariant w (sym c.in_ok-slot.ensures))

pub returns : goal.returns
returns c =
    let n = c.args.timers in
    let bs = c.args.bytes.now in
    let m = get_or bs 0 0 in
    let ws = c.loop-k.slot-items in
    let small : get_or bs 1 0 < 2 ^ n.count = below (get_or bs 1 0) n.count n.most c.if-restarts-timers.false in
    let long : length ws ≡ m = c.loop-k.auto.slot-items ∙ length-take-le m _ (omega arith) in
    let k : c.loop-k.k ≡ m = omega arith in
    let e = windows_done n bs m c.loop-k.k (take c.loop-k.k ws) (omega arith) c.loop-k.invariant in
    sym (by_windows n bs (omega arith) (omega arith) small (omega arith) (Ok _) (e ∙ ap (λ (j : ℕ). Ok (take j ws)) k ∙ ap Ok (sym (take-append-le m ws _ (omega arith)))))
