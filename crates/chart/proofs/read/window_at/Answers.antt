use Rattle.std.proofs.Common.{◌+◌, ◌≡◌, ◌<◌, get_or, Some, None, Ok, Option, sym, refl, ap, ◌∙◌, ⊎_elim, arith}
use Rattle.std.specs.Option.{ok_or}
use Rattle.chart.specs.declared.types.Sign.{Sign}
use Rattle.chart.specs.declared.types.UnknownByte.{UnknownByte}
use Rattle.chart.specs.Bytes.{four}
use Rattle.chart.specs.Reading.{sign_of}
use Rattle.chart.proofs.Parts.{timer_none, timer_above, sign_none, number_above, window_made, same_window}
use Rattle.chart.proofs.read.window_at.Goals as goal

read : (o : Option Sign) (s : Sign) (e : UnknownByte) → ok_or o e ≡ Ok s → o ≡ Some s
read (Some t) s e q = cc
read None s e q = absurd (grind arith)

pub returns-then-timer-eq0 : goal.returns-then-timer-eq0
returns-then-timer-eq0 c =
    let bs = c.args.bytes.now in
    let at = c.args.at in
    let t = get_or bs at 0 in
    let n = c.args.timers in
    ⊎_elim
    (λ e. let h : t < 1 = omega (arith, e) in sym (timer_none n t (get_or bs (at + 1) 0) (four bs (at + 2)) at h))
    (λ e. let h : n.count < t = omega (arith, e.1) in sym (timer_above n t (get_or bs (at + 1) 0) (four bs (at + 2)) at h))
    c.then-timer-eq0.either

pub returns-in_default : goal.returns-in_default
returns-in_default c =
    let bs = c.args.bytes.now in
    let at = c.args.at in
    let none : sign_of (get_or bs (at + 1) 0) ≡ None = grind arith in
    sym (sign_none c.args.timers (get_or bs at 0) (get_or bs (at + 1) 0) (four bs (at + 2)) at (omega arith) (omega arith) none)

pub returns-then-number-gt-MOST_NUMBER : goal.returns-then-number-gt-MOST_NUMBER
returns-then-number-gt-MOST_NUMBER c =
    let bs = c.args.bytes.now in
    let at = c.args.at in
    sym (number_above c.args.timers (get_or bs at 0) (get_or bs (at + 1) 0) (four bs (at + 2)) at (omega arith) (omega arith) c.in-Ok.sign (read _ _ _ (sym c.in-Ok.ensures)) (omega arith))

pub returns : goal.returns
returns c =
    let bs = c.args.bytes.now in
    let at = c.args.at in
    let v = c.u32_at-number.ensures in
    ap Ok (same_window _ _ refl refl v)
    ∙ sym (window_made c.args.timers (get_or bs at 0) (get_or bs (at + 1) 0) (four bs (at + 2)) at (omega arith) (omega arith) c.in-Ok.sign (read _ _ _ (sym c.in-Ok.ensures)) (omega arith))
