use Rattle.std.proofs.Common.{◌<◌, sym, ⊎_elim, arith}
use Rattle.chart.proofs.Ranges.{timers_some, timers_under, timers_over}
use Rattle.chart.proofs.types.Timers.new.Goals as goal

pub returns-then-count-eq0 : goal.returns-then-count-eq0
returns-then-count-eq0 c =
    let count = c.args.count in
    ⊎_elim
    (λ e. let h : count < 1 = omega (arith, e) in sym (timers_under count h))
    (λ e. let h : 8 < count = omega (arith, e.1) in sym (timers_over count h))
    c.then-count-eq0.either

pub returns : goal.returns
returns c = sym (timers_some _)
