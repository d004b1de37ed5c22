use Rattle.std.proofs.Common.{arith}
use Rattle.motions.proofs.Stars.{best_none, best_more, best_to}
use Rattle.motions.proofs.star.tightest.Goals as goal

pub loop-i-init : goal.loop-i-init
loop-i-init g c = λ f h _ _. best_none g.B.Bound.meaning f h c.open-best.result c.open-best.ensures

pub loop-i-preserved : goal.loop-i-preserved
loop-i-preserved g c = λ f h first second.
    best_more g.B.Bound.meaning f h c.loop-i.i c.loop-i.best c.first.result c.second.result c.relax-best.result (c.loop-i.invariant f h first second)
    (first c.loop-i.i c.first.result c.loop-i-test.true c.first.ensures) (second c.loop-i.i c.second.result c.loop-i-test.true c.second.ensures) c.relax-best.ensures

pub returns : goal.returns
returns g c = λ f h first second. best_to g.B.Bound.meaning f h c.loop-i.i c.args.count (omega arith) c.loop-i.best (c.loop-i.invariant f h first second)
