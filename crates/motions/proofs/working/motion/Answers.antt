use Rattle.chart.specs.Charts.{held}
use Rattle.motions.proofs.Moved.{star_fits, finds}
use Rattle.motions.proofs.working.motion.Goals as goal

pub returns-clause-finds : goal.returns-clause-finds
returns-clause-finds g c =
    let m = g.B.Bound.meaning in
    let laws = g.met.B.Bound.lawful in
    let z = c.zero.result in
    let e = c.zero.ensures in
    let n = c.args.timers.count in
    let motion = held c.args.motion.now in
    let table = c.args.table.now in
    let direct = c.direct.ensures.bounds z e in
    λ chart good small. finds m laws z e n motion table c.direct.new.work c.spread.new.work direct small c.spread.ensures chart good c.requires.fit c.finish.new.table c.finish.result
    (c.finish.ensures.found (star_fits m laws z e n motion table c.direct.new.work c.spread.new.work direct small c.spread.ensures) small (laws.written_size _ _ z e))
