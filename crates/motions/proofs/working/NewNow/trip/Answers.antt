use Rattle.std.proofs.Common.{arith}
use Rattle.motions.proofs.Trips.{trip_sum, trip_yes, trip_no}
use Rattle.motions.proofs.working.NewNow.trip.Goals as goal

pub returns : goal.returns
returns g c =
    let m = g.B.Bound.meaning in
    let laws = g.met.B.Bound.lawful in
    let n = c.args.self.now.timers.count in
    let work = c.args.self.now.work.now in
    let i = c.args.i in
    let onward = c.pick-onward.result in
    let back = c.pick-back.result in
    let s = c.sum_or_open.result in
    record {
      yes = λ fits e. trip_yes m laws n work i onward back s c.pick-onward.ensures c.pick-back.ensures
          (trip_sum m laws n work fits _ _ (omega arith) (omega arith) onward back s c.pick-onward.ensures c.pick-back.ensures c.sum_or_open.ensures) (c.allows_zero.ensures.yes e);
      no = λ fits e. trip_no m laws n work i onward back s c.pick-onward.ensures c.pick-back.ensures
          (trip_sum m laws n work fits _ _ (omega arith) (omega arith) onward back s c.pick-onward.ensures c.pick-back.ensures c.sum_or_open.ensures) (c.allows_zero.ensures.no e);
    }
