use Rattle.std.proofs.Common.{arith}
use Rattle.replay.proofs.Lent.{on_lent, join_back}
use Rattle.replay.proofs.slots.Slot.join.Goals as goal

pub returns-clause-done : goal.returns-clause-done
returns-clause-done g c = λ s t own own'.
    let m = g.B.Bound.meaning in
    let is = c.as_mut_slice.ensures.value in
    let is' = c.as_mut_slice-2.ensures.value in
    join_back m c.args.self.now.table c.args.work.now _ c.join_on.new.table _ c.join_on.new.work is c.as_mut_slice-3.ensures.value (omega arith) (omega arith) _ _ s t
    (c.join_on.ensures.done s t (on_lent m _ _ _ is s own) (on_lent m _ _ _ is' t own'))
