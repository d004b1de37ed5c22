use Rattle.std.proofs.Common.{◌+◌, ap, ◌∙◌}
use Rattle.replay.proofs.Histories.{one_more}
use Rattle.replay.proofs.run.run.Goals as goal

pub loop-call-preserved : goal.loop-call-preserved
loop-call-preserved g c = (
  one_more g.B.Bound.meaning c.args.calls.now c.args.slots.now c.args.works.now c.loop-call.call-index c.call-item.result c.loop-call.slots c.step.new.slots
      c.loop-call.works c.step.new.works _ _ c.unwrap_or-answer.result c.loop-call-test.true c.call-item.is c.push_reserved.ensures.items c.loop-call.invariant.0
      (rw c.unwrap_or-answer.ensures c.step.ensures),
  c.push_reserved.ensures.len ∙ ap (λ n. n + 1) c.loop-call.invariant.1,
  c.push_reserved.ensures.capacity ∙ c.loop-call.invariant.2,
)
