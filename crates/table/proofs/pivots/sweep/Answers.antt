use Rattle.std.proofs.Common.{◌+◌, ◌<◌, length, ap, ◌∙◌, arith}
use Rattle.std.proofs.lemmas.List.{get_or_read}
use Rattle.table.specs.Cells.{at, relaxed}
use Rattle.table.proofs.Strides.{only_more, holds_more, unswept}
use Rattle.table.proofs.pivots.sweep.Goals as goal

pub loop-v-preserved : goal.loop-v-preserved
loop-v-preserved g c =
    let m = g.B.Bound.meaning in
    let base = c.args.base in
    let other = c.args.other in
    let v = c.loop-v.v in
    let before = c.args.work.now in
    let now = c.loop-v.work in
    let x = c.relax.result in
    let inside : base + v < length now = omega arith in
    let held = get_or_read now (base + v) c.index-work-base.result (omega arith) c.index-work-base.is m.opened ∙ c.loop-v.invariant.0.above (base + v) (omega arith) in
    let read = get_or_read now (other + v) c.index-work-other.result (omega arith) c.index-work-other.is m.opened in
    let old = unswept m base other c.args.count v before now c.requires.apart c.loop-v-test.true c.loop-v.invariant.0 in
    let value = c.relax.ensures ∙ ap (λ a. relaxed m a c.args.bound c.index-work-other.result) held ∙ ap (λ b. relaxed m (at m before (base + v)) c.args.bound b) (read ∙ old) in
    (only_more m base v before now x c.loop-v.invariant.0, holds_more m base v _ now x inside value c.loop-v.invariant.1)

pub returns : goal.returns
returns g c =
    record {
      only = record { below = λ i h. c.loop-v.invariant.0.below i h; above = λ i h. c.loop-v.invariant.0.above i (omega arith) };
      row = λ v h. c.loop-v.invariant.1 v (omega arith);
    }
