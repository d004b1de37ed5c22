use Rattle.std.proofs.Common.{◌≡◌, ℕ, ◌+◌, ◌-◌, ◌≤◌, length, drop, sym, ◌∙◌, subst, subst₂, length-take-le, length-drop, arith}
use Rattle.table.specs.Cells.{Only}
use Rattle.table.proofs.Strides.{part_was, part_is, part_only, filled_none, filled_more}
use borrow.Rule.Slice.PartMut.{put_mid}
use Rattle.table.proofs.filling.fill.Goals as goal

pub loop-u-init : goal.loop-u-init
loop-u-init g c = filled_none g.B.Bound.meaning c.args.side (goal.F-post g c.args.rule) c.args.table.now

pub loop-u-preserved : goal.loop-u-preserved
loop-u-preserved g c =
    let m = g.B.Bound.meaning in
    let side = c.args.side in
    let start = c.row_start-start.result in
    let before = c.loop-u.table in
    let part = c.loop-v.place-items in
    let k : ℕ = (start + side) - start in
    let same : k ≡ side = omega arith in
    let room : start + k ≤ length before = omega arith in
    let long : length part ≡ k = c.loop-v.auto.place-items ∙ length-take-le k (drop start before) (omega (arith, length-drop start before)) in
    let only = part_only m start k before part room long in
    filled_more m side c.loop-u.u start before (put_mid start k before part) c.row_start-start.ensures.value (subst (λ (j : ℕ). Only m start j before (put_mid start k before part)) same only)
    (goal.F-post g c.args.rule) c.args.table.now c.loop-u-test.true c.loop-u.invariant
    (λ v h. subst₂ (λ a b. goal.F-post g c.args.rule c.loop-u.u v a b) (part_was m start k before part room long v (omega arith)) (sym (part_is m start k before part room long v (omega arith)))
    (c.loop-v.invariant.0 v (omega (arith, long))))

pub returns : goal.returns
returns g c = record { cells = λ u v hu hv. c.loop-u.invariant.done u v (omega arith) hv; beyond = c.loop-u.invariant.beyond }
