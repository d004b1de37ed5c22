use Rattle.std.proofs.Common.{◌+◌, List, sym, refl, ◌∙◌, subst}
use Rattle.table.proofs.Strides.{row_beyond}
use Rattle.table.proofs.Turns.{Turned, turned_none, turned_over, turned_more, all_rows}
use Rattle.table.proofs.pivots.pivot.Goals as goal
use Rattle.table.proofs.pivots.pivot.Goals.{then-u-p, else-u-p}

pub loop-u-init : goal.loop-u-init
loop-u-init g c = turned_none g.B.Bound.meaning c.args.side c.args.p c.requires.within.0 c.args.work.now

pub loop-u-preserved : goal.loop-u-preserved
loop-u-preserved g c =
    let m = g.B.Bound.meaning in
    let side = c.args.side in
    let p = c.args.p in
    let before = c.args.work.now in
    let u = c.loop-u.u in
    let Next : List g.row.B.Denot → Type 0 = λ t. Turned m side p (u + 1) before t in
    elim c.if-u-p.branch [
      | then-u-p w ↦ subst Next (sym w.work-is) (turned_more m side p c.requires.within.0 before u c.loop-u.work c.loop-u.invariant w.pivot_row.new.work c.loop-u-test.true w.if-u-p.true w.pivot_row.ensures.only w.pivot_row.ensures.row)
      | else-u-p w ↦ subst Next (sym w.work-is) (turned_over m side p c.requires.within.0 before u c.loop-u.work c.loop-u.invariant w.if-u-p.false)
    ]

pub returns : goal.returns
returns g c =
    let m = g.B.Bound.meaning in
    let side = c.args.side in
    let p = c.args.p in
    let own = c.pivot_row-2.ensures in
    record {
      cells = all_rows m side p c.requires.within.0 c.args.work.now c.loop-u.u c.loop-u.work c.loop-u.invariant c.pivot_row-2.new.work c.loop-u-test.false own.only own.row;
      beyond = λ i l. row_beyond m side p _ c.loop-u.work c.pivot_row-2.new.work refl own.only c.requires.within.0 i l ∙ c.loop-u.invariant.beyond i l;
    }
