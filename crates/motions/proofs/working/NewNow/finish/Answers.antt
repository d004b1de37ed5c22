use Rattle.std.proofs.Common.{rules, ◌^◌, ◌≤◌, ◌+◌, ◌*◌, sym, subst}
use Rattle.chart.specs.Charts.{held}
use Rattle.table.specs.Cells.{Rows}
use Rattle.motions.specs.Star.{new_cell}
use Rattle.motions.proofs.working.NewNow.finish.Goals as goal

pub returns-clause-found : goal.returns-clause-found
returns-clause-found g c =
    let m = g.B.Bound.meaning in
    let s = c.args.self.now in
    let side = 2 * s.timers.count + 2 in
    let rows : Rows m side side (new_cell m s.zero s.timers.count (held s.motion.now) c.args.table.now s.work.now) c.fill.new.table = λ u v hu hv. (let p = c.fill.ensures.cells u v hu hv in search rules) in
    λ fits small zero. (
      c.passes.ensures.all fits c.if-not-passes.false,
      rows,
      λ u v hu hv. subst (λ x. m.size_of x ≤ 2 ^ 40) (sym (rows u v hu hv)) (c.sizes_fit.ensures.all small zero c.if-not-sizes_fit.false u v hu hv),
    )
