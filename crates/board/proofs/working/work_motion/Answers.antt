use Rattle.std.proofs.Common.{[], ◌∷◌, refl, subst}
use Rattle.chart.specs.Charts.{held}
use Rattle.board.specs.declared.header.State.{State}
use Rattle.table.specs.Finds.{ChartTable}
use Rattle.board.specs.Holding.{StateIs}
use Rattle.board.proofs.Worked.{first_never}
use Rattle.board.proofs.working.work_motion.Goals as goal

pub returns-in-Runs-clause-finds : goal.returns-in-Runs-clause-finds
returns-in-Runs-clause-finds g c = λ a is.
    let its : ChartTable g.B.Bound.meaning c.args.timers.count a c.args.table.now = subst (λ (s : State). StateIs g.B.Bound.meaning s c.args.timers a c.args.table.now) c.in-Runs.is is in
    c.motion.ensures.finds a its.good its.small

pub returns-in_default : goal.returns-in_default
returns-in_default g c =
    record {
      finds = λ a is. first_never g.B.Bound.meaning c.args.timers a (held c.args.added.now ∷ []) c.args.table.now c.args.state c.in_default.not-Runs is;
      kept = refl;
      beyond = λ i h. refl;
      lent = λ i h. refl;
    }
