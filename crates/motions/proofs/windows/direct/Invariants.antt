use Rattle.motions.proofs.WindowTurns.{Noting}
use Rattle.motions.proofs.windows.direct.Given as goal

abbrev pub invariant-loop-window : goal.invariant-loop-window
invariant-loop-window g l = Noting g.B.Bound.meaning l.timers.count l.window-items l.window-index l.initial.work l.work
