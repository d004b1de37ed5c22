use Rattle.table.proofs.Turns.{Turned}
use Rattle.table.proofs.pivots.pivot.Given as goal

abbrev pub invariant-loop-u : goal.invariant-loop-u
invariant-loop-u g l = Turned g.B.Bound.meaning l.side l.p l.u l.initial.work l.work
