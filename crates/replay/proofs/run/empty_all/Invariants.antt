use Rattle.replay.proofs.Histories.{Blanked}
use Rattle.replay.proofs.run.empty_all.Given as goal

abbrev pub invariant-loop-i : goal.invariant-loop-i
invariant-loop-i g l = Blanked g.B.Bound.meaning l.initial.slots l.i l.slots
