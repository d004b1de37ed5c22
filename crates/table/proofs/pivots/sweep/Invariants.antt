use Rattle.std.proofs.Common.{◌+◌}
use Rattle.table.specs.Cells.{at, Only, Holds, relaxed}
use Rattle.table.proofs.pivots.sweep.Given as goal

abbrev pub invariant-loop-v : goal.invariant-loop-v
invariant-loop-v g l =
    let m = g.B.Bound.meaning in
    Only m l.base l.v l.initial.work l.work
    × Holds m l.base l.v (λ v. relaxed m (at m l.initial.work (l.base + v)) l.bound (at m l.initial.work (l.other + v))) l.work
