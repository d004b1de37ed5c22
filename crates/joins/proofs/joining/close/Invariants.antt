use Rattle.std.proofs.Common.{◌+◌, ◌*◌}
use Rattle.table.specs.Cells.{Beyond, Small}
use Rattle.joins.proofs.Middles.{Middle}
use Rattle.joins.proofs.joining.close.Given as goal

abbrev pub invariant-loop-k : goal.invariant-loop-k
invariant-loop-k g l =
    let m = g.B.Bound.meaning in
    (Small m (3 * l.n + 3) l.initial.work → Middle m l.n l.k l.initial.work l.work)
    × Beyond m ((3 * l.n + 3) * (3 * l.n + 3)) l.initial.work l.work
