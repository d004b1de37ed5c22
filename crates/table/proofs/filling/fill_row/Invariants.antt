use Rattle.std.proofs.Common.{◌≡◌, ℕ, ◌<◌, ◌≤◌}
use Rattle.table.specs.Cells.{at}
use Rattle.table.proofs.filling.fill_row.Given as goal

abbrev pub invariant-loop-v : goal.invariant-loop-v
invariant-loop-v g l =
    let m = g.B.Bound.meaning in
    ((v : ℕ) → v < l.v → goal.F-post g l.rule v (at m l.initial.row v) (at m l.row v))
    × ((v : ℕ) → l.v ≤ v → at m l.row v ≡ at m l.initial.row v)
