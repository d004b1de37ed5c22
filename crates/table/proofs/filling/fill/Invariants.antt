use Rattle.std.proofs.Common.{◌≡◌, ℕ, ◌<◌, ◌≤◌}
use Rattle.table.specs.Cells.{at}
use Rattle.table.proofs.Strides.{Filled}
use Rattle.table.proofs.filling.fill.Given as goal

abbrev pub invariant-loop-u : goal.invariant-loop-u
invariant-loop-u g l = Filled g.B.Bound.meaning l.side (goal.F-post g l.rule) l.u l.initial.table l.table

abbrev pub invariant-loop-v : goal.invariant-loop-v
invariant-loop-v g l =
    let m = g.B.Bound.meaning in
    ((v : ℕ) → v < l.v → goal.F-post g l.rule l.u v (at m l.initial.place-items v) (at m l.place-items v))
    × ((v : ℕ) → l.v ≤ v → at m l.place-items v ≡ at m l.initial.place-items v)
