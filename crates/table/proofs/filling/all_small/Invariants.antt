use Rattle.std.proofs.Common.{ℕ, ◌<◌, ◌≤◌}
use Rattle.table.proofs.filling.all_small.Given as goal

abbrev pub invariant-loop-u : goal.invariant-loop-u
invariant-loop-u g l = (u v : ℕ) → u < l.u → v < l.side → (b : g.row.B.Denot) × goal.F-post g l.cell u v b × (g.B.Bound.meaning.size_of b ≤ l.most)

abbrev pub invariant-loop-v : goal.invariant-loop-v
invariant-loop-v g l = (v : ℕ) → v < l.v → (b : g.row.B.Denot) × goal.F-post g l.cell l.u v b × (g.B.Bound.meaning.size_of b ≤ l.most)
