use Rattle.std.proofs.Common.{ℕ, ◌<◌}
use Rattle.runs.specs.Search.{Passes, AllD, AllC, AllB}
use Rattle.table.specs.Compared.{tighter_at}
use Rattle.table.proofs.view.TwoTables.first_name.Given as goal

abbrev pub invariant-loop-a : goal.invariant-loop-a
invariant-loop-a g l = (j : ℕ) → j < l.a → AllB l.n (tighter_at g.B.Bound.meaning l.n l.self.first.now l.self.second.now) j

abbrev pub invariant-loop-b : goal.invariant-loop-b
invariant-loop-b g l = (j : ℕ) → j < l.b → AllC l.n (tighter_at g.B.Bound.meaning l.n l.self.first.now l.self.second.now) l.a j

abbrev pub invariant-loop-c : goal.invariant-loop-c
invariant-loop-c g l = (j : ℕ) → j < l.c → AllD l.n (tighter_at g.B.Bound.meaning l.n l.self.first.now l.self.second.now) l.a l.b j

abbrev pub invariant-loop-d : goal.invariant-loop-d
invariant-loop-d g l = (j : ℕ) → j < l.d → Passes l.n (tighter_at g.B.Bound.meaning l.n l.self.first.now l.self.second.now) l.a l.b l.c j
