use Rattle.std.proofs.Common.{rules}
use Rattle.joins.proofs.joining.Closed.take_out.Goals as goal

pub returns-clause-cells : goal.returns-clause-cells
returns-clause-cells g c = λ u v hu hv. let p = c.fill.ensures.cells u v hu hv in search rules
