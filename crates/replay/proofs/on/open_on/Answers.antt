use Rattle.std.proofs.Common.{rules}
use Rattle.replay.proofs.on.open_on.Goals as goal

pub returns-clause-table : goal.returns-clause-table
returns-clause-table g c = λ s. let d = c.open-r.ensures.table s in search rules
