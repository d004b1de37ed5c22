use Rattle.std.proofs.Common.{refl}
use Rattle.table.proofs.Strides.{row_within}
use Rattle.table.proofs.cells.row_start.Goals as goal

pub returns : goal.returns
returns c = record { value = refl; within = row_within c.args.u c.args.side c.requires.0 }
