use Rattle.runs.proofs.Theorems.{tells}
use Rattle.runs.proofs.tables_tell.Goals as goal

pub returns : goal.returns
returns g c = tells g.B.Bound.meaning g.met.B.Bound.lawful
