use Rattle.runs.proofs.Theorems.{reaches}
use Rattle.runs.proofs.closed_tables_reached.Goals as goal

pub returns : goal.returns
returns g c = reaches g.B.Bound.meaning g.met.B.Bound.lawful
