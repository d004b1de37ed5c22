use Rattle.runs.proofs.Theorems.{runs_keep}
use Rattle.runs.proofs.runs_keep_chains.Goals as goal

pub returns : goal.returns
returns g c = runs_keep g.B.Bound.meaning g.met.B.Bound.lawful
