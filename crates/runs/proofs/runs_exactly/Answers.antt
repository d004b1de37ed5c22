use Rattle.runs.proofs.Theorems.{runs_exactly}
use Rattle.runs.proofs.runs_exactly.Goals as goal

pub returns : goal.returns
returns g c = runs_exactly g.B.Bound.meaning g.met.B.Bound.lawful
