use Rattle.runs.proofs.Theorems.{answered}
use Rattle.runs.proofs.sums_answered.Goals as goal

pub returns : goal.returns
returns g c = answered g.B.Bound.meaning g.met.B.Bound.lawful
