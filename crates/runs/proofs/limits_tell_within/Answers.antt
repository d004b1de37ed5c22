use Rattle.runs.proofs.Theorems.{decides}
use Rattle.runs.proofs.limits_tell_within.Goals as goal

pub returns : goal.returns
returns g c = decides g.B.Bound.meaning g.met.B.Bound.lawful
