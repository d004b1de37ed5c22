use Rattle.runs.proofs.Theorems.{pivots}
use Rattle.runs.proofs.pivots_keep.Goals as goal

pub returns : goal.returns
returns g c = pivots g.B.Bound.meaning g.met.B.Bound.lawful
