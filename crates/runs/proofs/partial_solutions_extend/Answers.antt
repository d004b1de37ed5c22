use Rattle.runs.proofs.Theorems.{extends}
use Rattle.runs.proofs.partial_solutions_extend.Goals as goal

pub returns : goal.returns
returns g c = extends g.B.Bound.meaning g.met.B.Bound.lawful
