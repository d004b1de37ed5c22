use Rattle.runs.proofs.Theorems.{new_node}
use Rattle.runs.proofs.new_node_closes.Goals as goal

pub returns : goal.returns
returns g c = new_node g.B.Bound.meaning g.met.B.Bound.lawful
