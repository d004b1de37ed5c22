use Rattle.board.proofs.Telling.{runs_never}
use Rattle.board.proofs.board.Board.runs.Goals as goal

pub returns-in-Never : goal.returns-in-Never
returns-in-Never g c = runs_never g.B.Bound.meaning g.met.B.Bound.lawful _ _ c.in-Never.is
