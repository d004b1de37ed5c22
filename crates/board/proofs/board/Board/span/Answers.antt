use Rattle.board.proofs.Telling.{span_answered}
use Rattle.board.proofs.board.Board.span.Goals as goal

pub returns : goal.returns
returns g c =
    let its = c.in_ok-table.ensures in
    span_answered g.B.Bound.meaning g.met.B.Bound.lawful _ _ _ its.2 its.0 _ _ (rw its.1 at c.read.ensures) (rw its.1 at c.read-2.ensures)
