use Rattle.board.proofs.Telling.{limit_answered}
use Rattle.board.proofs.board.Board.limit.Goals as goal

pub returns : goal.returns
returns g c =
    let its = c.in_ok-table.ensures in
    limit_answered g.B.Bound.meaning g.met.B.Bound.lawful _ _ _ its.2 its.0 c.args.name (c.is_name.ensures.yes c.if-not-is_name.false) _ (rw its.1 at c.limit.ensures.is)
