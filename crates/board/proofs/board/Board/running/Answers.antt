use Rattle.std.proofs.Common.{◌≡◌, rules}
use Rattle.board.specs.declared.header.State.TheVariants.{Never}
use Rattle.board.proofs.Telling.{never_refused}
use Rattle.board.proofs.board.Board.running.Goals as goal

pub returns-then-eq : goal.returns-then-eq
returns-then-eq g c =
    let is : c.args.self.now.header.state ≡ Never = search rules in
    never_refused g.B.Bound.meaning g.met.B.Bound.lawful _ _ is
