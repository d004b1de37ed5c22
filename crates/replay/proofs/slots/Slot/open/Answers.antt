use Rattle.std.proofs.Common.{List, sym, subst₂, arith}
use Rattle.board.specs.Standing.{opened}
use Rattle.board.specs.Left.{TableLeft}
use Rattle.replay.proofs.Lent.{back}
use Rattle.replay.proofs.slots.Slot.open.Goals as goal

pub returns-clause-table : goal.returns-clause-table
returns-clause-table g c = λ s.
    subst₂ (λ (x y : List g.row.B.Denot). TableLeft g.B.Bound.meaning (opened c.args.n s) x y c.open_on.result) c.as_mut_slice.ensures.value
    (sym (back c.args.self.now.table c.open_on.new.table (omega arith))) (c.open_on.ensures.table s)
