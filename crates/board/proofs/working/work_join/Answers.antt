use Rattle.std.proofs.Common.{refl}
use Rattle.board.proofs.Worked.{first_never, last_never}
use Rattle.board.proofs.working.work_join.Goals as goal

pub returns-in_default : goal.returns-in_default
returns-in_default g c =
    record {
      finds = λ a b is is' of. last_never g.B.Bound.meaning c.args.timers a b c.args.other.now c.args.others c.in_default.not-Runs-1 is';
      kept = refl;
      beyond = λ i h. refl;
      lent = λ i h. refl;
    }

pub returns-in_default-2 : goal.returns-in_default-2
returns-in_default-2 g c =
    record {
      finds = λ a b is is' of. first_never g.B.Bound.meaning c.args.timers a b c.args.table.now c.args.state c.in_default.not-Runs-0 is;
      kept = refl;
      beyond = λ i h. refl;
      lent = λ i h. refl;
    }
