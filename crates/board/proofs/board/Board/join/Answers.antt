use Rattle.std.proofs.Common.{◌+◌, ◌<◌, refl, arith}
use Rattle.std.proofs.lemmas.Result.{err_from_is_err_and}
use Rattle.board.proofs.Worked.{cleared}
use Rattle.board.proofs.Growing.{join_refused, join_long, join_settled}
use Rattle.board.proofs.board.Board.join.Goals as goal
use Rattle.board.proofs.board.Board.join.Goals.{then-more-gt-MOST_MOTIONS-via-then-more-gt-MOST_MOTIONS, then-more-gt-MOST_MOTIONS-via-else-more-gt-MOST_MOTIONS+then-self-more}

pub returns-in_err-timers-clause-done : goal.returns-in_err-timers-clause-done
returns-in_err-timers-clause-done g c =
    let p = err_from_is_err_and c.from_residual.result c.from_residual.ensures.1 in
    rw (p.1, p.2) (λ s t st st'. join_refused g.B.Bound.meaning _ _ _ _ s t st (c.in_err-timers.ensures s t st st'))

pub returns-then-more-gt-MOST_MOTIONS-clause-done : goal.returns-then-more-gt-MOST_MOTIONS-clause-done
returns-then-more-gt-MOST_MOTIONS-clause-done g c =
    let long : 1000000000 < c.args.self.now.header.count + c.args.other.now.header.count =
    elim c.then-more-gt-MOST_MOTIONS.branch [
      | then-more-gt-MOST_MOTIONS-via-then-more-gt-MOST_MOTIONS w ↦ omega (arith, w.if-more-gt-MOST_MOTIONS.true)
      | then-more-gt-MOST_MOTIONS-via-else-more-gt-MOST_MOTIONS+then-self-more w ↦ omega (arith, w.if-more-gt-MOST_MOTIONS.false, w.if-self-more.true)
    ] in
    join_long g.B.Bound.meaning g.met.B.Bound.lawful _ _ _ _ _ _ _ c.in_ok-timers.ensures.0 c.in_ok-timers.ensures.1 refl (omega (arith, c.places-needed.ensures)) long

pub returns-clause-done : goal.returns-clause-done
returns-clause-done g c =
    let clean = cleared g.B.Bound.meaning _ _ _ _ _ c.places-needed.ensures c.work_join-found.ensures.lent c.clear.ensures.cleared c.clear.ensures.beyond in
    join_settled g.B.Bound.meaning g.met.B.Bound.lawful _ _ _ _ _ _ _ c.in_ok-timers.ensures.0 c.in_ok-timers.ensures.1 refl (omega (arith, c.places-needed.ensures))
    _ _ _ _ _ (omega (arith, c.if-more-gt-MOST_MOTIONS.false, c.if-self-more.false)) c.work_join-found.auto.table
    c.work_join-found.ensures.finds c.work_join-found.ensures.kept c.work_join-found.ensures.beyond clean c.settle.ensures.answer c.settle.ensures.after
