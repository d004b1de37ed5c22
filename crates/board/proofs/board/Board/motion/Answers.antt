use Rattle.std.proofs.Common.{Ok, Err, refl, arith}
use Rattle.std.proofs.lemmas.Result.{err_from_is_err_and}
use Rattle.chart.specs.Charts.{held}
use Rattle.board.proofs.Worked.{cleared}
use Rattle.board.proofs.Growing.{motion_long, motion_settled}
use Rattle.board.proofs.board.Board.motion.Goals as goal

pub returns-then-self-ge-MOST_MOTIONS-clause-done : goal.returns-then-self-ge-MOST_MOTIONS-clause-done
returns-then-self-ge-MOST_MOTIONS-clause-done g c =
    motion_long g.B.Bound.meaning g.met.B.Bound.lawful _ _ _ _ _ (held c.in_ok-motion.motion) _ c.in_ok-timers.ensures (omega (arith, c.places-needed.ensures)) c.in_ok-motion.ensures.value
    c.if-self-ge-MOST_MOTIONS.true

pub work_motion-found-requires-clause-fit : goal.work_motion-found-requires-clause-fit
work_motion-found-requires-clause-fit g c = ((c.in_ok-motion.ensures.laid (held c.in_ok-motion.motion) c.in_ok-motion.used).0 refl).fits

pub returns-in_err-settle-clause-done : goal.returns-in_err-settle-clause-done
returns-in_err-settle-clause-done g c =
    let motion = held c.in_ok-motion.motion in
    let used = c.in_ok-motion.used in
    let clean = cleared g.B.Bound.meaning _ _ _ _ _ c.places-needed.ensures c.work_motion-found.ensures.lent c.clear.ensures.cleared c.clear.ensures.beyond in
    let made = motion_settled g.B.Bound.meaning g.met.B.Bound.lawful _ _ _ _ _ motion used c.in_ok-timers.ensures (omega (arith, c.places-needed.ensures)) c.in_ok-motion.ensures.value
    _ _ _ _ (Err c.in_err-settle.field-0.0) c.if-self-ge-MOST_MOTIONS.false ((c.in_ok-motion.ensures.laid motion used).0 (refl {a = Ok (motion, used)})).fits c.work_motion-found.auto.table
    c.work_motion-found.ensures.finds c.work_motion-found.ensures.kept c.work_motion-found.ensures.beyond clean c.in_err-settle.ensures.answer c.settle.ensures.after in
    let p = err_from_is_err_and c.from_residual-in_err-settle.result c.from_residual-in_err-settle.ensures.1 in
    rw (p.1, p.2) made

pub returns-clause-done : goal.returns-clause-done
returns-clause-done g c =
    let motion = held c.in_ok-motion.motion in
    let used = c.in_ok-motion.used in
    let clean = cleared g.B.Bound.meaning _ _ _ _ _ c.places-needed.ensures c.work_motion-found.ensures.lent c.clear.ensures.cleared c.clear.ensures.beyond in
    motion_settled g.B.Bound.meaning g.met.B.Bound.lawful _ _ _ _ _ motion used c.in_ok-timers.ensures (omega (arith, c.places-needed.ensures)) c.in_ok-motion.ensures.value
    _ _ _ _ (Ok tt) c.if-self-ge-MOST_MOTIONS.false ((c.in_ok-motion.ensures.laid motion used).0 (refl {a = Ok (motion, used)})).fits c.work_motion-found.auto.table
    c.work_motion-found.ensures.finds c.work_motion-found.ensures.kept c.work_motion-found.ensures.beyond clean c.in_ok-settle.ensures.answer c.settle.ensures.after
