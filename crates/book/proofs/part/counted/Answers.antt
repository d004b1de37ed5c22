use Rattle.std.proofs.Common.{Ok, Err}
use Rattle.std.proofs.lemmas.Result.{err_from_is_err_and}
use Rattle.book.specs.Reads.{coming}
use Rattle.book.proofs.Counting.{all_counted}
use Rattle.book.proofs.part.counted.Goals as goal

pub returns-in_err-motion-items : goal.returns-in_err-motion-items
returns-in_err-motion-items c =
    let p = err_from_is_err_and c.from_residual.result c.from_residual.ensures.1 in
    rw (p.1, p.2) (all_counted c.args.book.now c.args.number (Err c.in_err-motion-items.field-0.0) c.in_err-motion-items.ensures)

pub loop-motion-init : goal.loop-motion-init
loop-motion-init c =
    let m = c.in_ok-motion-items.motion-items in
    (tt, tt, rw c.into_iter-motion-iterator.ensures.into_iter_gives (all_counted c.args.book.now c.args.number (Ok (m.head, coming m)) c.in_ok-motion-items.ensures))
