use Rattle.std.proofs.Common.{◌≡◌, Some, None, arith}
use Rattle.std.proofs.lemmas.Grind.{common_steps}
use Rattle.std.proofs.lemmas.Result.{err_from_is_err_and}
use Rattle.chart.specs.Ranges.{timers_of}
use Rattle.faults.specs.declared.types.BoardFault.TheVariants as fault
use Rattle.board.proofs.Opening.{other_number, short_table, accepted}
use Rattle.board.proofs.board.Board.open.Goals as goal

pub returns-in_err-timers-clause-answer : goal.returns-in_err-timers-clause-answer
returns-in_err-timers-clause-answer g c =
    let p = err_from_is_err_and c.from_residual.result c.from_residual.ensures.1 in
    let is : None ≡ timers_of c.args.n = grind (arith, common_steps) in
    let told : c.in_err-timers.field-0.0 ≡ fault.Timers = grind (arith, common_steps) in
    rw (p.1, p.2, told) (other_number _ _ is)

pub returns-then-self-places-clause-answer : goal.returns-then-self-places-clause-answer
returns-then-self-places-clause-answer g c =
    let is : Some c.in_ok-timers.timers ≡ timers_of c.args.n = grind (arith, common_steps) in
    short_table _ _ _ is (omega (arith, c.places.ensures))

pub returns-clause-answer : goal.returns-clause-answer
returns-clause-answer g c =
    let is : Some c.in_ok-timers.timers ≡ timers_of c.args.n = grind (arith, common_steps) in
    accepted _ _ _ is (omega (arith, c.places.ensures))
