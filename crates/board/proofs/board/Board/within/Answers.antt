use Rattle.std.proofs.Common.{◌≡◌, refl, rules, arith}
use Rattle.std.proofs.lemmas.Grind.{common_steps}
use Rattle.std.proofs.lemmas.Result.{err_from_is_err_and}
use Rattle.board.specs.declared.header.State.TheVariants.{Runs, Never}
use Rattle.board.proofs.Telling.{within_refused, within_never, within_no_limit, within_told}
use Rattle.board.proofs.board.Board.within.Goals as goal

pub returns-in_err-timers : goal.returns-in_err-timers
returns-in_err-timers g c =
    let p = err_from_is_err_and c.from_residual.result c.from_residual.ensures.1 in
    rw (p.1, p.2) (λ s t st st'. within_refused g.B.Bound.meaning s t _ (c.in_err-timers.ensures s t st st'))

pub returns-then-eq : goal.returns-then-eq
returns-then-eq g c =
    let is : c.args.self.now.header.state ≡ Never = search rules in
    within_never g.B.Bound.meaning g.met.B.Bound.lawful _ _ _ _ _ _ c.in_ok-timers.ensures.0 c.in_ok-timers.ensures.1 refl is

pub returns-then-eq-2 : goal.returns-then-eq-2
returns-then-eq-2 g c =
    let is : c.args.self.now.header.state ≡ Runs = grind (arith, common_steps, c.in_ok-timers.ensures.0) in
    let its : c.args.other.now.header.state ≡ Never = search rules in
    within_no_limit g.B.Bound.meaning g.met.B.Bound.lawful _ _ _ _ _ _ c.in_ok-timers.ensures.0 c.in_ok-timers.ensures.1 refl is its

pub returns : goal.returns
returns g c =
    let is : c.args.self.now.header.state ≡ Runs = grind (arith, common_steps, c.in_ok-timers.ensures.0) in
    let its : c.args.other.now.header.state ≡ Runs = grind (arith, common_steps, c.in_ok-timers.ensures.1) in
    within_told g.B.Bound.meaning g.met.B.Bound.lawful _ _ _ _ _ _ c.in_ok-timers.ensures.0 c.in_ok-timers.ensures.1 refl is its _ c.first_looser.ensures
