use Rattle.std.proofs.Common.{List, sym, subst₂, rules}
use Rattle.board.specs.declared.header.Header.{Header}
use Rattle.board.specs.Holding.{StandsFor}
use Rattle.replay.proofs.on.join_on.Goals as goal

pub returns-clause-done : goal.returns-clause-done
returns-clause-done g c = λ s t p q.
    let Stand : Header → List g.row.B.Denot → Type 0 = λ h x. StandsFor g.B.Bound.meaning h x s in
    let Stand' : Header → List g.row.B.Denot → Type 0 = λ h x. StandsFor g.B.Bound.meaning h x t in
    let first = c.resume-board.ensures in
    let second = c.resume-second.ensures in
    let d = c.join-r.ensures.done s t (subst₂ Stand (sym first.header) (sym first.same) p) (subst₂ Stand' (sym second.header) (sym second.same) q) in
    search rules
