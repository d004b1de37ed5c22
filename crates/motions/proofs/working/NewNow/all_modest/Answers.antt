use Rattle.std.proofs.Common.{◌≡◌, ℕ, ◌+◌, ◌*◌, ◌^◌, ◌≤◌, ◌-◌, drop, ap, ◌∙◌, subst, length-take-le, length-drop, arith}
use Rattle.std.proofs.lemmas.List.{get_or-take, get_or-drop}
use Rattle.table.specs.Cells.{at}
use Rattle.motions.proofs.working.NewNow.all_modest.Goals as goal

pub returns : goal.returns
returns g c = λ e i low high.
    let m = g.B.Bound.meaning in
    let work = c.args.self.now.work.now in
    let side : ℕ = 2 * c.args.self.now.timers.count + 2 in
    let count : ℕ = 3 * side - side in
    let back : side + (i - side) ≡ i = omega arith in
    let same = get_or-take count (drop side work) (i - side) m.opened (omega arith) ∙ get_or-drop side work (i - side) m.opened ∙ ap (at m work) back in
    subst (λ b. m.size_of b ≤ 2 ^ 39) same (c.modest.ensures e (i - side) (omega (arith, length-take-le count (drop side work), length-drop side work, c.args.self.now.room)))
