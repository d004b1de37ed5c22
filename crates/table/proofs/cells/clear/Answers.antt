use Rattle.std.proofs.Common.{rules, ◌≡◌, length, take, ◌∙◌, length-take-le, arith}
use Rattle.std.proofs.lemmas.List.{get_or_append_left}
use Rattle.table.proofs.cells.clear.Goals as goal

pub returns-clause-cleared : goal.returns-clause-cleared
returns-clause-cleared g c = λ i h.
    let taken : length (take c.args.count c.args.table.now) ≡ c.args.count = length-take-le c.args.count c.args.table.now c.requires in
    get_or_append_left c.fill_row.new.row _ g.B.Bound.meaning.opened i (omega (arith, taken))
    ∙ (let p = c.fill_row.ensures.row i (omega (arith, taken)) in search rules)
