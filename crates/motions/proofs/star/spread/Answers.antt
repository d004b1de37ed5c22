use Rattle.std.proofs.Common.{rules, ◌≡◌, ℕ, ◌+◌, ◌*◌, ◌<◌, ◌++◌, length, take, drop, sym, ap, ◌∙◌, subst, arith}
use Rattle.std.proofs.lemmas.List.{length-take-le}
use Rattle.table.specs.Cells.{at}
use Rattle.motions.specs.Star.{to_new, from_new, SpreadTo}
use Rattle.motions.proofs.Stars.{spread_parts}
use Rattle.motions.proofs.star.spread.Goals as goal

pub returns : goal.returns
returns g c =
    let m = g.B.Bound.meaning in
    let n = c.args.table.now.timers.count in
    let table = c.args.table.now.cells.now in
    let side : ℕ = 2 * n + 2 in
    let direct = c.split_at_mut-direct.result.0.now in
    let before = c.split_at_mut-into.result.0.now in
    let tail = c.split_at_mut-into.result.1.now in
    let into = c.fill_row.new.row in
    let out = c.fill_row-2.new.row in
    let taken : length (take side tail) ≡ side = length-take-le side tail (omega arith) in
    let rows : (u : ℕ) → u < side → at m into u ≡ to_new m n table direct u = λ u h. (let p = c.fill_row.ensures.row u (omega arith) in search rules) in
    let columns : (v : ℕ) → v < side → at m out v ≡ from_new m n table direct v = λ v h. (let p = c.fill_row-2.ensures.row v (omega (arith, taken)) in search rules) in
    subst (λ w. SpreadTo m n table w (direct ++ (into ++ (out ++ drop side tail)))) (sym (c.split_at_mut-direct.ensures.value ∙ ap (λ r. direct ++ r) c.split_at_mut-into.ensures.value))
    (spread_parts m n table direct before tail into out c.split_at_mut-direct.ensures.front_len c.split_at_mut-into.ensures.front_len
    (c.fill_row.ensures.len ∙ c.split_at_mut-into.ensures.front_len) (c.fill_row-2.ensures.len ∙ taken) rows columns)
