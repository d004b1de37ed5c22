use Rattle.std.proofs.Common.{ℕ, ◌<◌, ◌≤◌, arith, below_more}
use Rattle.table.proofs.filling.all_small.Goals as goal

pub loop-v-preserved : goal.loop-v-preserved
loop-v-preserved g c =
    let Here = λ (v : ℕ). (b : g.row.B.Denot) × goal.F-post g c.args.cell c.loop-u.u v b × (g.B.Bound.meaning.size_of b ≤ c.args.most) in
    below_more Here c.loop-v.v c.loop-v.invariant (c.cell.result, c.cell.ensures, omega (arith, c.size.ensures, c.if-size-most.false))

pub loop-u-preserved : goal.loop-u-preserved
loop-u-preserved g c =
    let Row = λ (u : ℕ). (v : ℕ) → v < c.args.side → (b : g.row.B.Denot) × goal.F-post g c.args.cell u v b × (g.B.Bound.meaning.size_of b ≤ c.args.most) in
    λ u v hu hv. below_more Row c.loop-u.u (λ w hw x hx. c.loop-u.invariant w x hw hx) (λ x hx. c.loop-v.invariant x (omega arith)) u hu v hv

pub returns-clause-small : goal.returns-clause-small
returns-clause-small g c = λ _ u v hu hv. c.loop-u.invariant u v (omega arith) hv
