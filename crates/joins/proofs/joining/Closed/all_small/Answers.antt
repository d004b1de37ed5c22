use Rattle.std.proofs.Common.{rules, ◌≡◌, ℕ, ◌^◌, ◌<◌, ◌≤◌, subst}
use Rattle.joins.specs.Joins.{outer_cell}
use Rattle.joins.proofs.joining.Closed.all_small.Goals as goal

pub returns : goal.returns
returns g c =
    let m = g.B.Bound.meaning in
    let s = c.args.self.now in
    let Outer : ℕ → ℕ → g.row.B.Denot = outer_cell m s.timers.count s.work.now in
    record {
      small = λ e u hu v hv.
          let w = c.all_small.ensures.small e u v hu hv in
          let is : w.0 ≡ Outer u v = (let p = w.1 in search rules) in
          subst (λ b. m.size_of b ≤ 2 ^ 40) is w.2;
      large = λ e.
          let (u, v, hu, hv, b, p, above) = c.all_small.ensures.large e in
          let is : b ≡ Outer u v = search rules in
          (u, hu, (v, hv, subst (λ b. 2 ^ 40 < m.size_of b) is above));
    }
