use Rattle.std.proofs.Common.{rules, ◌≡◌, ℕ, ◌^◌, ◌<◌, ◌≤◌, subst}
use Rattle.chart.specs.Charts.{held}
use Rattle.motions.specs.Star.{new_cell}
use Rattle.motions.proofs.Sized.{new_small}
use Rattle.motions.proofs.working.NewNow.sizes_fit.Goals as goal

pub returns-then-all_modest-clause-all : goal.returns-then-all_modest-clause-all
returns-then-all_modest-clause-all g c =
    let s = c.args.self.now in
    λ small zero e. new_small g.B.Bound.meaning g.met.B.Bound.lawful s.zero zero s.timers.count s.work.now (c.all_modest.ensures c.if-all_modest.true) (held s.motion.now) c.args.table.now.cells.now small

pub returns : goal.returns
returns g c =
    let m = g.B.Bound.meaning in
    let s = c.args.self.now in
    let New : ℕ → ℕ → g.row.B.Denot = new_cell m s.zero s.timers.count (held s.motion.now) c.args.table.now.cells.now s.work.now in
    record {
      all = λ _ _ e u v hu hv.
          let w = c.all_small.ensures.small e u v hu hv in
          let is : w.0 ≡ New u v = (let p = w.1 in search rules) in
          subst (λ b. m.size_of b ≤ 2 ^ 40) is w.2;
      one = λ e.
          let (u, v, hu, hv, b, p, large) = c.all_small.ensures.large e in
          let is : b ≡ New u v = search rules in
          (u, v, hu, hv, subst (λ b. 2 ^ 40 < m.size_of b) is large);
    }
