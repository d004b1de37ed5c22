use Rattle.std.proofs.Common.{rules, ℕ, arith}
use Rattle.std.proofs.lemmas.Iterator.{cases_from_all, YieldsList-from_range}
use Rattle.motions.specs.Star.{TripAllows, StarFits}
use Rattle.motions.proofs.Ranges.{Tested, tested_yes, tested_no}
use Rattle.motions.proofs.working.NewNow.passes.Goals as goal

pub returns : goal.returns
returns g c =
    let m = g.B.Bound.meaning in
    let n = c.args.self.now.timers.count in
    let work = c.args.self.now.work.now in
    let Yes : ℕ → Type 0 = λ i. StarFits m n work → TripAllows m n work i in
    let No : ℕ → Type 0 = λ i. StarFits m n work → TripAllows m n work i → ⊥ in
    let cases : Tested Yes No n c.all.result = cases_from_all _ _ _ Yes No c.all.ensures.ran (YieldsList-from_range 0 n n (cc) (omega arith)) (λ x q k. search rules) (λ x q k. search rules) in
    record {
      all = λ fits e i h. tested_yes Yes No n c.all.result cases e i h fits;
      one = λ fits e. let w = tested_no Yes No n c.all.result cases e in (w.0, w.1, w.2 fits);
    }
