use Rattle.std.proofs.Common.{◌≡◌, ℕ, ◌<◌}
use Rattle.motions.specs.Star.{best_of}
use Rattle.motions.proofs.star.tightest.Given as goal

abbrev pub invariant-loop-i : goal.invariant-loop-i
invariant-loop-i g l =
    let B = g.row.B.Denot in
    (f h : ℕ → B) → ((i : ℕ) (b : B) → i < l.count → goal.F-post g l.first i b → b ≡ f i) → ((i : ℕ) (b : B) → i < l.count → goal.G-post g l.second i b → b ≡ h i)
    → l.best ≡ best_of g.B.Bound.meaning f h l.i
