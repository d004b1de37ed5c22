use Rattle.std.proofs.Common.{◌≡◌, ℕ, ◌+◌, ◌*◌, refl, ◌∙◌, subst, arith}
use Rattle.bound.specs.Meaning.{AllowsZero}
use Rattle.runs.specs.Joining.{JoiningBounds}
use Rattle.runs.specs.Normal.{table_of}
use Rattle.table.specs.Cells.{at, cell}
use Rattle.joins.proofs.Middles.{middle_none, next_never, middle_more}
use Rattle.joins.proofs.joining.close.Goals as goal

pub loop-k-init : goal.loop-k-init
loop-k-init g c =
    let m = g.B.Bound.meaning in
    let before = c.args.work.now in
    (middle_none m g.met.B.Bound.lawful c.args.timers.count c.args.timers.most before, λ i h. refl {a = at m before i})

pub loop-k-preserved : goal.loop-k-preserved
loop-k-preserved g c =
    let m = g.B.Bound.meaning in
    let p = c.args.timers.count + 1 + c.loop-k.k in (
      λ small. middle_more m g.met.B.Bound.lawful c.args.timers.count c.args.timers.most c.args.work.now c.loop-k.k (omega arith) c.loop-k.work (c.loop-k.invariant.0 small) c.pivot.new.work
          (subst (λ b. AllowsZero m b) {y = cell m (3 * c.args.timers.count + 3) c.loop-k.work p p} c.read.ensures (c.allows_zero.ensures.yes c.if-not-allows_zero.false)) c.pivot.ensures.cells c.pivot.ensures.beyond,
      λ i h. c.pivot.ensures.beyond i h ∙ c.loop-k.invariant.1 i h,
    )

pub returns-then-not-allows_zero : goal.returns-then-not-allows_zero
returns-then-not-allows_zero g c =
    let m = g.B.Bound.meaning in
    record {
      closed = λ _ e. let z : ◌≡◌ {A = ℕ} 0 1 = cc in absurd (omega arith);
      never = λ small _. next_never m g.met.B.Bound.lawful c.args.timers.count c.args.timers.most c.args.work.now c.loop-k.k (omega arith) c.loop-k.work (c.loop-k.invariant.0 small)
          (subst (λ b. (AllowsZero m b → ⊥)) c.read.ensures (c.allows_zero.ensures.no c.if-not-allows_zero.true));
      beyond = c.loop-k.invariant.1;
    }

pub returns : goal.returns
returns g c =
    let m = g.B.Bound.meaning in
    let n = c.args.timers.count in
    record {
      closed = λ small _ a b first second j.
          subst (λ (k : ℕ). JoiningBounds m n a b (table_of m n first) (table_of m n second) k (cell m (3 * n + 3) c.loop-k.work)) (omega arith)
          ((c.loop-k.invariant.0 small).joining a b first second j);
      never = λ _ e. let z : ◌≡◌ {A = ℕ} 0 1 = cc in absurd (omega arith);
      beyond = c.loop-k.invariant.1;
    }
