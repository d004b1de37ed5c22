use Rattle.std.proofs.Common.{ℕ, Bool, true, cond, List, [], ◌++◌, codes, decimal, sym, ap, ◌∙◌, append-nil, arith, rules}
use Rattle.std.proofs.Output.{has_written_append, has_written_of_eq, has_written_to_eq}
use Rattle.chart.specs.Charts.{held}
use Rattle.chart.specs.Words.{separator, restarts_from}
use Rattle.chart.proofs.Told.{restarts_more, restarts_skip, restarts_end}
use Rattle.chart.proofs.words.RestartsDisplay.fmt.Goals as goal
use Rattle.chart.proofs.words.RestartsDisplay.fmt.Goals.{then-restarts+in_ok-write, else-restarts}

pub loop-timer-preserved : goal.loop-timer-preserved
loop-timer-preserved g c = λ plain.
    let so_far = c.loop-timer.invariant plain in
    let m = held c.args.self.now.0.now in
    let i = c.loop-timer.timer-counter in
    let first = c.loop-timer.first in
    let text = so_far.0 in
    let whole = restarts_from m 8 1 true in
    elim c.if-restarts.branch [
      | then-restarts+in_ok-write w ↦ (
        text ++ (separator first ++ (codes "timer " ++ decimal i)),
        has_written_to_eq _ _ _ _ _ w.f-is
            (has_written_append _ _ _ _ _ _ so_far.1 (has_written_of_eq _ _ _ _ _ (ap (λ (xs : List ℕ). xs ++ (codes "timer " ++ decimal i)) w.separator.ensures) (search rules))),
        rw w.first-is (restarts_more m i first text whole so_far.2 (omega arith) (sym c.restarts.ensures ∙ w.if-restarts.true)),
      )
      | else-restarts w ↦ (
        text,
        has_written_to_eq _ _ _ _ _ w.f-is so_far.1,
        rw w.first-is (restarts_skip m i first text whole so_far.2 (omega arith) (sym c.restarts.ensures ∙ w.if-restarts.false)),
      )
    ]

pub returns-then-first-clause-writes : goal.returns-then-first-clause-writes
returns-then-first-clause-writes g c = λ plain ok.
    let so_far = c.loop-timer.invariant plain in
    let m = held c.args.self.now.0.now in
    let end = restarts_end m c.loop-timer.timer-counter c.loop-timer.first so_far.0 (restarts_from m 8 1 true) so_far.2 (omega arith) in
    has_written_of_eq _ _ _ _ _ (ap (λ (b : Bool). so_far.0 ++ cond b (codes "none") []) (sym c.if-first.true) ∙ end) (has_written_append _ _ _ _ _ _ so_far.1 (search rules))

pub returns-else-first-clause-writes : goal.returns-else-first-clause-writes
returns-else-first-clause-writes g c = λ plain ok.
    let so_far = c.loop-timer.invariant plain in
    let m = held c.args.self.now.0.now in
    let end = restarts_end m c.loop-timer.timer-counter c.loop-timer.first so_far.0 (restarts_from m 8 1 true) so_far.2 (omega arith) in
    has_written_of_eq _ _ _ _ _ (sym (append-nil so_far.0) ∙ ap (λ (b : Bool). so_far.0 ++ cond b (codes "none") []) (sym c.if-first.false) ∙ end) so_far.1
