use Rattle.std.proofs.Common.{◌≡◌, length, List, ◌∷◌, ◌<◌, sym, arith}
use Rattle.chart.specs.Charts.{held}
use Rattle.book.proofs.Counting.{coming_end, coming_next, coming_fault}
use Rattle.book.proofs.reading.MotionsIterator.next.Goals as goal

fewer : {A : Type 0} (xs ys : List A) (x : A) → xs ≡ x ∷ ys → length ys < length xs
fewer xs ys x e = rw e (omega arith)

pub returns-then-self-end-clause-steps : goal.returns-then-self-end-clause-steps
returns-then-self-end-clause-steps c =
    let m = c.args.self.now in
    let e = coming_end m.chart m.start m.head.timers m.part.now m.at m.number (omega arith) in (e, e)

pub returns-in-Ok : goal.returns-in-Ok
returns-in-Ok c =
    let m = c.args.self.now in
    let e = coming_next m.chart m.start m.head.timers m.part.now m.at m.number m.few (omega arith) (held c.in-Ok.motion) c.in-Ok.used (sym (c.in-Ok.ensures)) in
    record { steps = e; goes = record { on = λ _. (tt, tt, fewer _ _ _ e); keeps = tt; rests = λ _. tt } }

pub returns-in-Err : goal.returns-in-Err
returns-in-Err c =
    let m = c.args.self.now in
    let e = coming_fault m.chart m.start m.head.timers m.part.now m.at m.number m.few (omega arith) c.in-Err.fault (sym (c.in-Err.ensures)) in
    record { steps = rw c.into.ensures e; goes = record { on = λ _. (tt, tt, fewer _ _ _ e); keeps = tt; rests = λ _. tt } }
