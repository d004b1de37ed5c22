use Rattle.std.proofs.Common.{◌≡◌, take, vec_items, vec_len, vec_capacity}
use Rattle.replay.specs.Slots.{ServesAll}
use Rattle.replay.proofs.run.run.Given as goal

abbrev pub invariant-loop-call : goal.invariant-loop-call
invariant-loop-call g l =
    ServesAll g.B.Bound.meaning (take l.call-index l.calls) (vec_items l.answers) l.initial.slots l.initial.works l.slots l.works
    × (vec_len l.answers ≡ l.call-index) × (vec_capacity l.answers ≡ vec_capacity l.initial.answers)
