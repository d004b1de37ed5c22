use Rattle.std.proofs.Common.{List, vec_items, subst}
use Rattle.board.specs.Standing.{Standing}
use Rattle.replay.specs.History.{Snapshot, Lawful}
use Rattle.replay.specs.Slots.{snapshot, all_blank, AllOwn}
use Rattle.replay.proofs.Histories.{from_blank}
use Rattle.replay.proofs.run.replay.Goals as goal

pub returns : goal.returns
returns g c =
    let m = g.B.Bound.meaning in
    let slots = c.args.slots.now in
    let works = c.args.works.now in
    let calls = c.args.calls.now in
    let answers = vec_items c.run.new.answers in
    subst (λ (from : Snapshot g.row.B.Denot). (charts : List Standing) × Lawful m from calls answers (snapshot charts c.run.new.slots c.run.new.works) × AllOwn m c.run.new.slots charts)
    (from_blank m slots c.empty_all.new.slots works c.empty_all.ensures) (c.run.ensures (all_blank slots) c.empty_all.ensures.blank)
