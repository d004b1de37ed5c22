use Rattle.std.proofs.Common.{refl}
use Rattle.replay.proofs.Serving.{serves_as, open_serves, motion_serves, runs_told, counted, limited, spanned, join_serves, within_serves}
use Rattle.replay.proofs.steps.step.Goals as goal

pub returns-in_ok-slot-in-Open : goal.returns-in_ok-slot-in-Open
returns-in_ok-slot-in-Open g c =
    let slot = c.in_ok-slot-in-Open.ensures in
    serves_as g.B.Bound.meaning _ _ _ _ _ _ _ c.in-Open.is (open_serves g.B.Bound.meaning _ _ _ _ _ (slot.inside.0 refl) slot.item _ _ c.open.ensures.answer c.open.ensures.stands c.open.ensures.table)

pub returns-in_ok-lent-in-Motion : goal.returns-in_ok-lent-in-Motion
returns-in_ok-lent-in-Motion g c =
    let slot = c.in_ok-slot-in-Motion.ensures in
    let lent = c.in_ok-lent-in-Motion.ensures in
    let done = rw c.as_slice.ensures.value at c.motion.ensures in
    serves_as g.B.Bound.meaning _ _ _ _ _ _ _ c.in-Motion.is (motion_serves g.B.Bound.meaning _ _ _ _ _ (slot.inside.0 refl) slot.item _ _ _ (lent.inside.0 refl) lent.item c.in-Motion.bytes _ done)

pub returns-in_ok-lent-in-Join : goal.returns-in_ok-lent-in-Join
returns-in_ok-lent-in-Join g c =
    let two = c.are_two.ensures.0 c.if-not-are_two.false in
    let lent = c.in_ok-lent-in-Join.ensures in
    let both = c.both-slot.ensures in
    serves_as g.B.Bound.meaning _ _ _ _ _ _ _ c.in-Join.is (join_serves g.B.Bound.meaning _ _ _ _ _ _ _ _ two.0 two.1 two.2 both.first both.second c.join.ensures.same _ _ _ (lent.inside.0 refl) lent.item _ c.join.ensures.done)

pub returns-in_ok-slot-in-Runs : goal.returns-in_ok-slot-in-Runs
returns-in_ok-slot-in-Runs g c =
    let slot = c.in_ok-slot-in-Runs.ensures in
    serves_as g.B.Bound.meaning _ _ _ _ _ _ _ c.in-Runs.is (runs_told g.B.Bound.meaning _ _ _ _ _ (slot.inside.0 refl) slot.item c.runs.ensures.same _ c.runs.ensures.answer)

pub returns-in_ok-slot-in-Count : goal.returns-in_ok-slot-in-Count
returns-in_ok-slot-in-Count g c =
    let slot = c.in_ok-slot-in-Count.ensures in
    serves_as g.B.Bound.meaning _ _ _ _ _ _ _ c.in-Count.is (counted g.B.Bound.meaning _ _ _ _ _ (slot.inside.0 refl) slot.item c.count.ensures.same _ c.count.ensures.answer)

pub returns-else-not-are_two-2 : goal.returns-else-not-are_two-2
returns-else-not-are_two-2 g c =
    let two = c.are_two-in-Within.ensures.0 c.if-not-are_two-2.false in
    let both = c.both-slot-in-Within.ensures in
    serves_as g.B.Bound.meaning _ _ _ _ _ _ _ c.in-Within.is (within_serves g.B.Bound.meaning _ _ _ _ _ _ _ _ two.0 two.1 two.2 both.first both.second c.within.ensures.other _ c.within.ensures.same c.within.ensures.answer)

pub returns-in_ok-slot-in-Limit : goal.returns-in_ok-slot-in-Limit
returns-in_ok-slot-in-Limit g c =
    let slot = c.in_ok-slot-in-Limit.ensures in
    serves_as g.B.Bound.meaning _ _ _ _ _ _ _ c.in-Limit.is (limited g.B.Bound.meaning _ _ _ _ _ (slot.inside.0 refl) slot.item c.limit.ensures.same _ _ c.limit.ensures.answer)

pub returns-in_ok-slot-in-Span : goal.returns-in_ok-slot-in-Span
returns-in_ok-slot-in-Span g c =
    let slot = c.in_ok-slot-in-Span.ensures in
    serves_as g.B.Bound.meaning _ _ _ _ _ _ _ c.in-Span.is (spanned g.B.Bound.meaning _ _ _ _ _ (slot.inside.0 refl) slot.item c.span.ensures.same _ c.span.ensures.answer)
