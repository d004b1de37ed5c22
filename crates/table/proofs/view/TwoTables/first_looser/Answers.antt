use Rattle.table.proofs.TighterPlaces.{tighter_under}
use Rattle.table.proofs.view.TwoTables.first_looser.Goals as goal

pub returns-then-all_tighter : goal.returns-then-all_tighter
returns-then-all_tighter g c =
    λ small small'. tighter_under g.B.Bound.meaning g.met.B.Bound.lawful c.args.self.now.timers.count c.args.self.now.first.now c.args.self.now.second.now small small' (c.all_tighter.ensures.yes c.if-all_tighter.true)
