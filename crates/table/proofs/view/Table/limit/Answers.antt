use Rattle.std.proofs.Common.{sym, subst}
use Rattle.runs.specs.Normal.{IsLimit}
use Rattle.table.proofs.LimitSums.{sum_read, limit_read}
use Rattle.table.proofs.TighterPlaces.{limit_at_is}
use Rattle.table.proofs.view.Table.limit.Goals as goal

pub returns : goal.returns
returns g c =
    let m = g.B.Bound.meaning in
    let n = c.args.self.now.timers.count in
    let table = c.args.self.now.cells.now in
    let name = c.args.name in
    let value = limit_read m n table name c.sum_or_open-straight.result c.sum_or_open-crossed.result c.keep_tighter.result
    (sum_read m _ _ _ _ _ c.read.ensures c.read-2.ensures c.sum_or_open-straight.ensures)
    (sum_read m _ _ _ _ _ c.read-3.ensures c.read-4.ensures c.sum_or_open-crossed.ensures)
    c.keep_tighter.ensures.value in
    record {
      value = value;
      is = λ small. subst (IsLimit m n table name) (sym value) (limit_at_is m g.met.B.Bound.lawful n table small name c.requires.parts);
    }
