use Rattle.std.proofs.Common.{◌++◌, refl, ◌∙◌}
use Rattle.table.specs.Cells.{at}
use Rattle.table.proofs.ChartTables.{chart_table}
use Rattle.joins.proofs.JoinTables.{ends_small, ends_first, joined_good, joined_large, outer_small}
use Rattle.joins.proofs.joining.join.Goals as goal

pub returns-then-not-close : goal.returns-then-not-close
returns-then-not-close g c =
    let m = g.B.Bound.meaning in
    let n = c.args.timers.count in
    let table = c.args.table.now in
    let other = c.args.other.now in
    record {
      finds = λ a b good-a small-a good-b small-b of.
          c.close.ensures.never
          (ends_small m n table other c.lay_out.new.work c.lay_out.ensures.cells g.met.B.Bound.lawful small-a small-b)
          c.if-not-close.true a b table other
          (ends_first m n table other c.lay_out.new.work c.lay_out.ensures.cells g.met.B.Bound.lawful small-a small-b a b good-a good-b);
      kept = refl {a = table};
      beyond = λ i h. refl {a = at m table i};
      lent = λ i h. c.close.ensures.beyond i h ∙ c.lay_out.ensures.beyond i h;
    }

pub returns-then-not-all_small : goal.returns-then-not-all_small
returns-then-not-all_small g c =
    let m = g.B.Bound.meaning in
    let laws = g.met.B.Bound.lawful in
    let n = c.args.timers.count in
    let table = c.args.table.now in
    let other = c.args.other.now in
    record {
      finds = λ a b good-a small-a good-b small-b of.
          joined_large m laws n table other c.close.new.work a b good-a good-b of
          (c.close.ensures.closed (ends_small m n table other c.lay_out.new.work c.lay_out.ensures.cells laws small-a small-b) c.if-not-close.false a b table other
          (ends_first m n table other c.lay_out.new.work c.lay_out.ensures.cells laws small-a small-b a b good-a good-b))
          (c.all_small.ensures.large c.if-not-all_small.true);
      kept = refl {a = table};
      beyond = λ i h. refl {a = at m table i};
      lent = λ i h. c.close.ensures.beyond i h ∙ c.lay_out.ensures.beyond i h;
    }

pub returns : goal.returns
returns g c =
    let m = g.B.Bound.meaning in
    let laws = g.met.B.Bound.lawful in
    let n = c.args.timers.count in
    let table = c.args.table.now in
    let other = c.args.other.now in
    let next = c.take_out.new.table in
    record {
      finds = λ a b good-a small-a good-b small-b of.
          chart_table m laws n (a ++ b) next
          (joined_good m laws n table other c.close.new.work a b good-a good-b of
          (c.close.ensures.closed (ends_small m n table other c.lay_out.new.work c.lay_out.ensures.cells laws small-a small-b) c.if-not-close.false a b table other
          (ends_first m n table other c.lay_out.new.work c.lay_out.ensures.cells laws small-a small-b a b good-a good-b))
          next c.take_out.ensures.cells)
          (outer_small m n c.close.new.work next c.take_out.ensures.cells (c.all_small.ensures.small c.if-not-all_small.false));
      kept = tt;
      beyond = c.take_out.ensures.beyond;
      lent = λ i h. c.close.ensures.beyond i h ∙ c.lay_out.ensures.beyond i h;
    }
