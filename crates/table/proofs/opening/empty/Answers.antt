use Rattle.std.proofs.Common.{rules, ◌+◌, ◌*◌, [], subst}
use Rattle.table.specs.Cells.{Rows, empty_cell}
use Rattle.table.proofs.ChartTables.{chart_table}
use Rattle.table.proofs.EmptyTables.{good, small}
use Rattle.table.proofs.opening.empty.Goals as goal

pub returns : goal.returns
returns g c =
    let m = g.B.Bound.meaning in
    let laws = g.met.B.Bound.lawful in
    let n = c.args.timers.count in
    let z = c.zero-zero.result in
    let t = c.fill.new.table in
    let rows : Rows m (2 * n + 2) (2 * n + 2) (empty_cell m z n) t = λ u v hu hv. (let p = c.fill.ensures.cells u v hu hv in search rules) in
    record {
      cells = λ zero e. subst (λ x. Rows m (2 * n + 2) (2 * n + 2) (empty_cell m x n) t) (cc (c.zero-zero.ensures, e)) rows;
      its = chart_table m laws n [] t (good m laws z c.zero-zero.ensures n t rows) (small m laws z c.zero-zero.ensures n t rows);
      beyond = c.fill.ensures.beyond;
    }
