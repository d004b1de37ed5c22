-- A good table with small sizes is its chart's. Assumes nothing.
use Rattle.std.proofs.Common.{ℕ, ◌+◌, ◌*◌, List}
use Rattle.bound.specs.Meaning.{Meaning, Laws}
use Rattle.chart.specs.Charts.{Chart}
use Rattle.runs.specs.Good.{Good}
use Rattle.runs.specs.Normal.{table_of}
use Rattle.runs.proofs.GoodRuns.{has_run}
use Rattle.runs.proofs.GoodLimits.{normalised}
use Rattle.table.specs.Cells.{Small}
use Rattle.table.specs.Finds.{ChartTable}

pub chart_table : {B : Type 0} (m : Meaning B) (laws : Laws m) (n : ℕ) (c : Chart) (table : List B) → Good m.differences n c (table_of m n table) → Small m (2 * n + 2) table → ChartTable m n c table
chart_table m laws n c table good small =
    record { runs = has_run laws.ordered n c (table_of m n table) good; normalised = normalised m laws n c table good; good = good; small = small }
