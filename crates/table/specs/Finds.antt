-- What the working finds, in the words of charts: a chart's table stood before, and a longer chart is asked for. Assumes nothing.
use Rattle.std.specs.Prelude.{◌≡◌, ℕ, ◌+◌, ◌*◌, List}
use Rattle.bound.specs.Meaning.{Meaning}
use Rattle.chart.specs.Charts.{Chart}
use Rattle.runs.specs.Runs.{HasRun}
use Rattle.runs.specs.Graph as graph
use Rattle.runs.specs.Good.{Good}
use Rattle.runs.specs.Normal as normal
use Rattle.runs.specs.Normal.{table_of}
use Rattle.table.specs.declared.found.Found.{Found}
use Rattle.table.specs.declared.found.Found.TheVariants.{Runs, Never, Large}
use Rattle.table.specs.Cells.{Small}

-- the chart has a run, and the table is its normalised table, good to go on from, with no size above 2^40
pub record ChartTable {B : Type 0} (m : Meaning B) (n : ℕ) (c : Chart) (table : List B) : Type 0 where
  pub runs : HasRun m.differences n c
  pub normalised : normal.Normalised m n c table
  pub good : Good m.differences n c (table_of m n table)
  pub small : Small m (2 * n + 2) table

module _ {B : Type 0} (m : Meaning B) (n : ℕ) (longer : Chart) where
  -- the table is the longer chart's; or that chart never runs; or it runs and a size in its normalised table is above 2^40
  abbrev pub Finds : (after : List B) → Found → Type 0
  Finds after Runs = ChartTable m n longer after
  Finds after Never = graph.Never m.differences n longer
  Finds after Large = HasRun m.differences n longer × normal.Large m n longer

-- unless the table is the longer chart's, it stays as it was
abbrev pub Kept : {B : Type 0} → (before after : List B) → Found → Type 0
Kept before after Runs = Unit {0}
Kept before after Never = after ≡ before
Kept before after Large = after ≡ before
