-- What a board holds where it stands for a chart. Assumes nothing.
use Rattle.std.specs.Prelude.{◌≡◌, ℕ, ◌<◌, ◌≤◌, ◌⊎◌, List, length, Ok, Err, Result, ◌≢◌}
use Rattle.bound.specs.Meaning.{Meaning}
use Rattle.chart.specs.declared.types.Timers.{Timers}
use Rattle.chart.specs.Charts.{Chart, ChartOf}
use Rattle.faults.specs.declared.types.BoardFault.{BoardFault}
use Rattle.faults.specs.declared.types.BoardFault.TheVariants as fault
use Rattle.runs.specs.Graph as graph
use Rattle.table.specs.Finds.{ChartTable}
use Rattle.board.specs.declared.board.Board.{Board}
use Rattle.board.specs.declared.header.Header.{Header}
use Rattle.board.specs.declared.header.State.{State}
use Rattle.board.specs.declared.header.State.TheVariants.{Blank, Runs, Never}
use Rattle.board.specs.Standing.{Standing, blank, charted}
use Rattle.board.specs.Calls.{places}

-- a board that runs has its chart's normalised table; the chart of a Never board has a closed chain that forbids 0, and nothing is said of its table
abbrev pub StateIs : {B : Type 0} → Meaning B → State → Timers → Chart → List B → Type 0
StateIs m Blank n c table = ⊥
StateIs m Runs n c table = ChartTable m n.count c table
StateIs m Never n c table = graph.Never m.differences n.count c

pub record Holds {B : Type 0} (m : Meaning B) (header : Header) (table : List B) (n : Timers) (c : Chart) : Type 0 where
  pub timers : header.timers ≡ n
  pub count : header.count ≡ length c
  pub room : places n.count ≤ length table
  pub fits : ChartOf n.count c
  pub state : StateIs m header.state n c table

abbrev pub StandsFor : {B : Type 0} → Meaning B → Header → List B → Standing → Type 0
StandsFor m header table blank = header.state ≡ Blank
StandsFor m header table (charted n c) = Holds m header table n c

-- what a board stands for, by its header and its table
abbrev pub Stands : {B : Type 0} → Meaning B → Board B → Standing → Type 0
Stands m board s = StandsFor m board.header board.table.now s

-- an opened board's timers, with a table of their places; else the board is Blank, or it has come by a table that is too short
abbrev pub TimersAre : Header → (room : ℕ) → Result Timers BoardFault → Type 0
TimersAre h room (Ok n) = (h.state ≢ Blank) × (h.timers ≡ n) × (places n.count ≤ room)
TimersAre h room (Err f) = ((h.state ≡ Blank) × (f ≡ fault.Blank)) ⊎ ((h.state ≢ Blank) × (room < places h.timers.count))
