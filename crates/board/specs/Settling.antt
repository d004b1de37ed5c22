-- What becomes of a board's header by its state and by what the working finds. Assumes nothing.
use Rattle.std.specs.Prelude.{ℕ, ◌+◌, Ok, Err, Result}
use Rattle.faults.specs.declared.types.BoardFault.{BoardFault}
use Rattle.faults.specs.declared.types.BoardFault.TheVariants as fault
use Rattle.table.specs.declared.found.Found.{Found}
use Rattle.table.specs.declared.found.Found.TheVariants as found
use Rattle.board.specs.declared.header.Header.{Header}
use Rattle.board.specs.declared.header.State.{State}
use Rattle.board.specs.declared.header.State.TheVariants as state

-- the answer
abbrev pub settle_answer : State → Found → Result (Unit {0}) BoardFault
settle_answer state.Blank f = Err fault.Blank
settle_answer state.Runs found.Runs = Ok tt
settle_answer state.Runs found.Never = Ok tt
settle_answer state.Runs found.Large = Err fault.Size
settle_answer state.Never f = Ok tt

abbrev pub grown : Header → State → ℕ → Header
grown h s more = record { state = s; timers = h.timers; count = h.count + more }

-- the header afterwards, where the chart grows by `more` motions
abbrev pub settled_by : State → Found → Header → ℕ → Header
settled_by state.Blank f h more = h
settled_by state.Runs found.Runs h more = grown h state.Runs more
settled_by state.Runs found.Never h more = grown h state.Never more
settled_by state.Runs found.Large h more = h
settled_by state.Never f h more = grown h state.Never more
