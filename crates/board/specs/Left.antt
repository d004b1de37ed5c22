-- What calls leave in the tables that they are lent. Assumes nothing.
use Rattle.std.specs.Prelude.{◌≡◌, ℕ, ◌<◌, ◌⊎◌, List, Ok, Err, Result}
use Rattle.bound.specs.Meaning.{Meaning}
use Rattle.faults.specs.declared.types.BoardFault.{BoardFault}
use Rattle.faults.specs.declared.types.BoardFault.TheVariants as fault
use Rattle.runs.specs.Runs.{HasRun}
use Rattle.runs.specs.Normal.{Normalised}
use Rattle.table.specs.Cells.{at, Beyond}
use Rattle.board.specs.Standing.{Standing, blank, charted}
use Rattle.board.specs.Calls.{places, work_places}

-- the first places hold open, and the others what they held
pub record Cleared {B : Type 0} (m : Meaning B) (count : ℕ) (before after : List B) : Type 0 where
  pub opened : (i : ℕ) → i < count → at m after i ≡ m.opened
  pub others : Beyond m count before after

-- the table of a board whose chart has become c: where c runs, its normalised table, with nothing changed behind it; else what it held
abbrev pub TableOf : {B : Type 0} → Meaning B → Standing → (before after : List B) → Type 0
TableOf m blank before after = after ≡ before
TableOf m (charted n c) before after =
    (HasRun m.differences n.count c × Normalised m n.count c after × Beyond m (places n.count) before after)
    ⊎ ((HasRun m.differences n.count c → ⊥) × (after ≡ before))

-- after an open, a motion or a join: `s` is what the board stands for if the call is accepted; a refused call changes nothing
abbrev pub TableLeft : {B T : Type 0} → Meaning B → Standing → (before after : List B) → Result T BoardFault → Type 0
TableLeft m s before after (Ok x) = TableOf m s before after
TableLeft m s before after (Err f) = after ≡ before

-- a work table after a motion or a join of a board of that many places: cleared, unless the call is refused by another refusal than that of sizes
abbrev pub RefusedWork : {B : Type 0} → Meaning B → ℕ → (before after : List B) → BoardFault → Type 0
RefusedWork m count before after fault.Blank = after ≡ before
RefusedWork m count before after fault.Timers = after ≡ before
RefusedWork m count before after fault.Table = after ≡ before
RefusedWork m count before after fault.Differ = after ≡ before
RefusedWork m count before after fault.Work = after ≡ before
RefusedWork m count before after fault.Count = after ≡ before
RefusedWork m count before after fault.Size = Cleared m count before after
RefusedWork m count before after fault.Never = after ≡ before
RefusedWork m count before after fault.Name = after ≡ before
RefusedWork m count before after (fault.Motion e) = after ≡ before

abbrev pub work_of : Standing → ℕ
work_of blank = 0
work_of (charted n c) = work_places n.count

abbrev pub WorkLeft : {B T : Type 0} → Meaning B → Standing → (before after : List B) → Result T BoardFault → Type 0
WorkLeft m s before after (Ok x) = Cleared m (work_of s) before after
WorkLeft m s before after (Err f) = RefusedWork m (work_of s) before after f
