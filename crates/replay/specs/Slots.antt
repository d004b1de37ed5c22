-- Boards with tables of their own, while no call is made. Assumes nothing.
use Rattle.std.specs.Prelude.{◌≡◌, ℕ, ◌<◌, List, map, length, vec_items, Vec, slice_index_or}
use Rattle.std.specs.declared.alloc.Global.{Global}
use Rattle.bound.specs.Meaning.{Meaning}
use Rattle.board.specs.Standing.{Standing, blank}
use Rattle.board.specs.Holding.{StandsFor}
use Rattle.replay.specs.declared.slots.Slot.{Slot}
use Rattle.replay.specs.declared.calls.Call.{Call}
use Rattle.replay.specs.declared.calls.Answer.{Answer}
use Rattle.replay.specs.History.{Snapshot, standing, after, accepted, Step, Lawful}

module _ {B : Type 0} where
  abbrev pub items : Slot B → List B
  items slot = vec_items slot.table

  -- the board and its table are as they were
  abbrev pub Same : Slot B → Slot B → Type 0
  Same before after = (after.header ≡ before.header) × (items after ≡ items before)

  -- the boards and work tables, with the charts that the boards stand for
  abbrev pub snapshot : List Standing → List (Slot B) → List (Vec B Global) → Snapshot B
  snapshot charts slots works = record { charts = charts; tables = map items slots; works = map vec_items works }

  -- boards just made
  abbrev pub all_blank : List (Slot B) → List Standing
  all_blank slots = map (λ slot. blank) slots

module _ {B : Type 0} (m : Meaning B) where
  -- the board stands for a chart
  abbrev pub Owns : Slot B → Standing → Type 0
  Owns slot s = StandsFor m slot.header (items slot) s

  -- each board stands for its chart
  pub record AllOwn (slots : List (Slot B)) (charts : List Standing) : Type 0 where
    pub many : length slots ≡ length charts
    pub each : (i : ℕ) (d : Slot B) → i < length slots → Owns (slice_index_or slots i d) (standing charts i)

  -- every board is Blank, on the table that it had
  pub record Emptied (before after : List (Slot B)) : Type 0 where
    pub tables : map items after ≡ map items before
    pub blank : AllOwn after (all_blank before)

  -- one call on boards that stand for charts, which stand for the charts that follow
  abbrev pub Serves : Call → Answer B → (slots : List (Slot B)) (works : List (Vec B Global)) → (slots' : List (Slot B)) (works' : List (Vec B Global)) → Type 0
  Serves c a slots works slots' works' =
      (charts : List Standing) → AllOwn slots charts
      → Step m (snapshot charts slots works) (snapshot (after charts c (accepted a)) slots' works') c a × AllOwn slots' (after charts c (accepted a))

  -- all calls
  abbrev pub ServesAll : List Call → List (Answer B) → (slots : List (Slot B)) (works : List (Vec B Global)) → (slots' : List (Slot B)) (works' : List (Vec B Global)) → Type 0
  ServesAll calls answers slots works slots' works' =
      (charts : List Standing) → AllOwn slots charts
      → (charts' : List Standing) × Lawful m (snapshot charts slots works) calls answers (snapshot charts' slots' works') × AllOwn slots' charts'
