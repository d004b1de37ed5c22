-- The promise about any sequence of calls on any boards of one kind: the charts follow from the calls' arguments and from which calls were
-- accepted, and every call answers what the charts at its time say and leaves in the tables what they say. Assumes nothing.
use Rattle.std.specs.Prelude.{◌≡◌, ℕ, ◌<◌, Bool, false, cond, ◌⊎◌, List, [], ◌∷◌, length, is_ok, vec_items, Option, Result, ◌≢◌, slice_index_or, slice_set}
use Rattle.bound.specs.Meaning.{Meaning}
use Rattle.faults.specs.declared.types.BoardFault.{BoardFault}
use Rattle.runs.specs.Limits.{Name}
use Rattle.board.specs.Standing.{Standing, blank, opened, moved, joined}
use Rattle.board.specs.Calls.{OpenIs, MotionIs, JoinIs, RunsIs, CountIs, WithinIs, LimitIs, SpanIs}
use Rattle.board.specs.Left.{TableLeft, WorkLeft}
use Rattle.replay.specs.declared.calls.Call.{Call}
use Rattle.replay.specs.declared.calls.Call.TheVariants as call
use Rattle.replay.specs.declared.calls.Answer.{Answer}
use Rattle.replay.specs.declared.calls.Answer.TheVariants as answer

-- ── Charts ──

-- what board i stands for
abbrev pub standing : List Standing → ℕ → Standing
standing charts i = slice_index_or charts i blank

-- what an accepted call makes of the charts: open, motion and join change one, and the other calls none
abbrev pub changed : List Standing → Call → List Standing
changed charts (call.Open i n) = slice_set charts i (opened n (standing charts i))
changed charts (call.Motion i w bytes) = slice_set charts i (moved (vec_items bytes) (standing charts i))
changed charts (call.Join i j w) = slice_set charts i (joined (standing charts i) (standing charts j))
changed charts (call.Runs i) = charts
changed charts (call.Count i) = charts
changed charts (call.Within i j) = charts
changed charts (call.Limit i l) = charts
changed charts (call.Span i) = charts

abbrev pub accepted : {B : Type 0} → Answer B → Bool
accepted (answer.Opened r) = is_ok r
accepted (answer.Moved r) = is_ok r
accepted (answer.Joined r) = is_ok r
accepted (answer.Runs r) = is_ok r
accepted (answer.Counted r) = is_ok r
accepted (answer.Compared r) = is_ok r
accepted (answer.Limited r) = is_ok r
accepted (answer.Spanned r) = is_ok r
accepted answer.Absent = false

-- a refused call leaves all charts as they were
abbrev pub after : List Standing → Call → Bool → List Standing
after charts c ok = cond ok (changed charts c) charts

-- ── Boards and work tables at one time ──

pub record Snapshot (B : Type 0) : Type 0 where
  pub charts : List Standing
  pub tables : List (List B)
  pub works : List (List B)

module _ {B : Type 0} where
  -- the table of board i, and work table w
  abbrev pub table_of : Snapshot B → ℕ → List B
  table_of s i = slice_index_or s.tables i []

  abbrev pub work_of : Snapshot B → ℕ → List B
  work_of s w = slice_index_or s.works w []

  -- the call names boards and work tables that there are, and two boards where it takes two
  abbrev pub Named : Snapshot B → Call → Type 0
  Named s (call.Open i n) = i < length s.tables
  Named s (call.Motion i w bytes) = (i < length s.tables) × (w < length s.works)
  Named s (call.Join i j w) = (i < length s.tables) × (j < length s.tables) × (i ≢ j) × (w < length s.works)
  Named s (call.Runs i) = i < length s.tables
  Named s (call.Count i) = i < length s.tables
  Named s (call.Within i j) = (i < length s.tables) × (j < length s.tables) × (i ≢ j)
  Named s (call.Limit i l) = i < length s.tables
  Named s (call.Span i) = i < length s.tables

  -- no table is changed
  pub record Kept (s t : Snapshot B) : Type 0 where
    pub tables : t.tables ≡ s.tables
    pub works : t.works ≡ s.works

module _ {B : Type 0} (m : Meaning B) (s t : Snapshot B) where
  -- an open, a motion and a join: the answer, and the tables that they change
  pub record Opens (i n : ℕ) (r : Result (Unit {0}) BoardFault) : Type 0 where
    pub answer : OpenIs (length (table_of s i)) n r
    pub table : List B
    pub left : TableLeft m (opened n (standing s.charts i)) (table_of s i) table r
    pub tables : t.tables ≡ slice_set s.tables i table
    pub works : t.works ≡ s.works

  pub record Moves (i w : ℕ) (bytes : List ℕ) (r : Result ℕ BoardFault) : Type 0 where
    pub answer : MotionIs m (length (work_of s w)) (standing s.charts i) bytes r
    pub table : List B
    pub left : TableLeft m (moved bytes (standing s.charts i)) (table_of s i) table r
    pub tables : t.tables ≡ slice_set s.tables i table
    pub work : List B
    pub lent : WorkLeft m (standing s.charts i) (work_of s w) work r
    pub works : t.works ≡ slice_set s.works w work

  pub record Joins (i j w : ℕ) (r : Result (Unit {0}) BoardFault) : Type 0 where
    pub answer : JoinIs m (length (work_of s w)) (standing s.charts i) (standing s.charts j) r
    pub table : List B
    pub left : TableLeft m (joined (standing s.charts i) (standing s.charts j)) (table_of s i) table r
    pub tables : t.tables ≡ slice_set s.tables i table
    pub work : List B
    pub lent : WorkLeft m (standing s.charts i) (work_of s w) work r
    pub works : t.works ≡ slice_set s.works w work

  -- what a call that names its boards does
  abbrev pub Does : Call → Answer B → Type 0
  Does (call.Open i n) a = (r : Result (Unit {0}) BoardFault) × (a ≡ answer.Opened r) × Opens i n r
  Does (call.Motion i w bytes) a = (r : Result ℕ BoardFault) × (a ≡ answer.Moved r) × Moves i w (vec_items bytes) r
  Does (call.Join i j w) a = (r : Result (Unit {0}) BoardFault) × (a ≡ answer.Joined r) × Joins i j w r
  Does (call.Runs i) a = (r : Result Bool BoardFault) × (a ≡ answer.Runs r) × RunsIs m (standing s.charts i) r × Kept s t
  Does (call.Count i) a = (r : Result ℕ BoardFault) × (a ≡ answer.Counted r) × CountIs (standing s.charts i) r × Kept s t
  Does (call.Within i j) a = (r : Result (Option Name) BoardFault) × (a ≡ answer.Compared r) × WithinIs m (standing s.charts i) (standing s.charts j) r × Kept s t
  Does (call.Limit i l) a = (r : Result B BoardFault) × (a ≡ answer.Limited r) × LimitIs m (standing s.charts i) l r × Kept s t
  Does (call.Span i) a = (r : Result (B × B) BoardFault) × (a ≡ answer.Spanned r) × SpanIs m (standing s.charts i) r × Kept s t

  -- one call: it does what it says, or is told that it names none
  pub record Step (c : Call) (a : Answer B) : Type 0 where
    pub charts : t.charts ≡ after s.charts c (accepted a)
    pub does : (Named s c × Does c a) ⊎ ((Named s c → ⊥) × (a ≡ answer.Absent) × Kept s t)

-- ── Histories ──

-- the calls, one after the other, with these answers
abbrev pub Lawful : {B : Type 0} → Meaning B → (from : Snapshot B) → List Call → List (Answer B) → (to : Snapshot B) → Type 0
Lawful m from [] [] to = to ≡ from
Lawful m from [] (a ∷ answers) to = ⊥
Lawful m from (c ∷ calls) [] to = ⊥
Lawful {B} m from (c ∷ calls) (a ∷ answers) to = (next : Snapshot B) × Step m from next c a × Lawful m next calls answers to
