-- What a motion and a join do: the answer, what the board stands for afterwards, and what the tables hold. Assumes nothing.
use Rattle.std.specs.Prelude.{ℕ, cond, List, is_ok, Result}
use Rattle.bound.specs.Meaning.{Meaning}
use Rattle.faults.specs.declared.types.BoardFault.{BoardFault}
use Rattle.board.specs.declared.header.Header.{Header}
use Rattle.board.specs.Standing.{Standing, moved, joined}
use Rattle.board.specs.Calls.{MotionIs, JoinIs}
use Rattle.board.specs.Left.{TableLeft, WorkLeft}
use Rattle.board.specs.Holding.{StandsFor}

-- what a motion, with a work table of that many places, does to a board that stands for s: its header is h afterwards
pub record MotionDone {B : Type 0} (m : Meaning B) (room : ℕ) (bytes : List ℕ) (h : Header) (before after work work' : List B) (r : Result ℕ BoardFault) (s : Standing) : Type 0 where
  pub answer : MotionIs m room s bytes r
  pub stands : StandsFor m h after (cond (is_ok r) (moved bytes s) s)
  pub table : TableLeft m (moved bytes s) before after r
  pub lent : WorkLeft m s work work' r

-- what a join does to a board that stands for s, with another that stands for t
pub record JoinDone {B : Type 0} (m : Meaning B) (room : ℕ) (h : Header) (before after work work' : List B) (r : Result (Unit {0}) BoardFault) (s t : Standing) : Type 0 where
  pub answer : JoinIs m room s t r
  pub stands : StandsFor m h after (cond (is_ok r) (joined s t) s)
  pub table : TableLeft m (joined s t) before after r
  pub lent : WorkLeft m s work work' r
