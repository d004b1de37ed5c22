-- A chart's motions with their numbers, as they are handed out one by one. Assumes nothing.
use Rattle.std.specs.Prelude.{ℕ, zero, suc, ◌+◌, ◌-◌, cond, List, [], ◌∷◌, ◌++◌, length, drop, take, map, Ok, Err, Result, nat_le, codes, decimal}
use Rattle.std.specs.Result.{result_map_both}
use Rattle.chart.specs.declared.types.Timers.{Timers}
use Rattle.chart.specs.declared.types.MotionFault.{MotionFault}
use Rattle.chart.specs.Charts.{Motion, held}
use Rattle.chart.specs.Reading.{motion_of}
use Rattle.chart.specs.Words.{parts_words}
use Rattle.faults.specs.declared.types.AtMotion.{AtMotion}
use Rattle.faults.specs.declared.types.BoardFault.TheVariants as board
use Rattle.faults.specs.declared.types.ChartFault.{ChartFault}
use Rattle.faults.specs.declared.types.ChartFault.TheVariants as chart
use Rattle.faults.specs.declared.types.BookFault.{BookFault}
use Rattle.faults.specs.declared.types.BookFault.TheVariants as book
use Rattle.book.specs.declared.head.Head.{Head}
use Rattle.book.specs.declared.types.Numbered.{Numbered}
use Rattle.book.specs.declared.types.Motions.{Motions}
use Rattle.book.specs.Layout.{place_of}
use Rattle.book.specs.Parts.{head_of, at_motion, at_chart}

-- a motion with its number, or the fault after the last
abbrev pub Read : Type 0 → Type 0
Read E = Result (ℕ × Motion) E

abbrev pub numbered : Numbered → ℕ × Motion
numbered x = (x.number, held x.motion)

-- "motion 2: timer 1 at least 3; restarts none"
abbrev pub motion_words : ℕ → Motion → List ℕ
motion_words k m = codes "motion " ++ (decimal k ++ (codes ": " ++ parts_words m))

-- a motion that begins at byte `at` after k others, and then the rest; nothing comes after a fault
abbrev pub first : (k at : ℕ) → Result (Motion × ℕ) MotionFault → (ℕ → List (Read AtMotion)) → List (Read AtMotion)
first k at (Err e) rest = Err (at_motion (k + 1) at (board.Motion e)) ∷ []
first k at (Ok (m, used)) rest = Ok (k + 1, m) ∷ rest used

-- what is read of a part from byte `at` to its end, after k motions. A motion uses bytes, so `most` may be the part's length
unfoldable pub reads_from : (most : ℕ) → Timers → (part : List ℕ) → (at k : ℕ) → List (Read AtMotion)
reads_from zero n part at k = []
reads_from (suc most) n part at k =
    cond (nat_le (length part) at) []
    (first k at (motion_of n (drop at part)) (λ used. reads_from most n part (at + used) (k + 1)))

-- the fault of chart c, whose part begins at byte `start` of the book
abbrev pub in_chart : (c start : ℕ) → ChartFault → BookFault
in_chart c start e = book.Chart (at_chart c start e)

abbrev pub in_book : (c start : ℕ) → Read AtMotion → Read BookFault
in_book c start = result_map_both (λ x. x) (λ e. in_chart c start (chart.Board e))

-- the motion that comes next and how many bytes it uses, or its fault, with its number and its place
abbrev pub placed : (k at : ℕ) → Result (Motion × ℕ) MotionFault → Result (Motion × ℕ) ChartFault
placed k at = result_map_both (λ x. x) (λ e. chart.Board (at_motion (k + 1) at (board.Motion e)))

abbrev pub next_of : Motions → Result (Motion × ℕ) ChartFault
next_of m = placed m.number m.at (motion_of m.head.timers (drop m.at m.part.now))

-- what is still to come
abbrev pub coming : Motions → List (Read BookFault)
coming m = map (in_book m.chart m.start) (reads_from (length m.part.now - m.number) m.head.timers m.part.now m.at m.number)

-- the head of chart c and what is read of its motions, or the first fault before them
abbrev pub opened : (c start : ℕ) → (part : List ℕ) → Result Head ChartFault → Result (Head × List (Read BookFault)) BookFault
opened c start part (Err e) = Err (in_chart c start e)
opened c start part (Ok h) = Ok (h, map (in_book c start) (reads_from (length part) h.timers part 2 0))

abbrev pub opened_at : List ℕ → ℕ → Result (ℕ × ℕ) BookFault → Result (Head × List (Read BookFault)) BookFault
opened_at bytes c (Err e) = Err e
opened_at bytes c (Ok (start, size)) = let part = take size (drop start bytes) in opened c start part (head_of part)

abbrev pub motions_of : List ℕ → ℕ → Result (Head × List (Read BookFault)) BookFault
motions_of bytes c = opened_at bytes c (place_of bytes c)
