-- What is read of a chart's part: its head and its motions, or the first fault. Assumes nothing.
use Rattle.std.specs.Prelude.{◌≡◌, ℕ, zero, suc, ◌+◌, cond, List, [], ◌∷◌, length, take, drop, Some, None, Ok, Err, Option, Result, nat_le, nat_lt, slice_index}
use Rattle.std.specs.Result.{result_map_both}
use Rattle.chart.specs.declared.types.Timers.{Timers}
use Rattle.chart.specs.declared.types.MotionFault.{MotionFault}
use Rattle.chart.specs.Charts.{Motion, Chart, ChartOf}
use Rattle.chart.specs.Laid.{chart_bytes}
use Rattle.chart.specs.Ranges.{timers_of}
use Rattle.chart.specs.Reading.{motion_of}
use Rattle.faults.specs.declared.types.AtMotion.{AtMotion}
use Rattle.faults.specs.declared.types.AtChart.{AtChart}
use Rattle.faults.specs.declared.types.BoardFault.{BoardFault}
use Rattle.faults.specs.declared.types.BoardFault.TheVariants as board
use Rattle.faults.specs.declared.types.ChartFault.{ChartFault}
use Rattle.faults.specs.declared.types.ChartFault.TheVariants as chart
use Rattle.faults.specs.declared.types.BookFault.{BookFault}
use Rattle.faults.specs.declared.types.BookFault.TheVariants as book
use Rattle.book.specs.declared.head.Kind.{Kind}
use Rattle.book.specs.declared.head.Head.{Head}
use Rattle.book.specs.Kinds.{kind_of, kind_byte}
use Rattle.book.specs.Layout.{place_of, handed}

abbrev pub head_by : Option Kind → Option Timers → Result Head ChartFault
head_by None timers = Err chart.Kind
head_by (Some k) None = Err chart.Timers
head_by (Some k) (Some t) = Ok (record { kind = k; timers = t })

-- a part's first two bytes: kind, timers
abbrev pub head_of : List ℕ → Result Head ChartFault
head_of part = cond (nat_lt (length part) 2) (Err chart.Short) (head_by (kind_of (slice_index part 0)) (timers_of (slice_index part 1)))

-- a fault with its place
abbrev pub at_motion : (motion byte : ℕ) → BoardFault → AtMotion
at_motion m b e = record { motion = m; byte = b; fault = e }

abbrev pub at_chart : (chart part : ℕ) → ChartFault → AtChart
at_chart c p e = record { chart = c; part = p; fault = e }

-- a motion that begins at byte `at` after k others, and what comes after it
abbrev pub onward : (k at : ℕ) → Result (Motion × ℕ) MotionFault → (ℕ → Result Chart AtMotion) → Result Chart AtMotion
onward k at (Err e) rest = Err (at_motion (k + 1) at (board.Motion e))
onward k at (Ok (m, used)) rest = result_map_both (λ ms. m ∷ ms) (λ e. e) (rest used)

-- the motions of a part from byte `at` to its end, after k others. A motion uses bytes, so `most` may be the part's length
unfoldable pub motions_from : (most : ℕ) → Timers → (part : List ℕ) → (at k : ℕ) → Result Chart AtMotion
motions_from zero n part at k = Ok []
motions_from (suc most) n part at k =
    cond (nat_le (length part) at) (Ok [])
    (onward k at (motion_of n (drop at part)) (λ used. motions_from most n part (at + used) (k + 1)))

-- a chart's part: head and motions
abbrev pub chart_by : List ℕ → Result Head ChartFault → Result (Head × Chart) ChartFault
chart_by part (Err e) = Err e
chart_by part (Ok h) = result_map_both (λ ms. (h, ms)) chart.Board (motions_from (length part) h.timers part 2 0)

abbrev pub chart_of : List ℕ → Result (Head × Chart) ChartFault
chart_of part = chart_by part (head_of part)

abbrev pub part_count : List ℕ → Result ℕ ChartFault
part_count part = result_map_both (λ p. length p.1) (λ e. e) (chart_of part)

-- how many motions chart k has, counted from 1, or the first fault of the book or of the chart
abbrev pub count_by : List ℕ → ℕ → Result (ℕ × ℕ) BookFault → Result ℕ BookFault
count_by bytes k (Err e) = Err e
count_by bytes k (Ok (start, size)) = result_map_both (λ c. c) (λ e. book.Chart (at_chart k start e)) (part_count (take size (drop start bytes)))

abbrev pub count_of : List ℕ → ℕ → Result ℕ BookFault
count_of bytes k = count_by bytes k (place_of bytes k)

-- the bytes of a part are those of a chart: kind, timers, and then its motions to the end
pub record PartOf (part : List ℕ) (head : Head) (motions : Chart) : Type 0 where
  pub whole : part ≡ kind_byte head.kind ∷ head.timers.count ∷ chart_bytes motions
  pub fits : ChartOf head.timers.count motions

-- the bytes that the pair of chart k names are those of a chart of that many motions
pub record Counts (bytes : List ℕ) (k count : ℕ) : Type 0 where
  pub part : List ℕ
  pub head : Head
  pub motions : Chart
  pub named : handed bytes k ≡ Ok part
  pub laid : PartOf part head motions
  pub all : count ≡ length motions
