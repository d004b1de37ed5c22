-- The number and level of each fault, and the chart, motion and byte that it names. Assumes nothing.
use Rattle.std.specs.Prelude.{ℕ, ◌+◌, ◌*◌}
use Rattle.chart.specs.declared.types.MotionFault.{MotionFault}
use Rattle.chart.specs.declared.types.MotionFault.TheVariants as motion
use Rattle.faults.specs.declared.types.BoardFault.{BoardFault}
use Rattle.faults.specs.declared.types.BoardFault.TheVariants as board
use Rattle.faults.specs.declared.types.ChartFault.{ChartFault}
use Rattle.faults.specs.declared.types.ChartFault.TheVariants as chart
use Rattle.faults.specs.declared.types.BookFault.{BookFault}
use Rattle.faults.specs.declared.types.BookFault.TheVariants as book
use Rattle.faults.specs.declared.types.Fault.{Fault}

abbrev pub fault : (number level chart motion byte : ℕ) → Fault
fault n l c m b = record { number = n; level = l; chart = c; motion = m; byte = b }

-- of a motion, whose first byte is at `start`
abbrev pub motion_told : (chart motion start : ℕ) → MotionFault → Fault
motion_told c m start motion.Cut = fault 10 3 c m start
motion_told c m start motion.Windows = fault 11 3 c m start
motion_told c m start motion.Restart = fault 12 3 c m (start + 1)
motion_told c m start (motion.Timer at) = fault 13 3 c m (start + at)
motion_told c m start (motion.Sign at) = fault 14 3 c m (start + at)
motion_told c m start (motion.Number at) = fault 15 3 c m (start + at)

-- of a board at a motion, whose first byte is at `start`
abbrev pub board_told : (chart motion start : ℕ) → BoardFault → Fault
board_told c m start board.Blank = fault 16 4 c m 0
board_told c m start board.Timers = fault 17 4 c m 0
board_told c m start board.Table = fault 18 4 c m 0
board_told c m start board.Differ = fault 19 4 c m 0
board_told c m start board.Work = fault 20 4 c m 0
board_told c m start board.Count = fault 21 4 c m 0
board_told c m start board.Size = fault 22 4 c m start
board_told c m start board.Never = fault 23 4 c m 0
board_told c m start board.Name = fault 24 4 c m 0
board_told c m start (board.Motion e) = motion_told c m start e

-- of a chart, whose part's first byte is at `start`
abbrev pub chart_told : (chart start : ℕ) → ChartFault → Fault
chart_told c start chart.Short = fault 7 2 c 0 start
chart_told c start chart.Kind = fault 8 2 c 0 start
chart_told c start chart.Timers = fault 9 2 c 0 (start + 1)
chart_told c start (chart.Board e) = board_told c e.motion (start + e.byte) e.fault

abbrev pub told : BookFault → Fault
told book.Length = fault 1 1 0 0 0
told book.Count = fault 2 1 0 0 0
told book.Cut = fault 3 1 0 0 2
told (book.Early k) = fault 4 1 (k + 1) 0 (2 + 8 * k)
told (book.Late k) = fault 5 1 (k + 1) 0 (2 + 8 * k)
told book.Missing = fault 6 1 0 0 0
told (book.Chart e) = chart_told e.chart e.part e.fault
