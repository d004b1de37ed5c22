-- Motions and charts, as they are spoken of, without the memory that holds them. Assumes nothing.
use Rattle.std.specs.Prelude.{ℕ, ◌-◌, ◌/◌, ◌%◌, ◌^◌, ◌<◌, ◌≤◌, Bool, ◌&&◌, List, length, take, ◌==◌, nat_le}
use Rattle.chart.specs.declared.types.Window.{Window}
use Rattle.chart.specs.declared.types.Motion as fixed
use Rattle.chart.specs.Lists.{All}

-- a motion: its windows, and the timers that it restarts as a number whose bit i − 1 stands for timer i
pub record Motion : Type 0 where
  pub windows : List Window
  pub restarts : ℕ

-- whether a motion restarts a timer; timer 0 is a name for the value 0
abbrev pub restarts_timer : Motion → ℕ → Bool
restarts_timer m i = nat_le 1 i && m.restarts / 2 ^ (i - 1) % 2 == 1

-- a chart (a path) is a list of motions
abbrev pub Chart : Type 0
Chart = List Motion

-- the motion that fixed memory holds
abbrev pub held : fixed.Motion → Motion
held m = record { windows = take m.count m.slots; restarts = m.restarts }

abbrev pub held_with : fixed.Motion × ℕ → Motion × ℕ
held_with p = (held p.0, p.1)

-- a window on one of the timers 1 to n
abbrev pub WindowOf : ℕ → Window → Type 0
WindowOf n w = w.timer ≤ n

-- a motion of a machine with timers 1 to n
pub record MotionOf (n : ℕ) (m : Motion) : Type 0 where
  pub few : length m.windows ≤ 16
  pub timers : All (WindowOf n) m.windows
  pub restarted : m.restarts < 2 ^ n

-- a chart of such a machine
abbrev pub ChartOf : ℕ → Chart → Type 0
ChartOf n c = All (MotionOf n) c
