use Rattle.std.proofs.Common.{◌≡◌, ◌-◌, take}
use Rattle.chart.specs.Reading.{windows_from}
use Rattle.chart.proofs.Windows.{behind}
use Rattle.chart.proofs.read.motion_of.Given as goal

abbrev pub invariant-loop-k : goal.invariant-loop-k
invariant-loop-k l =
    windows_from l.timers l.bytes l.count 0 ≡ behind (take l.k l.slot-items) (windows_from l.timers l.bytes (l.count - l.k) l.k)
