use Rattle.std.proofs.Common.{◌≡◌, ℕ, ◌-◌, true, List, ◌++◌}
use Rattle.std.specs.Fmt.{HasWritten, IsPlainFormatter}
use Rattle.chart.specs.Charts.{held}
use Rattle.chart.specs.Words.{restarts_from}
use Rattle.chart.proofs.words.RestartsDisplay.fmt.Given as goal

abbrev pub invariant-loop-timer : goal.invariant-loop-timer
invariant-loop-timer g l =
    let m = held l.self.0.now in
    IsPlainFormatter l.initial.f → (text : List ℕ) × HasWritten g.W.Write.write_str_gives l.initial.f text l.f
    × (text ++ restarts_from m (9 - l.timer-counter) l.timer-counter l.first ≡ restarts_from m 8 1 true)
