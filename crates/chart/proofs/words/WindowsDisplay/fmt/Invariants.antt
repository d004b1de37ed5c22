use Rattle.std.proofs.Common.{◌≡◌, ℕ, List, ◌++◌, drop}
use Rattle.std.specs.Fmt.{HasWritten, IsPlainFormatter}
use Rattle.chart.specs.Words.{windows_words}
use Rattle.chart.proofs.words.WindowsDisplay.fmt.Given as goal

abbrev pub invariant-loop-window : goal.invariant-loop-window
invariant-loop-window g l =
    IsPlainFormatter l.initial.f → (text : List ℕ) × HasWritten g.W.Write.write_str_gives l.initial.f text l.f
    × (text ++ windows_words (drop l.window-index l.window-items) ≡ windows_words l.window-items)
