use Rattle.std.proofs.Common.{◌++◌, codes, rules}
use Rattle.std.proofs.Output.{has_written_append, has_written_of_eq}
use Rattle.chart.specs.Words.{window_words}
use Rattle.chart.proofs.Told.{windows_more, windows_all}
use Rattle.chart.proofs.words.WindowsDisplay.fmt.Goals as goal

pub loop-window-preserved : goal.loop-window-preserved
loop-window-preserved g c = λ plain.
    let so_far = c.loop-window.invariant plain in
    let w = c.window-item.result in (
      so_far.0 ++ (window_words w ++ codes "; "),
      has_written_append _ _ _ _ _ _ so_far.1 (search rules),
      windows_more _ _ so_far.0 so_far.2 w c.loop-window-test.true c.window-item.is,
    )

pub returns-clause-writes : goal.returns-clause-writes
returns-clause-writes g c = λ plain _.
    let so_far = c.loop-window.invariant plain in has_written_of_eq _ _ _ _ _ (windows_all _ _ so_far.0 so_far.2 c.loop-window-test.false) so_far.1
