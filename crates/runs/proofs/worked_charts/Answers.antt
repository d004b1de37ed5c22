-- Each claim of the worked charts holds.
use Rattle.runs.proofs.WorkedCharts.{worked_charts}
use Rattle.runs.proofs.worked_charts.Goals as goal

pub returns : goal.returns
returns c = worked_charts
