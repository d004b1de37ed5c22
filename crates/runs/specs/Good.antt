-- What is known of the table of a chart that has a run: the nodes' dates that keep it are those of runs, and chains attain its places. Assumes nothing.
use Rattle.std.specs.Prelude.{ℕ, suc, ◌+◌, ◌<◌}
use Rattle.bound.specs.Differences.{Differences, Same, minus}
use Rattle.chart.specs.Charts.{Chart}
use Rattle.runs.specs.Runs.{Reading, reads, Run}
use Rattle.runs.specs.Graph.{node, Attained}
use Rattle.runs.specs.Tables.{Table, Closed, Satisfies}

-- dates of the table's nodes show the readings and the time of a run
pub record Shows (D : Differences) (n : ℕ) (x : ℕ → D.Diff) (σ : Reading D) (t : D.Diff) (ε : Reading D) : Type 0 where
  pub starts : (i : ℕ) → i < suc n → Same D (minus D (x 0) (x i)) (reads D σ i)
  pub time : Same D (minus D (x (suc n + 0)) (x 0)) t
  pub ends : (i : ℕ) → i < suc n → Same D (minus D (x (suc n + 0)) (x (suc n + i))) (reads D ε i)

pub record Good (D : Differences) (n : ℕ) (c : Chart) (T : Table D) : Type 0 where
  pub closed : Closed D (suc n + suc n) T
  pub runs : (x : ℕ → D.Diff) → Satisfies D (suc n + suc n) T x
      → (σ : Reading D) (t : D.Diff) (ε : Reading D) → Shows D n x σ t ε → Run D n c σ t ε
  pub attained : (u v : ℕ) → u < suc n + suc n → v < suc n + suc n → Attained D n c (node n c u) (node n c v) (T u v)
