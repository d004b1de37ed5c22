-- The nodes of the table as dates of the chart. Assumes nothing.
use Rattle.std.proofs.Common.{◌≡◌, ℕ, suc, ◌+◌, ◌-◌, ◌<◌, cond, length, ap, ◌∙◌, arith, le-leb}
use borrow.Author.Tests.{lt-leb}
use Rattle.chart.specs.Charts.{Chart}
use Rattle.runs.specs.Graph.{before, date, node}
use Rattle.runs.specs.Graph.Moment.{start}

pub node_start : (n : ℕ) (c : Chart) (u : ℕ) → u < suc n → node n c u ≡ date start u
node_start n c u l = ap (λ b. cond b (date start u) (date (before (length c)) (u - (n + 1)))) (le-leb u n (omega arith))

pub node_end : (n : ℕ) (c : Chart) (i : ℕ) → node n c (suc n + i) ≡ date (before (length c)) i
node_end n c i =
    let e : (suc n + i) - (n + 1) ≡ i = omega arith in
    ap (λ b. cond b (date start (suc n + i)) (date (before (length c)) ((suc n + i) - (n + 1)))) (lt-leb (suc n + i) n (omega arith))
    ∙ ap (date (before (length c))) e
