-- A list of bounds as the normalised table of a chart, and the limits that it gives. Assumes nothing.
use Rattle.std.specs.Prelude.{ℕ, ◌+◌, ◌*◌, ◌^◌, ◌<◌, ◌↔◌, List, slice_index_or}
use Rattle.bound.specs.Meaning.{Meaning, SumOf}
use Rattle.chart.specs.Charts.{Chart}
use Rattle.runs.specs.Graph.{node, Tightest}
use Rattle.runs.specs.Limits.{Name}
use Rattle.runs.specs.Tables.{Table}

module _ {B : Type 0} (m : Meaning B) (n : ℕ) where
  -- place (u, v) lies at u × (2n + 2) + v
  abbrev pub place : List B → ℕ → ℕ → B
  place bounds u v = slice_index_or bounds (u * (2 * n + 2) + v) m.opened

  -- what each place allows
  abbrev pub table_of : List B → Table m.differences
  table_of bounds u v = m.allows (place bounds u v)

  -- every place is the tightest chain, or open
  abbrev pub Normalised : Chart → List B → Type 0
  Normalised c bounds =
      (u v : ℕ) → u < 2 * n + 2 → v < 2 * n + 2 → Tightest m.differences n c (node n c u) (node n c v) (table_of bounds u v)

  -- the bound is the tighter of two sums: places (b, a) and (n + 1 + d, n + 1 + c), and places (n + 1 + d, a) and (b, n + 1 + c)
  abbrev pub IsLimit : List B → Name → B → Type 0
  IsLimit bounds l bound =
      (x : m.differences.Diff) → m.allows bound x
      ↔ (SumOf m (place bounds l.b l.a) (place bounds (n + 1 + l.d) (n + 1 + l.c)) x
      × SumOf m (place bounds (n + 1 + l.d) l.a) (place bounds l.b (n + 1 + l.c)) x)

  -- some place of the chart's normalised table has a size above 2^40; it does not matter which bound stands there, since bounds that allow the same are of one size
  abbrev pub Large : Chart → Type 0
  Large c =
      (u : ℕ) × (v : ℕ) × (u < 2 * n + 2) × (v < 2 * n + 2) × (bound : B)
      × Tightest m.differences n c (node n c u) (node n c v) (m.allows bound) × (2 ^ 40 < m.size_of bound)
