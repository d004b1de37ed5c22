-- The bounds between every node and the new now, by way of the end nodes. Assumes nothing.
use Rattle.std.specs.Prelude.{◌≡◌, ℕ, zero, suc, ◌+◌, ◌*◌, ◌^◌, ◌<◌, ◌≤◌, cond, List, nat_lt}
use Rattle.bound.specs.Differences.{zero_of}
use Rattle.bound.specs.Meaning.{Meaning}
use Rattle.chart.specs.Charts.{Motion}
use Rattle.runs.specs.Tables.{Sum}
use Rattle.runs.specs.Motions.{motion_name}
use Rattle.table.specs.declared.found.Found.{Found}
use Rattle.table.specs.declared.found.Found.TheVariants.{Runs, Never, Large}
use Rattle.table.specs.Cells.{at, cell, relaxed, Rows, Small}

module _ {B : Type 0} (m : Meaning B) where
  -- the tightest of the first k sums of f and g, or open
  unfoldable pub best_of : (f g : ℕ → B) → ℕ → B
  best_of f g zero = m.opened
  best_of f g (suc k) = relaxed m (best_of f g k) (f k) (g k)

  -- on date u less the new now: by now and by every timer at the old end, with the direct bounds at the front of the work table
  abbrev pub to_new : (n : ℕ) (table work : List B) → ℕ → B
  to_new n table work u = best_of (λ i. cell m (2 * n + 2) table u (n + 1 + i)) (λ i. at m work i) (n + 1)

  -- on the new now less date v: by every timer at the old end
  abbrev pub from_new : (n : ℕ) (table work : List B) → ℕ → B
  from_new n table work v = best_of (λ i. at m work (n + 2 + i)) (λ i. cell m (2 * n + 2) table (n + 2 + i) v) n

  -- the sums that they ask for are within the reach
  pub record SpreadFits (n : ℕ) (table work : List B) : Type 0 where
    pub toward_new : (u i : ℕ) → u < 2 * n + 2 → i < n + 1 → m.size_of (cell m (2 * n + 2) table u (n + 1 + i)) + m.size_of (at m work i) ≤ m.reach
    pub out_of_new : (v i : ℕ) → v < 2 * n + 2 → i < n → m.size_of (at m work (n + 2 + i)) + m.size_of (cell m (2 * n + 2) table (n + 2 + i) v) ≤ m.reach

  -- the direct bounds stay at the front of the work table, and behind them lie those into the new now and those out of it
  pub record SpreadTo (n : ℕ) (table before after : List B) : Type 0 where
    pub front : (i : ℕ) → i < 2 * n + 2 → at m after i ≡ at m before i
    pub toward_new : (u : ℕ) → u < 2 * n + 2 → at m after (2 * n + 2 + u) ≡ to_new n table before u
    pub out_of_new : (v : ℕ) → v < 2 * n + 2 → at m after (4 * n + 4 + v) ≡ from_new n table before v
    pub beyond : (i : ℕ) → 6 * n + 6 ≤ i → at m after i ≡ at m before i

  -- the table with the new now, node 2n + 2: the bounds between it and the others lie behind the direct ones in the work table
  abbrev pub with_new : (z : B) (n : ℕ) (table work : List B) → ℕ → ℕ → B
  with_new z n table work u v =
      cond (nat_lt u (2 * n + 2))
      (cond (nat_lt v (2 * n + 2)) (cell m (2 * n + 2) table u v) (at m work (2 * n + 2 + u)))
      (cond (nat_lt v (2 * n + 2)) (at m work (4 * n + 4 + v)) z)

  -- the way from the new now to the date of timer i + 1 at the old end and back allows 0
  abbrev pub TripAllows : (n : ℕ) (work : List B) → ℕ → Type 0
  TripAllows n work i = Sum m.differences (m.allows (at m work (n + 2 + i))) (m.allows (at m work (3 * n + 4 + i))) (zero_of m.differences)

  -- what stands between the nodes p and q after the pivot on the new now, where `held` stood between them before
  abbrev pub settled_cell : (z : B) (n : ℕ) (work : List B) (held : B) (p q : ℕ) → B
  settled_cell z n work held p q =
      cond (nat_lt p (2 * n + 2))
      (cond (nat_lt q (2 * n + 2)) (relaxed m held (at m work (2 * n + 2 + p)) (at m work (4 * n + 4 + q))) (at m work (2 * n + 2 + p)))
      (cond (nat_lt q (2 * n + 2)) (at m work (4 * n + 4 + q)) z)

  -- the new table, by the new names
  abbrev pub new_cell : (z : B) (n : ℕ) (motion : Motion) (table work : List B) → ℕ → ℕ → B
  new_cell z n motion table work u v = settled_cell z n work (cell m (2 * n + 2) table u v) (motion_name n motion u) (motion_name n motion v)

  -- the sums of the pivot and of the test are within the reach
  abbrev pub StarFits : (n : ℕ) (work : List B) → Type 0
  StarFits n work = (i j : ℕ) → i < 6 * n + 6 → j < 6 * n + 6 → m.size_of (at m work i) + m.size_of (at m work j) ≤ m.reach

  -- what is found from the bounds of the new now: all trips allow 0, and the new table takes the place of the old one with no size above 2^40; or a trip forbids 0; or a size is above 2^40
  abbrev pub Settled : (z : B) (n : ℕ) (motion : Motion) (before work after : List B) → Found → Type 0
  Settled z n motion before work after Runs =
      ((i : ℕ) → i < n → TripAllows n work i) × Rows m (2 * n + 2) (2 * n + 2) (new_cell z n motion before work) after × Small m (2 * n + 2) after
  Settled z n motion before work after Never = (i : ℕ) × (i < n) × (TripAllows n work i → ⊥)
  Settled z n motion before work after Large =
      ((i : ℕ) → i < n → TripAllows n work i) × ((u : ℕ) × (v : ℕ) × (u < 2 * n + 2) × (v < 2 * n + 2) × (2 ^ 40 < m.size_of (new_cell z n motion before work u v)))
