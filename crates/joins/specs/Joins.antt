-- The tables of a join: two tables end to end in the work table, and the outer places of it. Assumes nothing.
use Rattle.std.specs.Prelude.{ℕ, ◌+◌, ◌-◌, ◌*◌, ◌^◌, ◌<◌, ◌≤◌, cond, ◌&&◌, ◌||◌, List, nat_lt}
use Rattle.bound.specs.Meaning.{Meaning, tighter_of}
use Rattle.runs.specs.Joining.{join_name}
use Rattle.table.specs.Cells.{cell}

module _ {B : Type 0} (m : Meaning B) (n : ℕ) where
  -- the first table where it reaches, and else open
  abbrev pub first_cell : List B → ℕ → ℕ → B
  first_cell table u v = cond (nat_lt u (2 * n + 2) && nat_lt v (2 * n + 2)) (cell m (2 * n + 2) table u v) m.opened

  -- the second table, whose start nodes are the first one's end nodes; the tighter of both where both reach
  abbrev pub later_cell : (table other : List B) → ℕ → ℕ → B
  later_cell table other u v =
      cond (nat_lt u (2 * n + 2) && nat_lt v (2 * n + 2)) (tighter_of m (cell m (2 * n + 2) table u v) (cell m (2 * n + 2) other (u - (n + 1)) (v - (n + 1))))
      (cell m (2 * n + 2) other (u - (n + 1)) (v - (n + 1)))

  -- the two tables end to end
  abbrev pub joined_cell : (table other : List B) → ℕ → ℕ → B
  joined_cell table other u v = cond (nat_lt u (n + 1) || nat_lt v (n + 1)) (first_cell table u v) (later_cell table other u v)

  -- a place of the outer nodes, under the names that they have after the join
  abbrev pub outer_cell : List B → ℕ → ℕ → B
  outer_cell work u v = cell m (3 * n + 3) work (join_name n u) (join_name n v)

  -- a size among the outer places of a row is above 2^40
  abbrev pub LargeIn : List B → ℕ → Type 0
  LargeIn work u = (v : ℕ) × (v < 2 * n + 2) × (2 ^ 40 < m.size_of (outer_cell work u v))

  -- none is above 2^40 in the first places of a row
  abbrev pub SmallIn : List B → ℕ → ℕ → Type 0
  SmallIn work u count = (v : ℕ) → v < count → m.size_of (outer_cell work u v) ≤ 2 ^ 40
