-- Square tables of bounds, laid out row by row at the front of a list. Assumes nothing.
use Rattle.std.specs.Prelude.{◌≡◌, ℕ, ◌+◌, ◌*◌, ◌^◌, ◌<◌, ◌≤◌, cond, ◌||◌, List, Some, None, Option, ◌==◌, slice_index_or}
use Rattle.bound.specs.Meaning.{Meaning, tighter_of}
use Rattle.runs.specs.Empty.{base}

module _ {B : Type 0} (m : Meaning B) where
  -- the bound at a place, and the one in row u and column v of a table of that side
  abbrev pub at : List B → ℕ → B
  at table i = slice_index_or table i m.opened

  abbrev pub cell : ℕ → List B → ℕ → ℕ → B
  cell side table u v = at table (u * side + v)

  -- nothing is changed from a place on
  abbrev pub Beyond : ℕ → (before after : List B) → Type 0
  Beyond end before after = (i : ℕ) → end ≤ i → at after i ≡ at before i

  -- nothing is changed but `count` places from `start` on
  pub record Only (start count : ℕ) (before after : List B) : Type 0 where
    pub below : (i : ℕ) → i < start → at after i ≡ at before i
    pub above : (i : ℕ) → start + count ≤ i → at after i ≡ at before i

  -- `count` places from `start` on hold what f says
  abbrev pub Holds : (start count : ℕ) → (ℕ → B) → List B → Type 0
  Holds start count f table = (v : ℕ) → v < count → at table (start + v) ≡ f v

  -- the first rows of the table hold what f says
  abbrev pub Rows : (side rows : ℕ) → (ℕ → ℕ → B) → List B → Type 0
  Rows side rows f table = (u v : ℕ) → u < rows → v < side → cell side table u v ≡ f u v

  -- every size in a table is at most 2^40
  abbrev pub Small : (side : ℕ) → List B → Type 0
  Small side table = (u v : ℕ) → u < side → v < side → m.size_of (cell side table u v) ≤ 2 ^ 40

  -- the empty chart's table: the zero bound from every date to now, and between the dates of one timer; else open
  abbrev pub empty_cell : B → (n u v : ℕ) → B
  empty_cell zero n u v = cond (base n v == 0 || base n u == base n v) zero m.opened

  -- the tighter of a bound and the sum of two others
  abbrev pub with_sum : B → Option B → B
  with_sum a None = a
  with_sum a (Some s) = tighter_of m a s

  abbrev pub relaxed : (a b c : B) → B
  relaxed a b c = with_sum a (m.sum b c)

  -- what a pivot on p makes of each place
  abbrev pub pivoted : (side p : ℕ) → List B → ℕ → ℕ → B
  pivoted side p table u v = relaxed (cell side table u v) (cell side table u p) (cell side table p v)

  -- the sums of a pivot on p are within the reach
  abbrev pub PivotFits : (side p : ℕ) → List B → Type 0
  PivotFits side p table = (u v : ℕ) → u < side → v < side → m.size_of (cell side table u p) + m.size_of (cell side table p v) ≤ m.reach
