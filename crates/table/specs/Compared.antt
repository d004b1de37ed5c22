-- The limits that a table gives, and two tables compared under every name. Assumes nothing.
use Rattle.std.specs.Prelude.{◌≡◌, ℕ, ◌+◌, ◌<◌, ◌≤◌, Bool, true, not, ◌&&◌, ◌||◌, List, Some, None, Option, ◌==◌, nat_le}
use Rattle.bound.specs.Meaning.{Meaning, tighter_of}
use Rattle.runs.specs.Claims.{FailsFirst}
use Rattle.runs.specs.Limits.{Name, NameOf}
use Rattle.runs.specs.Normal.{place}
use Rattle.table.specs.Cells.{at}

-- two parts of a name are up to n, and equal only where both are 0
abbrev pub is_pair : (n x y : ℕ) → Bool
is_pair n x y = nat_le x n && (nat_le y n && (not (x == y) || x == 0))

-- the name of a limit for n timers
abbrev pub is_name : ℕ → Name → Bool
is_name n l = is_pair n l.a l.b && (is_pair n l.c l.d && not (l.a + l.b + l.c + l.d == 0))

-- the parts of a name are up to n
pub record Parts (n : ℕ) (l : Name) : Type 0 where
  pub a_most : l.a ≤ n
  pub b_most : l.b ≤ n
  pub c_most : l.c ≤ n
  pub d_most : l.d ≤ n

module _ {B : Type 0} (m : Meaning B) where
  -- a sum that is answered, else open
  abbrev pub answered : Option B → B
  answered None = m.opened
  answered (Some s) = s

  -- the sum of places (b, a) and (n + 1 + d, n + 1 + c), and that of places (n + 1 + d, a) and (b, n + 1 + c)
  abbrev pub straight : ℕ → List B → Name → Option B
  straight n table l = m.sum (place m n table l.b l.a) (place m n table (n + 1 + l.d) (n + 1 + l.c))

  abbrev pub crossed : ℕ → List B → Name → Option B
  crossed n table l = m.sum (place m n table (n + 1 + l.d) l.a) (place m n table l.b (n + 1 + l.c))

  -- the limit under a name: the tighter of the two
  unfoldable pub limit_at : ℕ → List B → Name → B
  limit_at n table l = tighter_of m (answered (straight n table l)) (answered (crossed n table l))

  -- whether the first table's limit is tighter under a name
  abbrev pub tighter_at : ℕ → (table other : List B) → Name → Bool
  tighter_at n table other l = m.tighter (limit_at n table l) (limit_at n other l)

  -- the first bounds of one table are tighter, place by place
  abbrev pub AllTighter : ℕ → (table other : List B) → Type 0
  AllTighter count table other = (i : ℕ) → i < count → m.tighter (at m table i) (at m other i) ≡ true

  -- what is found: nothing where every name passes, else the first that fails
  abbrev pub FoundFirst : ℕ → (table other : List B) → Option Name → Type 0
  FoundFirst n table other None = (l : Name) → NameOf n l → tighter_at n table other l ≡ true
  FoundFirst n table other (Some l) = FailsFirst m n (limit_at n table) (limit_at n other) l
