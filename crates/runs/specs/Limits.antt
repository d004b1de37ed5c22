-- The limits on what a chart joins: their names and their order, the value that each bounds, and what a sharp bound is. Assumes nothing.
use Rattle.std.specs.Prelude.{◌≡◌, ℕ, ◌+◌, ◌<◌, ◌≤◌, ◌⊎◌}
use Rattle.bound.specs.Differences.{Differences, minus}
use Rattle.bound.specs.Meaning.{Meaning, Inside}
use Rattle.chart.specs.Charts.{Chart}
use Rattle.runs.specs.declared.names.Name.{Name as Declared}
use Rattle.runs.specs.Runs.{Reading, reads, Joins}

-- a limit's name, as the code holds it
abbrev pub Name : Type 0
Name = Declared

-- an equal pair is named 0 0, and 0 0 0 0 is no limit
pub record Proper (a b c d : ℕ) : Type 0 where
  pub first : a ≡ b → a ≡ 0
  pub second : c ≡ d → c ≡ 0
  pub some : a + b + c + d ≡ 0 → ⊥

-- the names of limits for n timers
pub record NameOf (n : ℕ) (l : Name) : Type 0 where
  pub a_most : l.a ≤ n
  pub b_most : l.b ≤ n
  pub c_most : l.c ≤ n
  pub d_most : l.d ≤ n
  pub proper : Proper l.a l.b l.c l.d

-- rising order of a, then b, c, d
abbrev pub Before : Name → Name → Type 0
Before k l =
    (k.a < l.a) ⊎ ((k.a ≡ l.a) × ((k.b < l.b) ⊎ ((k.b ≡ l.b) × ((k.c < l.c) ⊎ ((k.c ≡ l.c) × (k.d < l.d))))))

-- start(a) − start(b) + end(c) − end(d)
abbrev pub value_of : (D : Differences) → Name → (start end : Reading D) → D.Diff
value_of D l σ ε = D.add (minus D (reads D σ l.a) (reads D σ l.b)) (minus D (reads D ε l.c) (reads D ε l.d))

-- a pair of readings keeps a bound under the name
abbrev pub Keeps : {B : Type 0} (m : Meaning B) → B → Name → (start end : Reading m.differences) → Type 0
Keeps m bound l σ ε = m.allows bound (value_of m.differences l σ ε)

-- all pairs that the chart joins keep the bound, and no tighter one
pub record Sharp {B : Type 0} (m : Meaning B) (n : ℕ) (c : Chart) (l : Name) (bound : B) : Type 0 where
  pub kept : (σ ε : Reading m.differences) → Joins m.differences n c σ ε → Keeps m bound l σ ε
  pub least : (other : B) → ((σ ε : Reading m.differences) → Joins m.differences n c σ ε → Keeps m other l σ ε) → Inside m bound other
