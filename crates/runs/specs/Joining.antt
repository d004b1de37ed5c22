-- What holds while two tables are joined: over the nodes of the first table and of the second's end, after pivots on the first k nodes of the middle. Assumes nothing.
use Rattle.std.specs.Prelude.{◌≡◌, ℕ, suc, ◌+◌, ◌-◌, ◌^◌, ◌<◌, ◌≤◌, cond, ◌⊎◌, ◌++◌, length, nat_le}
use Rattle.bound.specs.Differences.{Differences, zero_of}
use Rattle.bound.specs.Meaning.{Meaning, tighter_of}
use Rattle.runs.specs.Lists.{row}
use Rattle.chart.specs.Charts.{Chart}
use Rattle.runs.specs.Graph.{before, Date, date, node, Attained}
use Rattle.runs.specs.Tables.{Table, Lower, Settled, Satisfies}
use Rattle.runs.specs.Sizes.{SizedBy}
use Rattle.runs.specs.Places.{allowed_at, size_at}

-- the dates of the 3n + 3 nodes: those of the first chart's table, then those at the end of both
abbrev pub join_node : ℕ → (c d : Chart) → ℕ → Date
join_node n c d u = cond (nat_le (suc n + suc n) u) (date (before (length (c ++ d))) (u - (suc n + suc n))) (node n c u)

-- W is the table of S and T end to end: S, then T from its end on, the tighter of both in the middle, and nothing between the outer ends.
pub record JoinedTo {B : Type 0} (m : Meaning B) (n : ℕ) (S T W : ℕ → ℕ → B) : Type 0 where
  pub first : (u v : ℕ) → u < suc n + suc n → v < suc n + suc n → (u < suc n) ⊎ (v < suc n) → W u v ≡ S u v
  pub middle : (i j : ℕ) → i < suc n → j < suc n → W (suc n + i) (suc n + j) ≡ tighter_of m (S (suc n + i) (suc n + j)) (T i j)
  pub second : (i j : ℕ) → i < suc n + suc n → j < suc n + suc n → (suc n ≤ i) ⊎ (suc n ≤ j) → W (suc n + i) (suc n + j) ≡ T i j
  pub open_onward : (u j : ℕ) → u < suc n → j < suc n + suc n → suc n ≤ j → W u (suc n + j) ≡ m.opened
  pub open_back : (i v : ℕ) → i < suc n + suc n → suc n ≤ i → v < suc n → W (suc n + i) v ≡ m.opened

pub record Joining (D : Differences) (n : ℕ) (c d : Chart) (S T : Table D) (k : ℕ) (W : Table D) : Type 0 where
  pub lower : (u v : ℕ) → Lower D (W u v)
  pub no_more : (u : ℕ) → u < suc n + (suc n + suc n) → (e : D.Diff) → W u u e → D.le e (zero_of D)
  pub settled : (u : ℕ) → u < suc n + (suc n + suc n) → Settled D (suc n + (suc n + suc n)) W u ⊎ ((suc n + k ≤ u) × (u < suc n + suc n))
  pub parts : (x : ℕ → D.Diff) → Satisfies D (suc n + (suc n + suc n)) W x
      → Satisfies D (suc n + suc n) S x × Satisfies D (suc n + suc n) T (λ i. x (suc n + i))
  pub attained : (u v : ℕ) → u < suc n + (suc n + suc n) → v < suc n + (suc n + suc n)
      → Attained D n (c ++ d) (join_node n c d u) (join_node n c d v) (W u v)

-- the same of a table of bounds, with the sizes that keep its sums from being refused
pub record JoiningBounds {B : Type 0} (m : Meaning B) (n : ℕ) (c d : Chart) (S T : Table m.differences) (k : ℕ) (W : ℕ → ℕ → B) : Type 0 where
  pub joining : Joining m.differences n c d S T k (allowed_at m W)
  pub sized : SizedBy m.differences (suc n + (suc n + suc n)) (allowed_at m W) (row (λ i. suc n + i) k) (2 ^ 40) (size_at m W)

-- The names after a join: the start of the first table and the end of the second.
pub record JoinNames (n : ℕ) (name : ℕ → ℕ) : Type 0 where
  pub first : (i : ℕ) → i < suc n → name i ≡ i
  pub last : (i : ℕ) → i < suc n → name (suc n + i) ≡ suc n + (suc n + i)

-- names that do so
abbrev pub join_name : ℕ → ℕ → ℕ
join_name n u = cond (nat_le u n) u (suc n + u)
