-- Tables of sets of differences: place (u, v) bounds the date of u less the date of v. Nodes are the numbers below N.
use Rattle.std.specs.Prelude.{ℕ, ◌+◌, ◌<◌, ◌≤◌, ◌⊎◌, ◌↔◌, List}
use Rattle.bound.specs.Differences.{Differences, zero_of, minus}
use Rattle.chart.specs.Lists.{All}

-- A set of differences.
abbrev pub Set : Differences → Type 1
Set D = D.Diff → Type 0

abbrev pub Table : Differences → Type 1
Table D = ℕ → ℕ → D.Diff → Type 0

-- With a difference, each smaller one.
abbrev pub Lower : (D : Differences) → Set D → Type 0
Lower D S = (d e : D.Diff) → D.le e d → S d → S e

-- All of the first set is in the second.
abbrev pub Within : (D : Differences) → Set D → Set D → Type 0
Within D S R = (d : D.Diff) → S d → R d

-- The sum of two sets, closed downwards.
abbrev pub Sum : (D : Differences) → Set D → Set D → Set D
Sum D S S' d = (e : D.Diff) × (f : D.Diff) × S e × S' f × D.le d (D.add e f)

-- What a table says from u to v, it says through x too.
abbrev pub Through : (D : Differences) → ℕ → Table D → ℕ → Type 0
Through D N T x = (u v : ℕ) → u < N → v < N → (d : D.Diff) → T u v d → Sum D (T u x) (T x v) d

-- Node x is settled: whatever the table says of others, it says through x, and x may stand by itself.
pub record Settled (D : Differences) (N : ℕ) (T : Table D) (x : ℕ) : Type 0 where
  pub through : Through D N T x
  pub nought : T x x (zero_of D)

-- A closed (normalised) table that has a solution.
pub record Closed (D : Differences) (N : ℕ) (T : Table D) : Type 0 where
  pub lower : (u v : ℕ) → Lower D (T u v)
  pub no_more : (u : ℕ) → u < N → (d : D.Diff) → T u u d → D.le d (zero_of D)
  pub settled : (u : ℕ) → u < N → Settled D N T u

-- Dates that keep the table.
abbrev pub Satisfies : (D : Differences) → ℕ → Table D → (ℕ → D.Diff) → Type 0
Satisfies D N T x = (u v : ℕ) → u < N → v < N → T u v (minus D (x u) (x v))

-- A node with a date: part of a solution.
pub record Entry (D : Differences) : Type 0 where
  pub node : ℕ
  pub value : D.Diff

-- Two entries keep the table, in this order.
abbrev pub Fits : (D : Differences) → Table D → Entry D → Entry D → Type 0
Fits D T i j = T i.node j.node (minus D i.value j.value)

-- All of them keep the table, two by two.
abbrev pub Pairwise : (D : Differences) → Table D → List (Entry D) → Type 0
Pairwise D T es = All (λ i. All (Fits D T i) es) es

abbrev pub Nodes : (D : Differences) → ℕ → List (Entry D) → Type 0
Nodes D N es = All (λ e. e.node < N) es

-- A pivot on p: at each place, what the place and the way through p both allow.
abbrev pub Pivoted : (D : Differences) → Table D → ℕ → Table D
Pivoted D W p u v d = W u v d × Sum D (W u p) (W p v) d

-- Q is the tightest of a family of sets: each holds all of Q, and one of them no more, or Q is open.
pub record TightestOf (D : Differences) {I : Type 0} (S : I → Set D) (Q : Set D) : Type 0 where
  pub within : (i : I) → Within D Q (S i)
  pub reached : ((i : I) × Within D (S i) Q) ⊎ ((d : D.Diff) → Q d)

-- V is W after a pivot on p: each place is the tighter of the place and the way through p.
pub record IsPivot (D : Differences) (N : ℕ) (W : Table D) (p : ℕ) (V : Table D) : Type 0 where
  pub both : (u v : ℕ) → u < N → v < N → (d : D.Diff) → V u v d ↔ Pivoted D W p u v d
  pub either : (u v : ℕ) → u < N → v < N → Within D (W u v) (V u v) ⊎ Within D (Sum D (W u p) (W p v)) (V u v)

-- What the nodes below N say of date u less the date of a new node, where a i bounds date i less the new date.
abbrev pub Into : (D : Differences) → ℕ → Table D → (ℕ → Set D) → ℕ → Set D
Into D N T a u d = (i : ℕ) → i < N → Sum D (T u i) (a i) d

-- What they say of the new date less date v, where b i bounds the new date less date i.
abbrev pub Onward : (D : Differences) → ℕ → Table D → (ℕ → Set D) → ℕ → Set D
Onward D N T b v d = (i : ℕ) → i < N → Sum D (b i) (T i v) d

-- W is the table T with the new node N.
pub record IsStar (D : Differences) (N : ℕ) (T : Table D) (a b : ℕ → Set D) (W : Table D) : Type 0 where
  pub old : (u v : ℕ) → u < N → v < N → (d : D.Diff) → W u v d ↔ T u v d
  pub into : (u : ℕ) → u < N → (d : D.Diff) → W u N d ↔ Into D N T a u d
  pub onward : (v : ℕ) → v < N → (d : D.Diff) → W N v d ↔ Onward D N T b v d
  pub self : (d : D.Diff) → W N N d ↔ D.le d (zero_of D)

-- Dates of the nodes up to N keep the direct bounds of the node N.
pub record KeepsDirect (D : Differences) (N : ℕ) (a b : ℕ → Set D) (x : ℕ → D.Diff) : Type 0 where
  pub into : (i : ℕ) → i < N → a i (minus D (x i) (x N))
  pub onward : (i : ℕ) → i < N → b i (minus D (x N) (x i))

-- The table on other nodes: node i stands for the node f i. Two may stand for one.
abbrev pub Renamed : (D : Differences) → Table D → (ℕ → ℕ) → Table D
Renamed D T f u v = T (f u) (f v)

-- W is the table of two tables end to end, over 3m nodes: the end nodes of the first are the start nodes of the second.
pub record IsJoined (D : Differences) (m : ℕ) (S T : Table D) (W : Table D) : Type 0 where
  pub left_out : (u v : ℕ) → u < m + m → v < m + m → (d : D.Diff) → W u v d → S u v d
  pub left_in : (u v : ℕ) → u < m + m → v < m + m → (u < m) ⊎ (v < m) → (d : D.Diff) → S u v d → W u v d
  pub middle_either : (i j : ℕ) → i < m → j < m → Within D (S (m + i) (m + j)) (W (m + i) (m + j)) ⊎ Within D (T i j) (W (m + i) (m + j))
  pub right_out : (i j : ℕ) → i < m + m → j < m + m → (d : D.Diff) → W (m + i) (m + j) d → T i j d
  pub right_in : (i j : ℕ) → i < m + m → j < m + m → (m ≤ i) ⊎ (m ≤ j) → (d : D.Diff) → T i j d → W (m + i) (m + j) d
  pub open_right : (u j : ℕ) → u < m → j < m + m → m ≤ j → (d : D.Diff) → W u (m + j) d
  pub open_left : (i v : ℕ) → i < m + m → m ≤ i → v < m → (d : D.Diff) → W (m + i) v d
