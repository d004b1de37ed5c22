-- The theorems about the tables of every kind of bound, as the public functions of this crate carry them. Assumes nothing.
use Rattle.std.specs.Prelude.{◌≡◌, ℕ, suc, ◌+◌, ◌^◌, ◌<◌, ◌≤◌, true, false, ◌⊎◌, ◌↔◌, List, Some}
use Rattle.bound.specs.Differences.{Differences, Same, zero_of, minus}
use Rattle.bound.specs.Meaning.{Meaning}
use Rattle.chart.specs.Lists.{All}
use Rattle.chart.specs.Charts.{Chart}
use Rattle.runs.specs.Runs.{Reading, Run, Joins, HasRun}
use Rattle.runs.specs.Graph.{Date, node, Chain, Allowed, Never}
use Rattle.runs.specs.Limits.{Name, NameOf, Before, Keeps, Sharp}
use Rattle.runs.specs.Tables.{Sum, Settled, Closed, Satisfies, Entry, Nodes, Pairwise, IsStar, KeepsDirect}
use Rattle.runs.specs.Places.{allowed_at, PivotedTo}
use Rattle.runs.specs.Normal.{table_of, Normalised, IsLimit}
use Rattle.runs.specs.Good.{Shows, Good}
use Rattle.runs.specs.Joining.{JoiningBounds}

-- ── Closed tables ──

-- dates of some nodes that keep a closed table two by two go on to dates of all nodes
abbrev pub PartialSolutionsExtend : {B : Type 0} → Meaning B → Type 0
PartialSolutionsExtend {B} m =
    (N : ℕ) (W : ℕ → ℕ → B) → Closed m.differences N (allowed_at m W)
    → (es : List (Entry m.differences)) → Nodes m.differences N es → Pairwise m.differences (allowed_at m W) es
    → (x : ℕ → m.differences.Diff) × Satisfies m.differences N (allowed_at m W) x × All (λ e. Same m.differences (x e.node) e.value) es

-- what a place of a closed table allows, a solution reaches; and so for what both sums of a limit allow
pub record Reaches {B : Type 0} (m : Meaning B) (N : ℕ) (W : ℕ → ℕ → B) : Type 0 where
  pub places : (u v : ℕ) → u < N → v < N → (d : m.differences.Diff) → m.allows (W u v) d
      → (x : ℕ → m.differences.Diff) × Satisfies m.differences N (allowed_at m W) x × m.differences.le d (minus m.differences (x u) (x v))
  pub limits : (a b c e : ℕ) → a < N → b < N → c < N → e < N → (d : m.differences.Diff)
      → Sum m.differences (m.allows (W b a)) (m.allows (W e c)) d → Sum m.differences (m.allows (W e a)) (m.allows (W b c)) d
      → (x : ℕ → m.differences.Diff) × Satisfies m.differences N (allowed_at m W) x
      × m.differences.le d (m.differences.add (minus m.differences (x b) (x a)) (minus m.differences (x e) (x c)))

abbrev pub ClosedTablesReached : {B : Type 0} → Meaning B → Type 0
ClosedTablesReached {B} m = (N : ℕ) (W : ℕ → ℕ → B) → Closed m.differences N (allowed_at m W) → Reaches m N W

-- a pivot on p keeps the solutions; where place (p, p) allows 0 it settles p and keeps what was settled; where it forbids 0 there is no solution
pub record PivotKeeps {B : Type 0} (m : Meaning B) (N : ℕ) (W : ℕ → ℕ → B) (p : ℕ) (V : ℕ → ℕ → B) : Type 0 where
  pub solutions : (x : ℕ → m.differences.Diff) → Satisfies m.differences N (allowed_at m W) x ↔ Satisfies m.differences N (allowed_at m V) x
  pub settles : m.allows (W p p) (zero_of m.differences) → Settled m.differences N (allowed_at m V) p
  pub keeps : m.allows (W p p) (zero_of m.differences) → (x : ℕ) → x < N → Settled m.differences N (allowed_at m W) x → Settled m.differences N (allowed_at m V) x
  pub forbids : (m.allows (W p p) (zero_of m.differences) → ⊥) → (x : ℕ → m.differences.Diff) → Satisfies m.differences N (allowed_at m W) x → ⊥

abbrev pub PivotsKeep : {B : Type 0} → Meaning B → Type 0
PivotsKeep {B} m = (N : ℕ) (W : ℕ → ℕ → B) (p : ℕ) (V : ℕ → ℕ → B) → p < N → PivotedTo m N W p V → PivotKeeps m N W p V

-- one new node on a closed table, with bounds into it and out of it: the solutions are those of the table that keep the bounds;
-- if no way out and back forbids 0, one pivot on the new node closes the table
pub record NewNode {B : Type 0} (m : Meaning B) (N : ℕ) (T : ℕ → ℕ → B) (into onward : ℕ → B) (W : ℕ → ℕ → B) : Type 0 where
  pub solutions : (x : ℕ → m.differences.Diff) → Satisfies m.differences (suc N) (allowed_at m W) x
      ↔ (Satisfies m.differences N (allowed_at m T) x × KeepsDirect m.differences N (λ i. m.allows (into i)) (λ i. m.allows (onward i)) x)
  pub closes : ((j : ℕ) → j < N → Sum m.differences (m.allows (onward j)) (m.allows (W j N)) (zero_of m.differences))
      → (V : ℕ → ℕ → B) → PivotedTo m (suc N) W N V → Closed m.differences (suc N) (allowed_at m V)

abbrev pub NewNodeCloses : {B : Type 0} → Meaning B → Type 0
NewNodeCloses {B} m =
    (N : ℕ) (T : ℕ → ℕ → B) (into onward : ℕ → B) (W : ℕ → ℕ → B) → Closed m.differences N (allowed_at m T)
    → IsStar m.differences N (allowed_at m T) (λ i. m.allows (into i)) (λ i. m.allows (onward i)) (allowed_at m W) → NewNode m N T into onward W

-- ── Runs and chains ──

-- a run has dates that show its readings and its time, and every chain allows their differences
pub record RunDates (D : Differences) (n : ℕ) (c : Chart) (σ : Reading D) (t : D.Diff) (ε : Reading D) : Type 0 where
  pub at : Date → D.Diff
  pub shows : Shows D n (λ u. at (node n c u)) σ t ε
  pub chains : {u v : Date} (π : Chain n c u v) → Allowed D π (minus D (at u) (at v))

abbrev pub RunsKeepChains : {B : Type 0} → Meaning B → Type 0
RunsKeepChains m =
    (n : ℕ) (c : Chart) (σ : Reading m.differences) (t : m.differences.Diff) (ε : Reading m.differences)
    → Run m.differences n c σ t ε → RunDates m.differences n c σ t ε

-- a chart has a run exactly when no closed chain forbids 0, once it is known to have a good table or such a chain
abbrev pub RunsExactly : {B : Type 0} → Meaning B → Type 0
RunsExactly {B} m =
    (n : ℕ) (c : Chart) → Never m.differences n c ⊎ ((W : ℕ → ℕ → B) × Good m.differences n c (allowed_at m W))
    → HasRun m.differences n c ↔ (Never m.differences n c → ⊥)

-- ── What a good table tells ──

pub record Tells {B : Type 0} (m : Meaning B) (n : ℕ) (c : Chart) (bounds : List B) : Type 0 where
  pub normalised : Normalised m n c bounds
  pub runs : HasRun m.differences n c
  -- the dates that keep the table are those of runs
  pub dates : (σ : Reading m.differences) (t : m.differences.Diff) (ε : Reading m.differences)
      → Run m.differences n c σ t ε
      ↔ ((x : ℕ → m.differences.Diff) × Satisfies m.differences (suc n + suc n) (table_of m n bounds) x × Shows m.differences n x σ t ε)
  -- every limit is sharp, and together they decide which pairs are joined
  pub sharp : (l : Name) → NameOf n l → (bound : B) → IsLimit m n bounds l bound → Sharp m n c l bound
  pub joined : (limit : Name → B) → ((l : Name) → NameOf n l → IsLimit m n bounds l (limit l))
      → (σ ε : Reading m.differences) → Joins m.differences n c σ ε ↔ ((l : Name) → NameOf n l → Keeps m (limit l) l σ ε)

abbrev pub TablesTell : {B : Type 0} → Meaning B → Type 0
TablesTell {B} m = (n : ℕ) (c : Chart) (bounds : List B) → Good m.differences n c (table_of m n bounds) → Tells m n c bounds

-- under the name l the first limit is not tighter, and under every name before it it is
pub record FailsFirst {B : Type 0} (m : Meaning B) (n : ℕ) (limit limit' : Name → B) (l : Name) : Type 0 where
  pub named : NameOf n l
  pub fails : m.tighter (limit l) (limit' l) ≡ false
  pub first : (k : Name) → NameOf n k → Before k l → m.tighter (limit k) (limit' k) ≡ true

-- one chart is within another exactly when each of its limits is tighter; and where one is not, there is a first such name
pub record Decides {B : Type 0} (m : Meaning B) (n : ℕ) (c c' : Chart) (limit limit' : Name → B) : Type 0 where
  pub within : ((σ ε : Reading m.differences) → Joins m.differences n c σ ε → Joins m.differences n c' σ ε)
      ↔ ((l : Name) → NameOf n l → m.tighter (limit l) (limit' l) ≡ true)
  pub either : ((l : Name) → NameOf n l → m.tighter (limit l) (limit' l) ≡ true) ⊎ ((l : Name) × FailsFirst m n limit limit' l)

abbrev pub LimitsTellWithin : {B : Type 0} → Meaning B → Type 0
LimitsTellWithin {B} m =
    (n : ℕ) (c c' : Chart) (bounds bounds' : List B) → Good m.differences n c (table_of m n bounds) → Good m.differences n c' (table_of m n bounds')
    → (limit limit' : Name → B) → ((l : Name) → NameOf n l → IsLimit m n bounds l (limit l)) → ((l : Name) → NameOf n l → IsLimit m n bounds' l (limit' l))
    → Decides m n c c' limit limit'

-- ── Sizes ──

-- the working's sums are answered: where the bounds of a table have sizes up to 2^40 and a window's number is up to 10^9.
-- `spread` is written bounds after places, `pivot` is two such sums, `limit` two places; `join` is a pivot on any of the at most 9 middle nodes
pub record Answered {B : Type 0} (m : Meaning B) : Type 0 where
  pub spread : (a b : B) → m.size_of a ≤ 2 ^ 40 → m.size_of b ≤ 10 ^ 9 + 1 → (s : B) × (m.sum a b ≡ Some s) × (m.size_of s ≤ 2 ^ 40 + (10 ^ 9 + 1))
  pub pivot : (a b : B) → m.size_of a ≤ 2 ^ 40 + (10 ^ 9 + 1) → m.size_of b ≤ 2 ^ 40 + (10 ^ 9 + 1) → (s : B) × (m.sum a b ≡ Some s)
  pub limit : (a b : B) → m.size_of a ≤ 2 ^ 40 → m.size_of b ≤ 2 ^ 40 → (s : B) × (m.sum a b ≡ Some s)
  pub join : (n : ℕ) (c d : Chart) (S T W : ℕ → ℕ → B) (k : ℕ) → n ≤ 8 → k ≤ n → JoiningBounds m n c d (allowed_at m S) (allowed_at m T) k W
      → (u v : ℕ) → u < suc n + (suc n + suc n) → v < suc n + (suc n + suc n) → (s : B) × (m.sum (W u (suc n + k)) (W (suc n + k) v) ≡ Some s)
