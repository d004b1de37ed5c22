-- What each call on a board answers, by the charts of the boards. Assumes nothing.
use Rattle.std.specs.Prelude.{◌≡◌, ℕ, ◌+◌, ◌*◌, ◌^◌, ◌≤◌, Bool, true, ◌⊎◌, ◌↔◌, List, [], ◌∷◌, ◌++◌, length, Some, None, Ok, Err, Option, Result}
use Rattle.bound.specs.Differences.{Differences}
use Rattle.bound.specs.Meaning.{Meaning}
use Rattle.chart.specs.declared.types.MotionFault.{MotionFault}
use Rattle.chart.specs.Charts.{Motion, Chart}
use Rattle.chart.specs.Reading.{motion_of}
use Rattle.faults.specs.declared.types.BoardFault.{BoardFault}
use Rattle.faults.specs.declared.types.BoardFault.TheVariants as fault
use Rattle.runs.specs.Runs.{Reading, Run, Joins, HasRun}
use Rattle.runs.specs.Graph.{node, Tightest}
use Rattle.runs.specs.Limits.{Name, NameOf, Sharp}
use Rattle.runs.specs.Normal.{Normalised, IsLimit, Large}
use Rattle.runs.specs.Claims.{FailsFirst}
use Rattle.board.specs.Standing.{Standing, blank, charted}

-- ── Refusals ──

-- the call is refused where a condition holds, and else the rest decides
abbrev pub Stops : {T : Type 0} → Result T BoardFault → BoardFault → Type 0 → Type 0 → Type 0
Stops r fault when rest = (when × (r ≡ Err fault)) ⊎ ((when → ⊥) × rest)

-- the call is refused unless a condition holds, and then the rest decides
abbrev pub Needs : {T : Type 0} → Result T BoardFault → BoardFault → Type 0 → Type 0 → Type 0
Needs r fault condition rest = (condition × rest) ⊎ ((condition → ⊥) × (r ≡ Err fault))

-- the places of a table, and of a work table, for n timers
abbrev pub places : ℕ → ℕ
places n = (2 * n + 2) * (2 * n + 2)

abbrev pub work_places : ℕ → ℕ
work_places n = (3 * n + 3) * (3 * n + 3)

-- the chart runs, and a size in its normalised table is above 2^40
abbrev pub TooLarge : {B : Type 0} → Meaning B → ℕ → Chart → Type 0
TooLarge m n c = HasRun m.differences n c × Large m n c

-- how a call is refused that takes two opened boards of as many timers
abbrev pub NoPair : Standing → Standing → BoardFault → Type 0
NoPair blank other f = f ≡ fault.Blank
NoPair (charted n c) blank f = f ≡ fault.Blank
NoPair (charted n c) (charted k d) f = (n.count ≡ k.count → ⊥) × (f ≡ fault.Differ)

-- ── Open, motion, join ──

abbrev pub OpenIs : (room n : ℕ) → Result (Unit {0}) BoardFault → Type 0
OpenIs room n r = Needs r fault.Timers ((1 ≤ n) × (n ≤ 8)) (Needs r fault.Table (places n ≤ room) (r ≡ Ok tt))

-- a chart may become a longer one, unless that is too long or too large
abbrev pub GrowsTo : {B T : Type 0} → Meaning B → ℕ → Chart → T → Result T BoardFault → Type 0
GrowsTo m n longer answer r = Needs r fault.Count (length longer ≤ 10 ^ 9) (Stops r fault.Size (TooLarge m n longer) (r ≡ Ok answer))

-- the motion that is read, and how many bytes it used
abbrev pub ReadIs : {B : Type 0} → Meaning B → ℕ → Chart → Result (Motion × ℕ) MotionFault → Result ℕ BoardFault → Type 0
ReadIs m n c (Err e) r = r ≡ Err (fault.Motion e)
ReadIs m n c (Ok (motion, used)) r = GrowsTo m n (c ++ motion ∷ []) used r

abbrev pub MotionIs : {B : Type 0} → Meaning B → (work : ℕ) → Standing → List ℕ → Result ℕ BoardFault → Type 0
MotionIs m work blank bytes r = r ≡ Err fault.Blank
MotionIs m work (charted n c) bytes r = Needs r fault.Work (work_places n.count ≤ work) (ReadIs m n.count c (motion_of n bytes) r)

abbrev pub JoinIs : {B : Type 0} → Meaning B → (work : ℕ) → Standing → Standing → Result (Unit {0}) BoardFault → Type 0
JoinIs m work blank other r = r ≡ Err fault.Blank
JoinIs m work (charted n c) blank r = r ≡ Err fault.Blank
JoinIs m work (charted n c) (charted k d) r =
    Needs r fault.Differ (n.count ≡ k.count) (Needs r fault.Work (work_places n.count ≤ work) (GrowsTo m n.count (c ++ d) tt r))

-- ── Runs, count ──

abbrev pub RunsIs : {B : Type 0} → Meaning B → Standing → Result Bool BoardFault → Type 0
RunsIs m blank r = r ≡ Err fault.Blank
RunsIs m (charted n c) r = (answer : Bool) × (r ≡ Ok answer) × ((answer ≡ true) ↔ HasRun m.differences n.count c)

abbrev pub CountIs : Standing → Result ℕ BoardFault → Type 0
CountIs blank r = r ≡ Err fault.Blank
CountIs (charted n c) r = r ≡ Ok (length c)

-- ── Within ──

-- every pair of readings that the first chart joins, the second joins
abbrev pub PairsWithin : (D : Differences) → ℕ → Chart → Chart → Type 0
PairsWithin D n c d = (σ ε : Reading D) → Joins D n c σ ε → Joins D n d σ ε

-- the name of no limit, which a running board tells against one that never runs
abbrev pub no_limit : Name
no_limit = record { a = 0; b = 0; c = 0; d = 0 }

-- the first name under which the first chart's limit is not tighter than the second's. The sharp bounds of a chart under
-- a name allow the same, so it does not matter which of them stands for the limit
pub record FirstLooser {B : Type 0} (m : Meaning B) (n : ℕ) (c d : Chart) (l : Name) : Type 0 where
  pub limit : Name → B
  pub other : Name → B
  pub sharp : (k : Name) → NameOf n k → Sharp m n c k (limit k)
  pub other_sharp : (k : Name) → NameOf n k → Sharp m n d k (other k)
  pub first : FailsFirst m n limit other l

-- what within answers of two charts: none where the first is within the second, else the first limit that is not tighter, or no_limit where the second never runs
abbrev pub Compares : {B : Type 0} → Meaning B → ℕ → Chart → Chart → Option Name → Type 0
Compares m n c d None = PairsWithin m.differences n c d
Compares m n c d (Some l) =
    (PairsWithin m.differences n c d → ⊥) × HasRun m.differences n c
    × (((HasRun m.differences n d → ⊥) × (l ≡ no_limit)) ⊎ (HasRun m.differences n d × FirstLooser m n c d l))

abbrev pub WithinIs : {B : Type 0} → Meaning B → Standing → Standing → Result (Option Name) BoardFault → Type 0
WithinIs m blank other r = r ≡ Err fault.Blank
WithinIs m (charted n c) blank r = r ≡ Err fault.Blank
WithinIs m (charted n c) (charted k d) r =
    Needs r fault.Differ (n.count ≡ k.count) ((answer : Option Name) × (r ≡ Ok answer) × Compares m n.count c d answer)

-- ── Limit, span ──

-- how a call is refused that needs a chart that runs
abbrev pub NoRun : {B : Type 0} → Meaning B → Standing → BoardFault → Type 0
NoRun m blank f = f ≡ fault.Blank
NoRun m (charted n c) f = (HasRun m.differences n.count c → ⊥) × (f ≡ fault.Never)

-- the bound is the tighter of the two sums of places of the chart's normalised table, and it is sharp
pub record LimitOf {B : Type 0} (m : Meaning B) (n : ℕ) (c : Chart) (l : Name) (bound : B) : Type 0 where
  pub table : List B
  pub normalised : Normalised m n c table
  pub told : IsLimit m n table l bound
  pub sharp : Sharp m n c l bound

abbrev pub LimitIs : {B : Type 0} → Meaning B → Standing → Name → Result B BoardFault → Type 0
LimitIs m blank l r = r ≡ Err fault.Blank
LimitIs {B} m (charted n c) l r =
    Needs r fault.Never (HasRun m.differences n.count c)
    (Needs r fault.Name (NameOf n.count l) ((bound : B) × (r ≡ Ok bound) × LimitOf m n.count c l bound))

-- places (n + 1, 0) and (0, n + 1) of the normalised table; every run keeps the first by its time and the second by its negated time
pub record SpanOf {B : Type 0} (m : Meaning B) (n : ℕ) (c : Chart) (most least : B) : Type 0 where
  pub above : Tightest m.differences n c (node n c (n + 1)) (node n c 0) (m.allows most)
  pub below : Tightest m.differences n c (node n c 0) (node n c (n + 1)) (m.allows least)
  pub kept : (σ : Reading m.differences) (t : m.differences.Diff) (ε : Reading m.differences) → Run m.differences n c σ t ε
      → m.allows most t × m.allows least (m.differences.neg t)

abbrev pub SpanIs : {B : Type 0} → Meaning B → Standing → Result (B × B) BoardFault → Type 0
SpanIs m blank r = r ≡ Err fault.Blank
SpanIs {B} m (charted n c) r =
    Needs r fault.Never (HasRun m.differences n.count c)
    ((most : B) × (least : B) × (r ≡ Ok (most, least)) × SpanOf m n.count c most least)
