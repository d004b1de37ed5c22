-- What codes of chains and of runs show of a chart: that it never runs, that a limit is kept, that it is sharp, and what a run's time may be. Assumes nothing.
use Rattle.std.proofs.Common.{◌≡◌, ℕ, ◌≤◌, Bool, true, false, cond, not, ◌&&◌, T, leb, List, [], ◌∷◌, map, length, ℤ, pos, ◌≤ℤ◌, Some, None, Option, refl, arith, leb→le}
use lib.Signed.{le_z, le_z_yes}
use Rattle.bound.specs.Differences.{Differences, Same, Ordered, zero_of, minus}
use Rattle.bound.specs.Meaning.{Meaning, Laws}
use Rattle.bound.specs.Ticks.{ticks, tick_meaning}
use Rattle.bound.specs.declared.tick.Tick.TheVariants.{AtMost}
use Rattle.bound.specs.Groups.{≈-refl, ≈-sym}
use Rattle.bound.specs.Solver.{Expr, ◌⊞◌, ◌⊟◌, opp, nil, v0, v1, v2, v3, v4, v5, v6, le_from2, same_from2}
use Rattle.bound.specs.Ticking.{lawful}
use Rattle.chart.specs.Charts.{Chart}
use Rattle.runs.specs.Runs.{Reading, reads, Run, Joins, HasRun}
use Rattle.runs.specs.Graph.{before, Date, date, Chain, Allowed}
use Rattle.runs.specs.Graph.Moment.{start}
use Rattle.runs.specs.Limits.{Name, value_of, Keeps, Sharp}
use Rattle.runs.specs.Worked.{NeverRuns}
use Rattle.runs.proofs.Instants.{Instant, instants, ends}
use Rattle.runs.proofs.Sound.{run_date, chain_kept}
use Rattle.runs.proofs.Chains.{allowed_lower, never_runs}
use Rattle.bound.proofs.Lawful.{zero_not_tighter}
use Rattle.runs.proofs.ChainCodes.{Code, both, is_true, is_false, leads, plus, plus_some, bound_of, coded}
use Rattle.runs.proofs.RunCodes.{reading, passes, end_by, time_by, run_by}

-- now or a timer's date at the chart's end
abbrev pub ending : Chart → ℕ → Date
ending c i = date (before (length c)) i

-- The two chains of a limit end at date a of the start and date c of the end. They begin at dates b and d, in this order where they are straight.
abbrev first_from : Chart → Bool → Name → Date
first_from c straight l = cond straight (date start l.b) (ending c l.d)

abbrev second_from : Chart → Bool → Name → Date
second_from c straight l = cond straight (ending c l.d) (date start l.b)

-- ── The dates of a run at its start and its end ──

module _ {D : Differences} (o : Ordered D) (n : ℕ) (c : Chart) (σ : Reading D) (t : D.Diff) (ε : Reading D) (run : Run D n c σ t ε) where
  open D use {Diff, le, add, neg}

  abbrev at : Date → Diff
  at = run_date o n c σ t ε run (zero_of D)

  end_date : (i : ℕ) → i ≤ n → Same D (at (ending c i)) (minus D t (reads D ε i))
  end_date i h =
      let last : Instant D = instants D n (before (length c)) c σ t ε run.1 (zero_of D) in
      let e = ends o n c σ t ε run.1 (zero_of D) in
      same_from2 o (last.now ∷ t ∷ reads D last.reading i ∷ reads D ε i ∷ []) (v0 ⊟ v2) (v1 ⊟ v3) v0 (nil ⊞ v1) v3 v2 refl e.0 (≈-sym o (e.1 i h))

  -- the first chain's difference and the second's
  abbrev along : Bool → Name → Diff
  along straight l = add (minus D (at (first_from c straight l)) (at (date start l.a))) (minus D (at (second_from c straight l)) (at (ending c l.c)))

  value_below : (straight : Bool) (l : Name) → l.c ≤ n → l.d ≤ n → le (value_of D l σ ε) (along straight l)
  value_below straight l hc hd = go straight
    where
      xs : List Diff
      xs = reads D σ l.a ∷ reads D σ l.b ∷ reads D ε l.c ∷ reads D ε l.d ∷ t ∷ at (ending c l.c) ∷ at (ending c l.d) ∷ []

      value : Expr
      value = v0 ⊟ v1 ⊞ (v2 ⊟ v3)

      go : (straight : Bool) → le (value_of D l σ ε) (along straight l)
      go true =
          le_from2 o xs value (nil ⊟ v1 ⊟ (nil ⊟ v0) ⊞ (v6 ⊟ v5)) (v4 ⊟ v3) v6 v5 (v4 ⊟ v2) refl (end_date l.d hd).1 (end_date l.c hc).0
      go false =
          le_from2 o xs value (v6 ⊟ (nil ⊟ v0) ⊞ (nil ⊟ v1 ⊟ v5)) (v4 ⊟ v3) v6 v5 (v4 ⊟ v2) refl (end_date l.d hd).1 (end_date l.c hc).0

  -- TIME: every chain between now at the start and now at the end allows the run's time, and what is below it
  pub time_allowed : (π : Chain n c (ending c 0) (date start 0)) (d : Diff) → le d t → Allowed D π d
  time_allowed π d h =
      let e = end_date 0 (omega arith) in
      allowed_lower o π (minus D (at (ending c 0)) (at (date start 0))) d
      (le_from2 o (d ∷ t ∷ at (ending c 0) ∷ []) v0 (v2 ⊟ (nil ⊟ nil)) v0 v1 (v1 ⊟ nil) v2 refl h e.1) (chain_kept o n c σ t ε run (zero_of D) π)

  pub negated_allowed : (π : Chain n c (date start 0) (ending c 0)) (d : Diff) → le d (neg t) → Allowed D π d
  negated_allowed π d h =
      let e = end_date 0 (omega arith) in
      allowed_lower o π (minus D (at (date start 0)) (at (ending c 0))) d
      (le_from2 o (d ∷ t ∷ at (ending c 0) ∷ []) v0 (nil ⊟ nil ⊟ v2) v0 (opp v1) v2 (v1 ⊟ nil) refl h e.0) (chain_kept o n c σ t ε run (zero_of D) π)

-- ── Tests of codes of chains ──

module _ {B : Type 0} (m : Meaning B) where
  -- whether a bound does not allow all that the zero bound allows
  abbrev excludes : Option B → Option B → Bool
  excludes None b = false
  excludes (Some z) None = false
  excludes (Some z) (Some b) = not (m.tighter z b)

  -- whether a bound that was answered is tighter
  abbrev is_tighter : Option B → B → Bool
  is_tighter None bound = false
  is_tighter (Some s) bound = m.tighter s bound

  tighter_some : (x : Option B) (bound : B) → T (is_tighter x bound) → (s : B) × (x ≡ Some s) × (m.tighter s bound ≡ true)
  tighter_some None bound h = absurd h
  tighter_some (Some s) bound h = (s, refl, is_true (m.tighter s bound) h)

module _ {B : Type 0} (m : Meaning B) (n : ℕ) (c : Chart) where
  -- whether the codes make a closed chain that does not allow 0
  abbrev closes : Date → List Code → Bool
  closes u ks = leads n c u ks u && excludes m (m.written false (pos 0)) (bound_of m n c ks)

  -- whether the codes make two chains of the limit whose sum is tighter than the bound
  abbrev keeps : Name → B → (straight : Bool) (ks ks' : List Code) → Bool
  keeps l bound straight ks ks' =
      (leb l.c n && leb l.d n)
      && ((leads n c (first_from c straight l) ks (date start l.a) && leads n c (second_from c straight l) ks' (ending c l.c))
      && is_tighter m (plus m (bound_of m n c ks) (bound_of m n c ks')) bound)

-- ── What they show ──

-- NEVER: by a closed chain
pub never_by : {B : Type 0} {m : Meaning B} (laws : Laws m) {n : ℕ} {c : Chart} (u : Date) (ks : List Code) → T (closes m n c u ks)
    → NeverRuns m.differences n c
never_by {B} {m} laws {n} {c} u ks h =
    let (l, x) = both (leads n c u ks u) _ h in
    let (π, allowed) = coded m n c laws ks u u l in
    let no : Allowed m.differences π nought → ⊥ = λ k. go (m.written false (pos 0)) (bound_of m n c ks) refl x (λ b is. allowed b is nought k) in
    ((u, π, no), never_runs laws.ordered (u, π, no))
  where
    nought : m.differences.Diff
    nought = zero_of m.differences

    go : (z b : Option B) → m.written false (pos 0) ≡ z → T (excludes m z b) → ((r : B) → b ≡ Some r → m.allows r nought) → ⊥
    go None b e x k = x
    go (Some z) None e x k = x
    go (Some z) (Some b) e x k = zero_not_tighter m laws z b e (is_false (m.tighter z b) x) (k b refl)

module _ {B : Type 0} (m : Meaning B) (laws : Laws m) (n : ℕ) (c : Chart) where
  abbrev D : Differences
  D = m.differences

  -- KEPT: by two chains
  pub kept_by : (l : Name) (bound : B) (straight : Bool) (ks ks' : List Code) → T (keeps m n c l bound straight ks ks')
      → (σ ε : Reading D) → Joins D n c σ ε → Keeps m bound l σ ε
  kept_by l bound straight ks ks' h σ ε (t, run) =
      let (named, r) = both (leb l.c n && leb l.d n) _ h in
      let (hc, hd) = both (leb l.c n) _ named in
      let (lead, x) = both _ (is_tighter m (plus m (bound_of m n c ks) (bound_of m n c ks')) bound) r in
      let (first, second) = both (leads n c from ks (date start l.a)) (leads n c from' ks' (ending c l.c)) lead in
      let (π, allowed) = coded m n c laws ks from (date start l.a) first in
      let (ρ, allowed') = coded m n c laws ks' from' (ending c l.c) second in
      let (s, is, tighter) = tighter_some m (plus m (bound_of m n c ks) (bound_of m n c ks')) bound x in
      let (a, b, is_a, is_b, sum) = plus_some m (bound_of m n c ks) (bound_of m n c ks') s is in
      let e : D.Diff = minus D (at_run from) (at_run (date start l.a)) in
      let f : D.Diff = minus D (at_run from') (at_run (ending c l.c)) in
      laws.lower bound (D.add e f) _ (value_below laws.ordered n c σ t ε run straight l (leb→le l.c n hc) (leb→le l.d n hd))
      (laws.tighter_yes s bound tighter (D.add e f)
      ((laws.sum_allows a b s sum (D.add e f)).1 (e, f, allowed a is_a e (kept π), allowed' b is_b f (kept ρ), ≈-refl laws.ordered (D.add e f))))
    where
      from : Date
      from = first_from c straight l

      from' : Date
      from' = second_from c straight l

      at_run : Date → D.Diff
      at_run = run_date laws.ordered n c σ t ε run (zero_of D)

      kept : {u v : Date} (π : Chain n c u v) → Allowed D π (minus D (at_run u) (at_run v))
      kept π = chain_kept laws.ordered n c σ t ε run (zero_of D) π

-- SHARP: a limit that is kept, and that joined pairs reach
pub sharp_reached : {B : Type 0} {m : Meaning B} (laws : Laws m) {n : ℕ} {c : Chart} {l : Name} {bound : B}
    → ((σ ε : Reading m.differences) → Joins m.differences n c σ ε → Keeps m bound l σ ε)
    → ((d : m.differences.Diff) → m.allows bound d
    → (σ : Reading m.differences) × (ε : Reading m.differences) × Joins m.differences n c σ ε × m.differences.le d (value_of m.differences l σ ε))
    → Sharp m n c l bound
sharp_reached {m} laws {l} kept reached =
    record { kept = kept; least = λ other h d k. let (σ, ε, j, below) = reached d k in laws.lower other (value_of m.differences l σ ε) d below (h σ ε j) }

-- ── On whole ticks, by codes of a run ──

-- the value under a name that the run from a start by waits has
abbrev value_by : Chart → Name → (starts waits : List ℕ) → ℤ
value_by c l xs ws = value_of ticks l (reading xs) (end_by ticks c (reading xs) (map pos ws))

pub sharp_by : {n : ℕ} {c : Chart} {l : Name} {k : ℤ} (straight : Bool) (ks ks' : List Code) (starts waits : List ℕ)
    → T (keeps tick_meaning n c l (AtMost k) straight ks ks' && (passes c (reading starts) waits && le_z k (value_by c l starts waits)))
    → Sharp tick_meaning n c l (AtMost k)
sharp_by {n} {c} {l} {k} straight ks ks' xs ws h =
    let (kept, r) = both (keeps tick_meaning n c l (AtMost k) straight ks ks') _ h in
    let (pass, x) = both (passes c (reading xs) ws) (le_z k (value_by c l xs ws)) r in
    let reach : k ≤ℤ value_by c l xs ws = le_z_yes x in
    sharp_reached lawful (kept_by tick_meaning lawful n c l (AtMost k) straight ks ks' kept)
    (λ d below. (
      reading xs,
      end_by ticks c (reading xs) (map pos ws),
      (time_by ticks c (map pos ws), run_by n c xs ws pass),
      lawful.ordered.le_trans d k (value_by c l xs ws) below reach,
    ))

pub runs_by : (n : ℕ) (c : Chart) (starts waits : List ℕ) → T (passes c (reading starts) waits) → HasRun ticks n c
runs_by n c xs ws h = (reading xs, end_by ticks c (reading xs) (map pos ws), (time_by ticks c (map pos ws), run_by n c xs ws h))
