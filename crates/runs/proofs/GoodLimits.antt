-- What a chart's table tells of its limits: they are sharp, and they say which readings the chart joins and which charts are within which. Assumes nothing.
use Rattle.std.proofs.Common.{◌≡◌, ℕ, suc, ◌+◌, ◌<◌, ◌≤◌, true, ◌↔◌, List, [], ◌∷◌, refl, subst₂, arith}
use Rattle.bound.specs.Differences.{Differences, Ordered, minus}
use Rattle.bound.specs.Meaning.{Meaning, Laws, SumOf}
use Rattle.bound.proofs.Lawful.{inside_tighter}
use Rattle.chart.specs.Charts.{Chart}
use Rattle.runs.specs.Runs.{Reading, reads, Joins}
use Rattle.runs.specs.Limits.{Name, NameOf, value_of, Keeps, Sharp}
use Rattle.runs.specs.Normal.{place, table_of, Normalised, IsLimit}
use Rattle.runs.specs.Tables.{Set, Table, Sum, Satisfies}
use Rattle.runs.specs.Good.{Good}
use Rattle.bound.specs.Groups.{≤_trans}
use Rattle.bound.specs.Solver.{◌⊞◌, ◌⊟◌, v0, v1, v2, v3, v4, v5, le_from2}
use Rattle.runs.proofs.Sums.{sum_exact}
use Rattle.runs.proofs.Tight.{tight}
use Rattle.runs.proofs.Dates.{KeepsNamed}
use Rattle.runs.proofs.Elapsed.{elapsed, named_are_all, limits_kept}
use Rattle.runs.proofs.GoodRuns.{start_of, end_of, time_of, dates_of, shows_own, shows_dates, run_kept, solution_runs, tightest}

-- The limit of a table under a name, as a set: what both sums allow.
abbrev pub LimitSet : (D : Differences) → ℕ → Table D → Name → Set D
LimitSet D n T l e =
    Sum D (T l.b l.a) (T (suc n + l.d) (suc n + l.c)) e × Sum D (T (suc n + l.d) l.a) (T l.b (suc n + l.c)) e

-- ── For sets ──

module _ {D : Differences} (o : Ordered D) (n : ℕ) (c : Chart) (T : Table D) (good : Good D n c T) where
  open D use {Diff, le, add, neg}

  -- KEPT: pairs that the chart joins keep every limit.
  pub limit_kept : (l : Name) → NameOf n l → (σ ε : Reading D) → Joins D n c σ ε → LimitSet D n T l (value_of D l σ ε)
  limit_kept l of σ ε (t, run) =
      let k = limits_kept o (suc n) T good.closed (reads D σ) (reads D ε) t (run_kept o n c T good σ t ε run)
      l.a l.b l.c l.d (below of.a_most) (below of.b_most) (below of.c_most) (below of.d_most) in
      (k.straight, k.crossed)
    where
      below : {i : ℕ} → i ≤ n → i < suc n
      below h = omega arith

  -- JOINED: a pair that keeps every limit that has a name is joined.
  pub limits_join : (σ ε : Reading D) → ((l : Name) → NameOf n l → LimitSet D n T l (value_of D l σ ε)) → Joins D n c σ ε
  limits_join σ ε h = go (elapsed o (suc n) T good.closed (reads D σ) (reads D ε) (omega arith)
      (named_are_all o (suc n) T good.closed (reads D σ) (reads D ε) (omega arith) named))
    where
      named : KeepsNamed D (suc n) T (reads D σ) (reads D ε)
      named a b c d ha hb hc hd p =
          let k = h (record { a = a; b = b; c = c; d = d })
          record { a_most = omega arith; b_most = omega arith; c_most = omega arith; d_most = omega arith; proper = p } in
          record { straight = k.0; crossed = k.1 }

      go : ((t : Diff) × Satisfies D (suc n + suc n) T (dates_of o n σ t ε)) → Joins D n c σ ε
      go (t, s) = (t, good.runs (dates_of o n σ t ε) s σ t ε (shows_dates o n σ t ε))

  -- REACHED: what a limit allows, a pair that the chart joins reaches.
  pub limit_reached : (l : Name) → NameOf n l → (e : Diff) → LimitSet D n T l e
      → (σ : Reading D) × (ε : Reading D) × Joins D n c σ ε × le e (value_of D l σ ε)
  limit_reached l of e (h, k) =
      go (tight o (suc n + suc n) T good.closed l.a l.b (suc n + l.c) (suc n + l.d)
      (low of.a_most) (low of.b_most) (high of.c_most) (high of.d_most) e h k)
    where
      low : {i : ℕ} → i ≤ n → i < suc n + suc n
      low h = omega arith

      high : {i : ℕ} → i ≤ n → suc n + i < suc n + suc n
      high h = omega arith

      value : (x : ℕ → Diff) → le (add (minus D (x l.b) (x l.a)) (minus D (x (suc n + l.d)) (x (suc n + l.c)))) (value_of D l (start_of o n x) (end_of o n x))
      value x =
          let s = shows_own o n x in
          let a = s.starts l.a (omega (arith, of.a_most)) in
          let b = s.starts l.b (omega (arith, of.b_most)) in
          let c = s.ends l.c (omega (arith, of.c_most)) in
          let d = s.ends l.d (omega (arith, of.d_most)) in
          ≤_trans o
          (le_from2 o (x 0 ∷ x l.a ∷ x l.b ∷ reads D (start_of o n x) l.a ∷ reads D (start_of o n x) l.b ∷ minus D (x (suc n + l.d)) (x (suc n + l.c)) ∷ [])
          (v2 ⊟ v1 ⊞ v5) (v3 ⊟ v4 ⊞ v5) (v0 ⊟ v1) v3 v4 (v0 ⊟ v2) refl a.0 b.1)
          (le_from2 o (x (suc n + 0) ∷ x (suc n + l.c) ∷ x (suc n + l.d) ∷ reads D (end_of o n x) l.c ∷ reads D (end_of o n x) l.d
          ∷ minus D (reads D (start_of o n x) l.a) (reads D (start_of o n x) l.b) ∷ [])
          (v5 ⊞ (v2 ⊟ v1)) (v5 ⊞ (v3 ⊟ v4)) (v0 ⊟ v1) v3 v4 (v0 ⊟ v2) refl c.0 d.1)

      go : ((x : ℕ → Diff) × Satisfies D (suc n + suc n) T x × le e (add (minus D (x l.b) (x l.a)) (minus D (x (suc n + l.d)) (x (suc n + l.c)))))
          → (σ : Reading D) × (ε : Reading D) × Joins D n c σ ε × le e (value_of D l σ ε)
      go (x, s, h) = (start_of o n x, end_of o n x, (time_of o n x, solution_runs o n c T good x s), ≤_trans o h (value x))

-- ── For bounds ──

module _ {B : Type 0} (m : Meaning B) (laws : Laws m) (n : ℕ) where
  abbrev D : Differences
  D = m.differences

  -- NORMALISED
  pub normalised : (c : Chart) (bounds : List B) → Good D n c (table_of m n bounds) → Normalised m n c bounds
  normalised c bounds good u v hu hv = tightest laws.ordered n c (table_of m n bounds) good u v (omega arith) (omega arith)

  -- a bound that is the tighter of the two sums allows the limit's set
  pub limit_is : (bounds : List B) (l : Name) (bound : B) → IsLimit m n bounds l bound → (x : D.Diff) → m.allows bound x ↔ LimitSet D n (table_of m n bounds) l x
  limit_is bounds l bound h x =
      let e : n + 1 + l.d ≡ suc n + l.d = omega arith in
      let f : n + 1 + l.c ≡ suc n + l.c = omega arith in
      subst₂ (λ d c. (m.allows bound x ↔ (Sum D (T l.b l.a) (T d c) x × Sum D (T d l.a) (T l.b c) x))) e f (there, back)
    where
      T : Table D
      T = table_of m n bounds

      exact : (u v w z : ℕ) → Sum D (T u v) (T w z) x ↔ SumOf m (place m n bounds u v) (place m n bounds w z) x
      exact u v w z = sum_exact laws.ordered (T u v) (T w z) (laws.lower (place m n bounds u v)) x

      there : m.allows bound x → Sum D (T l.b l.a) (T (n + 1 + l.d) (n + 1 + l.c)) x × Sum D (T (n + 1 + l.d) l.a) (T l.b (n + 1 + l.c)) x
      there k = let p = (h x).0 k in ((exact _ _ _ _).1 p.0, (exact _ _ _ _).1 p.1)

      back : Sum D (T l.b l.a) (T (n + 1 + l.d) (n + 1 + l.c)) x × Sum D (T (n + 1 + l.d) l.a) (T l.b (n + 1 + l.c)) x → m.allows bound x
      back (p, q) = (h x).1 ((exact _ _ _ _).0 p, (exact _ _ _ _).0 q)

  module _ (c : Chart) (bounds : List B) (good : Good D n c (table_of m n bounds)) where
    -- SHARP: each limit of the table is sharp.
    pub limit_sharp : (l : Name) → NameOf n l → (bound : B) → IsLimit m n bounds l bound → Sharp m n c l bound
    limit_sharp l of bound is =
        record {
          kept = λ σ ε j. (limit_is bounds l bound is _).1 (limit_kept laws.ordered n c (table_of m n bounds) good l of σ ε j);
          least = λ other h d k. go other h d (limit_reached laws.ordered n c (table_of m n bounds) good l of d ((limit_is bounds l bound is d).0 k));
        }
      where
        go : (other : B) → ((σ ε : Reading D) → Joins D n c σ ε → Keeps m other l σ ε) → (d : D.Diff)
            → ((σ : Reading D) × (ε : Reading D) × Joins D n c σ ε × D.le d (value_of D l σ ε)) → m.allows other d
        go other h d (σ, ε, j, k) = laws.lower other (value_of D l σ ε) d k (h σ ε j)

    -- JOINED: a pair of readings is joined exactly when it keeps every limit that has a name.
    pub joined_by_limits : (limit : Name → B) → ((l : Name) → NameOf n l → IsLimit m n bounds l (limit l))
        → (σ ε : Reading D) → Joins D n c σ ε ↔ ((l : Name) → NameOf n l → Keeps m (limit l) l σ ε)
    joined_by_limits limit is σ ε = (
      (λ j l of. (limit_is bounds l (limit l) (is l of) _).1 (limit_kept laws.ordered n c (table_of m n bounds) good l of σ ε j)),
      (λ h. limits_join laws.ordered n c (table_of m n bounds) good σ ε (λ l of. (limit_is bounds l (limit l) (is l of) _).0 (h l of))),
    )

    -- WITHIN: another chart joins all that this one joins exactly when each limit of this one is tighter.
    pub within_by_limits : (c' : Chart) (bounds' : List B) → Good D n c' (table_of m n bounds')
        → (limit limit' : Name → B) → ((l : Name) → NameOf n l → IsLimit m n bounds l (limit l)) → ((l : Name) → NameOf n l → IsLimit m n bounds' l (limit' l))
        → ((σ ε : Reading D) → Joins D n c σ ε → Joins D n c' σ ε) ↔ ((l : Name) → NameOf n l → m.tighter (limit l) (limit' l) ≡ true)
    within_by_limits c' bounds' good' limit limit' is is' = (
      (λ h l of. inside_tighter m laws (limit l) (limit' l) ((limit_sharp l of (limit l) (is l of)).least (limit' l)
          (λ σ ε j. (limit_is bounds' l (limit' l) (is' l of) _).1 (limit_kept laws.ordered n c' (table_of m n bounds') good' l of σ ε (h σ ε j))))),
      (λ h σ ε j. limits_join laws.ordered n c' (table_of m n bounds') good' σ ε (λ l of. (limit_is bounds' l (limit' l) (is' l of) _).0
          (laws.tighter_yes (limit l) (limit' l) (h l of) _ ((joined_by_limits limit is σ ε).0 j l of)))),
    )
