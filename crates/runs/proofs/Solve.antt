-- A closed table has solutions: whatever dates some nodes have that keep the table among themselves, the other nodes can be given dates that keep it too.
use Rattle.std.proofs.Common.{◌≡◌, ℕ, zero, suc, ◌<◌, ◌≤◌, ◌⊎◌, List, [], ◌∷◌, ◌++◌, refl, subst, inl, inr, arith}
use native.Mathlib.Decide.{ℕ_discrete, dec_lt}
use Rattle.bound.specs.Differences.{Differences, Same, Ordered, zero_of, minus}
use Rattle.runs.specs.Tables.{Table, Closed, Satisfies, Entry, Fits, Pairwise, Nodes}
use Rattle.bound.specs.Solver.{◌⊟◌, nil, v0, v1, le_same, le_from}
use Rattle.chart.specs.Lists.{All}
use Rattle.runs.proofs.Lists.{pick, all_map, all_both, all_last, all_flip, each, all_each, each_all}
use Rattle.runs.proofs.Helly.{Demand, Above, Below, Agree, helly}

-- Node u is in the list.
abbrev pub Occurs : (D : Differences) → ℕ → List (Entry D) → Type 0
Occurs D u [] = ⊥
Occurs D u (e ∷ es) = (e.node ≡ u) ⊎ Occurs D u es

-- The date of the first entry for node u.
abbrev look : (D : Differences) → List (Entry D) → ℕ → D.Diff
look D [] u = zero_of D
look D (e ∷ es) u = pick (ℕ_discrete e.node u) e.value (look D es u)

-- what holds of every entry holds of the one that is found
found : (D : Differences) (P : Entry D → Type 0) (es : List (Entry D)) (u : ℕ) → All P es → Occurs D u es
    → P (record { node = u; value = look D es u })
found D P [] u h o = absurd o
found D P (e ∷ es) u h o = go (ℕ_discrete e.node u) (found D P es u h.1)
  where
    other : ¬ (e.node ≡ u) → Occurs D u (e ∷ es) → Occurs D u es
    other n (inl p) = absurd (n p)
    other n (inr q) = q

    go : (d : Dec (e.node ≡ u)) → (Occurs D u es → P (record { node = u; value = look D es u }))
        → P (record { node = u; value = pick d e.value (look D es u) })
    go (yes p) rest = subst (λ n. P (record { node = n; value = e.value })) p h.0
    go (no n) rest = rest (other n o)

module _ {D : Differences} (o : Ordered D) (N : ℕ) (T : Table D) (closed : Closed D N T) where
  open D use {Diff, le, add, neg}

  -- what an entry asks of a date for node w from below, and from above
  abbrev from_below : ℕ → Entry D → Demand D
  from_below w e = record { set = T e.node w; lower = closed.lower e.node w; place = e.value }

  abbrev from_above : ℕ → Entry D → Demand D
  from_above w e = record { set = T w e.node; lower = closed.lower w e.node; place = e.value }

  pub fits_self : (w : ℕ) (y : Diff) → w < N → T w w (minus D y y)
  fits_self w y h =
      closed.lower w w (zero_of D) (minus D y y) (le_same o (y ∷ []) (v0 ⊟ v0) nil refl) (closed.settled w h).nought

  agree : (w : ℕ) → w < N → (i j : Entry D) → i.node < N → j.node < N → Fits D T i j → Agree D (from_below w i) (from_above w j)
  agree w hw i j hi hj h = (closed.settled w hw).through i.node j.node hi hj (minus D i.value j.value) h

  -- a date for w that keeps the table with every entry
  pub room : (w : ℕ) → w < N → (es : List (Entry D)) → Nodes D N es → Pairwise D T es
      → (y : Diff) × All (λ e. Fits D T e (record { node = w; value = y })) es × All (λ e. Fits D T (record { node = w; value = y }) e) es
  room w hw [] hn hp = (zero_of D, tt, tt)
  room w hw (e ∷ es) hn hp =
      let row : (i : Entry D) → (i.node < N) × All (Fits D T i) (e ∷ es) → All (Agree D (from_below w i)) (each (from_above w) (e ∷ es))
      = λ i k. all_each (Agree D (from_below w i)) (from_above w) (e ∷ es)
      (all_map (λ j. (j.node < N) × Fits D T i j) (λ j. Agree D (from_below w i) (from_above w j)) (λ j m. agree w hw i j k.0 m.0 m.1) (e ∷ es)
      (all_both (λ j. j.node < N) (Fits D T i) (e ∷ es) hn k.1)) in
      let (y, hy, ky) = helly o (from_below w e) (each (from_below w) es) (from_above w e) (each (from_above w) es)
      (all_each (λ q. All (Agree D q) (each (from_above w) (e ∷ es))) (from_below w) (e ∷ es)
      (all_map (λ i. (i.node < N) × All (Fits D T i) (e ∷ es)) (λ i. All (Agree D (from_below w i)) (each (from_above w) (e ∷ es))) row (e ∷ es)
      (all_both (λ i. i.node < N) (λ i. All (Fits D T i) (e ∷ es)) (e ∷ es) hn hp))) in
      (y, each_all (Above D y) (from_below w) (e ∷ es) hy, each_all (Below D y) (from_above w) (e ∷ es) ky)

  -- a date that keeps the table with every entry makes a list that does
  pub join : (w : ℕ) (y : Diff) → w < N → (es : List (Entry D)) → Pairwise D T es
      → All (λ e. Fits D T e (record { node = w; value = y })) es → All (λ e. Fits D T (record { node = w; value = y }) e) es
      → Pairwise D T (record { node = w; value = y } ∷ es)
  join w y hw es hp h k =
      let new : Entry D = record { node = w; value = y } in
      ((fits_self w y hw, k), all_both (λ i. Fits D T i new) (λ i. All (Fits D T i) es) es h hp)

  -- EXTEND: entries that keep the table in pairs, and any node: it can be given a date that keeps the table with them.
  pub extend : (w : ℕ) → w < N → (es : List (Entry D)) → Nodes D N es → Pairwise D T es
      → (y : Diff) × Pairwise D T (record { node = w; value = y } ∷ es)
  extend w hw es hn hp = let (y, h, k) = room w hw es hn hp in (y, join w y hw es hp h k)

  -- entries for the nodes below k, before those given
  abbrev Complete : List (Entry D) → ℕ → Type 0
  Complete es k =
      (new : List (Entry D)) × Nodes D N (new ++ es) × Pairwise D T (new ++ es) × ((u : ℕ) → u < k → Occurs D u (new ++ es))

  complete_more : (es : List (Entry D)) (k : ℕ) → k < N → Complete es k → Complete es (suc k)
  complete_more es k hk (new, n, p, o) = go (extend k hk (new ++ es) n p)
    where
      occurs : (u : ℕ) → Dec (u < k) → u < suc k → (k ≡ u) ⊎ Occurs D u (new ++ es)
      occurs u (yes h) _ = inr (o u h)
      occurs u (no h) l = inl (omega arith)

      go : ((y : Diff) × Pairwise D T (record { node = k; value = y } ∷ (new ++ es))) → Complete es (suc k)
      go (y, q) = (record { node = k; value = y } ∷ new, (hk, n), q, λ u h. occurs u (dec_lt u k) h)

  complete : (es : List (Entry D)) → Nodes D N es → Pairwise D T es → (k : ℕ) → k ≤ N → Complete es k
  complete es hn hp zero hk = ([], hn, hp, λ u h. absurd (omega arith))
  complete es hn hp (suc k) hk = complete_more es k hk (complete es hn hp k (omega arith))

  -- two entries for one node have the same date
  same_date : (u : ℕ) → u < N → (a b : Diff) → T u u (minus D a b) → T u u (minus D b a) → Same D a b
  same_date u h a b k l = (
    le_from o (a ∷ b ∷ []) v0 v1 (v0 ⊟ v1) nil refl (closed.no_more u h (minus D a b) k),
    le_from o (a ∷ b ∷ []) v1 v0 (v1 ⊟ v0) nil refl (closed.no_more u h (minus D b a) l),
  )

  -- SOLVE: entries that keep the table in pairs are part of dates for all nodes that keep it.
  pub solve : (es : List (Entry D)) → Nodes D N es → Pairwise D T es
      → (x : ℕ → Diff) × Satisfies D N T x × All (λ e. Same D (x e.node) e.value) es
  solve es hn hp = go (complete es hn hp N (omega arith))
    where
      go : Complete es N → (x : ℕ → Diff) × Satisfies D N T x × All (λ e. Same D (x e.node) e.value) es
      go (new, n, p, o) = (
        look D fs,
        (λ u v hu hv. found D (Fits D T (record { node = u; value = look D fs u })) fs v (found D (λ i. All (Fits D T i) fs) fs u p (o u hu)) (o v hv)),
        all_last Holds new es (all_map Known Holds known fs (all_both (λ e. e.node < N) (λ e. All (Fits D T e) fs × All (λ i. Fits D T i e) fs) fs n
            (all_both (λ e. All (Fits D T e) fs) (λ e. All (λ i. Fits D T i e) fs) fs p (all_flip (Fits D T) fs fs p)))),
      )
        where
          fs : List (Entry D)
          fs = new ++ es

          Holds : Entry D → Type 0
          Holds e = Same D (look D fs e.node) e.value

          Known : Entry D → Type 0
          Known e = (e.node < N) × (All (Fits D T e) fs × All (λ i. Fits D T i e) fs)

          known : (e : Entry D) → Known e → Holds e
          known e (h, k) =
              same_date e.node h (look D fs e.node) e.value
              (found D (λ i. Fits D T i e) fs e.node k.1 (o e.node h))
              (found D (Fits D T e) fs e.node k.0 (o e.node h))

  -- Every closed table has a solution.
  pub solvable : (x : ℕ → Diff) × Satisfies D N T x
  solvable = let s = solve [] tt tt in (s.0, s.1)

-- the places of a closed table are not empty
pub some_point : {D : Differences} (o : Ordered D) (N : ℕ) (T : Table D) → Closed D N T → (u v : ℕ) → u < N → v < N → (d : D.Diff) × T u v d
some_point {D} o N T closed u v hu hv = go (solvable o N T closed)
  where
    go : ((x : ℕ → D.Diff) × Satisfies D N T x) → (d : D.Diff) × T u v d
    go (x, s) = (minus D (x u) (x v), s u v hu hv)
