-- A limit over four nodes is tight: what both sums of the table's places allow, some solution reaches.
use Rattle.std.proofs.Common.{ℕ, ◌<◌, List, [], ◌∷◌, refl}
use Rattle.bound.specs.Differences.{Differences, Same, Ordered, zero_of, minus}
use Rattle.runs.specs.Tables.{Table, Sum, Closed, Satisfies, Entry, Fits, Pairwise, Nodes}
use Rattle.bound.specs.Groups.{≤_trans, add-≤}
use Rattle.bound.specs.Solver.{◌⊞◌, ◌⊟◌, nil, v0, v1, v2, v3, v4, v5, v6, v7, le_same, le_from, le_from2, le_from3}
use Rattle.runs.proofs.Sums.{sum_swap, sum_lower}
use Rattle.chart.specs.Lists.{All}
use Rattle.runs.proofs.Lists.{all_map}
use Rattle.runs.proofs.Helly.{Demand, Above, Below, Agree, helly, lesser_of, greater_of}
use Rattle.runs.proofs.Solve.{room, join, solve, fits_self}

module _ {D : Differences} (o : Ordered D) where
  open D use {Diff, le, add, neg}

  -- two points of P that are high enough, one for Q and one for R, which higher points keep
  high_enough : (P Q R : Diff → Type 0) → ((a b : Diff) → le a b → Q a → Q b) → ((a b : Diff) → le a b → R a → R b)
      → ((a : Diff) × P a × Q a) → ((a : Diff) × P a × R a) → (a : Diff) × P a × Q a × R a
  high_enough P Q R up up' (a, pa, qa) (b, pb, rb) = go (greater_of o P a b pa pb)
    where
      go : ((c : Diff) × P c × le a c × le b c) → (a : Diff) × P a × Q a × R a
      go (c, pc, h, k) = (c, pc, up a c h qa, up' b c k rb)

module _ {D : Differences} (o : Ordered D) (N : ℕ) (T : Table D) (closed : Closed D N T)
    (A B C E : ℕ) (h_a : A < N) (h_b : B < N) (h_c : C < N) (h_e : E < N) (d : D.Diff) where
  open D use {Diff, le, add, neg}

  through : (x u v : ℕ) → x < N → u < N → v < N → (c : Diff) → T u v c → Sum D (T u x) (T x v) c
  through x u v hx hu hv = (closed.settled x hx).through u v hu hv

  -- ── The date p of B, where A has date 0 ──

  abbrev Second : Diff → Type 0
  Second p = T A B (minus D (zero_of D) p)

  abbrev Last : Diff → Type 0
  Last p = T E C (minus D d p)

  abbrev Crossed : Diff → Type 0
  Crossed p = Sum D (T A C) (T E B) (minus D (minus D d p) p)

  second_up : (a b : Diff) → le a b → Second a → Second b
  second_up a b h k = closed.lower A B _ _ (le_from o (a ∷ b ∷ []) (nil ⊟ v1) (nil ⊟ v0) v0 v1 refl h) k

  last_up : (a b : Diff) → le a b → Last a → Last b
  last_up a b h k = closed.lower E C _ _ (le_from o (a ∷ b ∷ d ∷ []) (v2 ⊟ v1) (v2 ⊟ v0) v0 v1 refl h) k

  crossed_up : (a b : Diff) → le a b → Crossed a → Crossed b
  crossed_up a b h k =
      sum_lower o (T A C) (T E B) (minus D (minus D d a) a) (minus D (minus D d b) b)
      (le_from2 o (a ∷ b ∷ d ∷ []) (v2 ⊟ v1 ⊟ v1) (v2 ⊟ v0 ⊟ v0) v0 v1 v0 v1 refl h h) k

  second_point : (p : Diff) × T B A p × Second p
  second_point = go (through B A A h_b h_a h_a (zero_of D) (closed.settled A h_a).nought)
    where
      go : Sum D (T A B) (T B A) (zero_of D) → (p : Diff) × T B A p × Second p
      go (e, f, he, hf, h) = (f, hf, closed.lower A B e (minus D (zero_of D) f) (le_from o (e ∷ f ∷ []) (nil ⊟ v1) v0 nil (v0 ⊞ v1) refl h) he)

  last_point : Sum D (T B A) (T E C) d → (p : Diff) × T B A p × Last p
  last_point (e, f, he, hf, h) = (e, he, closed.lower E C f (minus D d e) (le_from o (e ∷ f ∷ d ∷ []) (v2 ⊟ v0) v1 v2 (v0 ⊞ v1) refl h) hf)

  crossed_point : Sum D (T E A) (T B C) d → (p : Diff) × T B A p × Crossed p
  crossed_point (e, f, he, hf, h) = go (through B E A h_b h_e h_a e he) (through A B C h_a h_b h_c f hf)
    where
      go : Sum D (T E B) (T B A) e → Sum D (T B A) (T A C) f → (p : Diff) × T B A p × Crossed p
      go (e₁, p₁, he₁, hp₁, h₁) (p₂, f₂, hp₂, hf₂, h₂) = more (greater_of o (T B A) p₁ p₂ hp₁ hp₂)
        where
          half : le d (add (add e₁ p₁) (add p₂ f₂))
          half = ≤_trans o h (add-≤ o h₁ h₂)

          more : ((p : Diff) × T B A p × le p₁ p × le p₂ p) → (p : Diff) × T B A p × Crossed p
          more (p, hp, l₁, l₂) = (
            p,
            hp,
            (
              f₂,
              e₁,
              hf₂,
              he₁,
              le_from3 o (e₁ ∷ p₁ ∷ p₂ ∷ f₂ ∷ d ∷ p ∷ []) (v4 ⊟ v5 ⊟ v5) (v3 ⊞ v0) v4 (v0 ⊞ v1 ⊞ (v2 ⊞ v3)) v1 v5 v2 v5 refl half l₁ l₂,
            ),
          )

  -- ── The date r of E, beside 0 for A and p for B ──

  abbrev demand : ℕ → ℕ → Diff → Demand D
  demand u v c = record { set = T u v; lower = closed.lower u v; place = c }

  -- what r has to meet
  abbrev Fourth : Diff → Diff → Type 0
  Fourth p r =
      All (Above D r) (demand A E (zero_of D) ∷ demand B E p ∷ demand B C d ∷ demand A C (minus D d p) ∷ [])
      × All (Below D r) (demand E A (zero_of D) ∷ demand E B p ∷ [])

  fourth : (p : Diff) → T B A p → Second p → Last p → Crossed p → Sum D (T E A) (T B C) d → (r : Diff) × Fourth p r
  fourth p h s l c k =
      go (helly o (demand A E (zero_of D)) (demand B E p ∷ demand B C d ∷ demand A C (minus D d p) ∷ []) (demand E A (zero_of D)) (demand E B p ∷ [])
      (both_a, (both_b, (both_c, (both_d, tt)))))
    where
      Both : Demand D → Type 0
      Both q = All (Agree D q) (demand E A (zero_of D) ∷ demand E B p ∷ [])

      both_a : Both (demand A E (zero_of D))
      both_a = (through E A A h_e h_a h_a _ (fits_self o N T closed A (zero_of D) h_a), (through E A B h_e h_a h_b _ s, tt))

      both_b : Both (demand B E p)
      both_b = (
        through E B A h_e h_b h_a _ (closed.lower B A p (minus D p (zero_of D)) (le_same o (p ∷ []) (v0 ⊟ nil) v0 refl) h),
        (through E B B h_e h_b h_b _ (fits_self o N T closed B p h_b), tt),
      )

      both_c : Both (demand B C d)
      both_c = (
        sum_lower o (T B C) (T E A) d (minus D d (zero_of D)) (le_same o (d ∷ []) (v0 ⊟ nil) v0 refl) (sum_swap o (T E A) (T B C) d k),
        (sum_swap o (T E B) (T B C) _ (through B E C h_b h_e h_c _ l), tt),
      )

      both_d : Both (demand A C (minus D d p))
      both_d = (
        sum_swap o (T E A) (T A C) _ (through A E C h_a h_e h_c _
            (closed.lower E C (minus D d p) (minus D (minus D d p) (zero_of D)) (le_same o (d ∷ p ∷ []) (v0 ⊟ v1 ⊟ nil) (v0 ⊟ v1) refl) l)),
        (c, tt),
      )

      go : ((r : Diff) × All (Above D r) (demand A E (zero_of D) ∷ demand B E p ∷ demand B C d ∷ demand A C (minus D d p) ∷ [])
          × All (Below D r) (demand E A (zero_of D) ∷ demand E B p ∷ [])) → (r : Diff) × Fourth p r
      go (r, a, b) = (r, (a, b))

  -- ── The date of C, and the rest ──

  abbrev entries : Diff → Diff → List (Entry D)
  entries p r = record { node = E; value = r } ∷ record { node = B; value = p } ∷ record { node = A; value = zero_of D } ∷ []

  nodes : (p r : Diff) → Nodes D N (entries p r)
  nodes p r = (h_e, (h_b, (h_a, tt)))

  -- p + r − d is low enough for C
  low : (p r : Diff) → Last p → Fourth p r → All (λ e. Fits D T e (record { node = C; value = minus D (add p r) d })) (entries p r)
  low p r l (a, b) =
      let xs = p ∷ r ∷ d ∷ [] in (
        closed.lower E C _ _ (le_same o xs (v1 ⊟ (v0 ⊞ v1 ⊟ v2)) (v2 ⊟ v0) refl) l,
        (
          closed.lower B C _ _ (le_same o xs (v0 ⊟ (v0 ⊞ v1 ⊟ v2)) (v2 ⊟ v1) refl) a.1.1.0,
          (closed.lower A C _ _ (le_same o xs (nil ⊟ (v0 ⊞ v1 ⊟ v2)) (v2 ⊟ v0 ⊟ v1) refl) a.1.1.1.0, tt),
        ),
      )

  pairwise : (p r : Diff) → T B A p → Second p → Fourth p r → Pairwise D T (entries p r)
  pairwise p r h s (a, b) =
      let BA : T B A (minus D p (zero_of D)) = closed.lower B A p (minus D p (zero_of D)) (le_same o (p ∷ []) (v0 ⊟ nil) v0 refl) h in (
        (fits_self o N T closed E r h_e, (b.1.0, (b.0, tt))),
        (
          (a.1.0, (fits_self o N T closed B p h_b, (BA, tt))),
          ((a.0, (s, (fits_self o N T closed A (zero_of D) h_a, tt))), tt),
        ),
      )

  abbrev Reached : Type 0
  Reached = (x : ℕ → Diff) × Satisfies D N T x × le d (add (minus D (x B) (x A)) (minus D (x E) (x C)))

  -- a date for C that is at most p + r − d
  third : (p r : Diff) → T B A p → Second p → Last p → Fourth p r
      → (c : Diff) × Pairwise D T (record { node = C; value = c } ∷ entries p r) × le c (minus D (add p r) d)
  third p r h s l f = go (room o N T closed C h_c (entries p r) (nodes p r) (pairwise p r h s f))
    where
      Result : Type 0
      Result = (c : Diff) × Pairwise D T (record { node = C; value = c } ∷ entries p r) × le c (minus D (add p r) d)

      From : Diff → Type 0
      From c = All (λ e. Fits D T e (record { node = C; value = c })) (entries p r)

      To : Diff → Type 0
      To c = All (λ e. Fits D T (record { node = C; value = c }) e) (entries p r)

      less : (y c : Diff) → le c y → To y → To c
      less y c k t =
          all_map (λ e. Fits D T (record { node = C; value = y }) e) (λ e. Fits D T (record { node = C; value = c }) e)
          (λ e. closed.lower C e.node (minus D y e.value) (minus D c e.value)
          (le_from o (y ∷ c ∷ e.value ∷ []) (v1 ⊟ v2) (v0 ⊟ v2) v1 v0 refl k)) (entries p r) t

      go : ((y : Diff) × From y × To y) → Result
      go (y, from, to) = more (lesser_of o From y (minus D (add p r) d) from (low p r l f))
        where
          more : ((c : Diff) × From c × le c y × le c (minus D (add p r) d)) → Result
          more (c, k, cy, cz) = (c, join o N T closed C c h_c (entries p r) (pairwise p r h s f) k (less y c cy to), cz)

  reached : (p r c : Diff) → Pairwise D T (record { node = C; value = c } ∷ entries p r) → le c (minus D (add p r) d) → Reached
  reached p r c h k = go (solve o N T closed (record { node = C; value = c } ∷ entries p r) (h_c, nodes p r) h)
    where
      go : ((x : ℕ → Diff) × Satisfies D N T x × All (λ e. Same D (x e.node) e.value) (record { node = C; value = c } ∷ entries p r)) → Reached
      go (x, s, q) = (
        x,
        s,
        le_from o (d ∷ c ∷ p ∷ r ∷ x A ∷ x B ∷ x C ∷ x E ∷ []) v0 (v5 ⊟ v4 ⊞ (v7 ⊟ v6))
            (v1 ⊞ v6 ⊞ v3 ⊞ v2 ⊞ v4) (v2 ⊞ v3 ⊟ v0 ⊞ v1 ⊞ v7 ⊞ v5 ⊞ nil) refl
            (add-≤ o (add-≤ o (add-≤ o (add-≤ o k q.0.0) q.1.0.1) q.1.1.0.1) q.1.1.1.0.0),
      )

  -- TIGHT: what both sums allow, a solution reaches.
  pub tight : Sum D (T B A) (T E C) d → Sum D (T E A) (T B C) d → Reached
  tight h k = one (high_enough o (T B A) Second Last second_up last_up second_point (last_point h))
    where
      three : (p r : Diff) → T B A p → Second p → Last p → Fourth p r → Reached
      three p r b s l f = go (third p r b s l f)
        where
          go : ((c : Diff) × Pairwise D T (record { node = C; value = c } ∷ entries p r) × le c (minus D (add p r) d)) → Reached
          go (c, q, m) = reached p r c q m

      two : ((p : Diff) × (T B A p) × (Second p × Last p) × Crossed p) → Reached
      two (p, b, (s, l), c) = go (fourth p b s l c k)
        where
          go : ((r : Diff) × Fourth p r) → Reached
          go (r, f) = three p r b s l f

      one : ((p : Diff) × T B A p × Second p × Last p) → Reached
      one (p, b, s, l) =
          two (high_enough o (T B A) (λ z. Second z × Last z) Crossed
          (λ x y e q. (second_up x y e q.0, last_up x y e q.1)) crossed_up (p, b, (s, l)) (crossed_point k))
