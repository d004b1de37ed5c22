-- Of the names of limits, each passes a test or there is a first that fails. Assumes nothing.
use Rattle.std.proofs.Common.{◌≡◌, ℕ, zero, suc, ◌+◌, ◌<◌, Bool, true, false, ◌⊎◌, sym, refl, subst, inl, inr, arith}
use native.Mathlib.Decide.{ℕ_discrete}
use Rattle.runs.specs.Limits.{Name, Proper, NameOf, Before}
use Rattle.runs.specs.Search.{named, Passes, Fails, AllD, AllC, AllB, AllA, FirstA}
use Rattle.runs.proofs.Lists.{up_to}

-- below N every number has P, or there is a first that has Q
pub first_below : (P Q : ℕ → Type 0) → ((i : ℕ) → P i ⊎ Q i) → (N : ℕ)
    → ((i : ℕ) → i < N → P i) ⊎ ((i : ℕ) × (i < N) × Q i × ((j : ℕ) → j < i → P j))
first_below P Q either zero = inl (λ i h. absurd (omega arith))
first_below P Q either (suc N) = go (first_below P Q either N) (either N)
  where
    go : ((i : ℕ) → i < N → P i) ⊎ ((i : ℕ) × (i < N) × Q i × ((j : ℕ) → j < i → P j)) → P N ⊎ Q N
        → ((i : ℕ) → i < suc N → P i) ⊎ ((i : ℕ) × (i < suc N) × Q i × ((j : ℕ) → j < i → P j))
    go (inr (i, h, q, f)) e = inr (i, omega arith, q, f)
    go (inl f) (inl p) = inl (up_to N P f p)
    go (inl f) (inr q) = inr (N, omega arith, q, f)

proper_or_not : (a b c d : ℕ) → Proper a b c d ⊎ (Proper a b c d → ⊥)
proper_or_not a b c d = one (ℕ_discrete a b) (ℕ_discrete a 0)
  where
    three : (a ≡ b → a ≡ 0) → (c ≡ d → c ≡ 0) → Dec (a + b + c + d ≡ 0) → Proper a b c d ⊎ (Proper a b c d → ⊥)
    three f g (yes e) = inr (λ p. p.some e)
    three f g (no e) = inl (record { first = f; second = g; some = e })

    two : (a ≡ b → a ≡ 0) → Dec (c ≡ d) → Dec (c ≡ 0) → Proper a b c d ⊎ (Proper a b c d → ⊥)
    two f (yes e) (no z) = inr (λ p. z (p.second e))
    two f (yes e) (yes z) = three f (λ _. z) (ℕ_discrete (a + b + c + d) 0)
    two f (no e) z = three f (λ q. absurd (e q)) (ℕ_discrete (a + b + c + d) 0)

    one : Dec (a ≡ b) → Dec (a ≡ 0) → Proper a b c d ⊎ (Proper a b c d → ⊥)
    one (yes e) (no z) = inr (λ p. z (p.first e))
    one (yes e) (yes z) = two (λ _. z) (ℕ_discrete c d) (ℕ_discrete c 0)
    one (no e) z = two (λ q. absurd (e q)) (ℕ_discrete c d) (ℕ_discrete c 0)

module _ (n : ℕ) (test : Name → Bool) where
  passes_or_fails : (a b c d : ℕ) → Passes n test a b c d ⊎ Fails n test a b c d
  passes_or_fails a b c d = go (test (named a b c d)) refl (proper_or_not a b c d)
    where
      go : (t : Bool) → test (named a b c d) ≡ t → Proper a b c d ⊎ (Proper a b c d → ⊥) → Passes n test a b c d ⊎ Fails n test a b c d
      go true e q = inl (λ _. e)
      go false e (inl p) = inr (record { proper = p; fails = e })
      go false e (inr q) = inl (λ p. absurd (q p))

  abbrev FoundD : (a b c : ℕ) → Type 0
  FoundD a b c = (d : ℕ) × (d < suc n) × Fails n test a b c d × ((j : ℕ) → j < d → Passes n test a b c j)

  abbrev FoundC : (a b : ℕ) → Type 0
  FoundC a b = (c : ℕ) × (c < suc n) × FoundD a b c × ((j : ℕ) → j < c → AllD n test a b j)

  abbrev FoundB : (a : ℕ) → Type 0
  FoundB a = (b : ℕ) × (b < suc n) × FoundC a b × ((j : ℕ) → j < b → AllC n test a j)

  abbrev FoundA : Type 0
  FoundA = (a : ℕ) × (a < suc n) × FoundB a × ((j : ℕ) → j < a → AllB n test j)

  search_names : AllA n test ⊎ FoundA
  search_names =
      first_below (AllB n test) FoundB (λ a.
      first_below (AllC n test a) (FoundC a) (λ b.
      first_below (AllD n test a b) (FoundD a b) (λ c.
      first_below (Passes n test a b c) (Fails n test a b c) (passes_or_fails a b c) (suc n)) (suc n)) (suc n)) (suc n)

  -- ALL: every name passes where all parts do.
  pub all_names : AllA n test → (l : Name) → NameOf n l → test l ≡ true
  all_names all l of = all l.a (omega (arith, of.a_most)) l.b (omega (arith, of.b_most)) l.c (omega (arith, of.c_most)) l.d (omega (arith, of.d_most)) of.proper

  -- a first name in parts is a name, and all names before it pass
  module _ (a b c d : ℕ) (first : FirstA n test a b c d) where
    pub first_named : NameOf n (named a b c d)
    first_named =
        record {
          a_most = omega (arith, first.most);
          b_most = omega (arith, first.here.most);
          c_most = omega (arith, first.here.here.most);
          d_most = omega (arith, first.here.here.here.most);
          proper = first.here.here.here.here.proper;
        }

    pub first_fails : test (named a b c d) ≡ false
    first_fails = first.here.here.here.here.fails

    pub first_before : (k : Name) → NameOf n k → Before k (named a b c d) → test k ≡ true
    first_before k of (inl h) = first.before k.a h k.b (omega (arith, of.b_most)) k.c (omega (arith, of.c_most)) k.d (omega (arith, of.d_most)) of.proper
    first_before k of (inr (ea, inl h)) =
        subst (λ x. AllC n test x k.b) (sym ea) (first.here.before k.b h) k.c (omega (arith, of.c_most)) k.d (omega (arith, of.d_most)) of.proper
    first_before k of (inr (ea, inr (eb, inl h))) =
        subst (λ x. AllD n test x k.b k.c) (sym ea) (subst (λ y. AllD n test a y k.c) (sym eb) (first.here.here.before k.c h)) k.d (omega (arith, of.d_most)) of.proper
    first_before k of (inr (ea, inr (eb, inr (ec, h)))) =
        subst (λ x. Passes n test x k.b k.c k.d) (sym ea) (subst (λ y. Passes n test a y k.c k.d) (sym eb)
        (subst (λ z. Passes n test a b z k.d) (sym ec) (first.here.here.here.before k.d h))) of.proper

  -- FIRST: every name passes, or there is a first that fails.
  pub first_name : ((l : Name) → NameOf n l → test l ≡ true)
      ⊎ ((l : Name) × NameOf n l × (test l ≡ false) × ((k : Name) → NameOf n k → Before k l → test k ≡ true))
  first_name = go search_names
    where
      go : AllA n test ⊎ FoundA → ((l : Name) → NameOf n l → test l ≡ true)
          ⊎ ((l : Name) × NameOf n l × (test l ≡ false) × ((k : Name) → NameOf n k → Before k l → test k ≡ true))
      go (inl all) = inl (all_names all)
      go (inr (a, ha, (b, hb, (c, hc, (d, hd, f, fd), fc), fb), fa)) =
          let first : FirstA n test a b c d = record {
            most = ha;
            here = record { most = hb; here = record { most = hc; here = record { most = hd; here = f; before = fd }; before = fc }; before = fb };
            before = fa;
          } in
          inr (named a b c d, first_named a b c d first, first_fails a b c d first, first_before a b c d first)
