-- The empty chart's table is good. Assumes nothing.
use Rattle.std.proofs.Common.{◌≡◌, ℕ, zero, suc, ◌+◌, ◌-◌, ◌<◌, cond, ◌⊎◌, [], ◌∷◌, sym, refl, ap, ◌∙◌, subst, subst₂, inl, inr, arith, le-leb}
use native.Mathlib.Decide.{ℕ_discrete}
use borrow.Author.Tests.{lt-leb}
use Rattle.bound.specs.Differences.{Differences, Same, Ordered, zero_of, minus}
use Rattle.runs.specs.Runs.{Reading, reads, Run}
use Rattle.runs.specs.Graph.{date, node, Attained}
use Rattle.runs.specs.Graph.Moment.{start}
use Rattle.runs.specs.Graph.MomentOf.{of_start}
use Rattle.runs.specs.Graph.Writes.{never_after_now}
use Rattle.runs.specs.Tables.{Sum, Closed, Satisfies}
use Rattle.runs.specs.Good.{Shows, Good}
use Rattle.runs.specs.Empty.{Fresh, base, EmptyTable}
use Rattle.bound.specs.Groups.{≤_trans, ≈-sym}
use Rattle.bound.specs.Solver.{◌⊞◌, ◌⊟◌, nil, v0, v1, v2, v3, le_same, le_from, le_from2, same_from2, same_from3}
use Rattle.runs.proofs.Lists.{by_parts}
use Rattle.runs.proofs.Nodes.{node_start, node_end}
use Rattle.runs.proofs.Chains.{attained_up, attained_zero, attained_limit}
use Rattle.runs.proofs.Rename.{renamed_closed}

base_start : (n i : ℕ) → i < suc n → base n i ≡ i
base_start n i l = ap (λ b. cond b i (i - (n + 1))) (le-leb i n (omega arith))

base_end : (n i : ℕ) → base n (suc n + i) ≡ i
base_end n i =
    let e : (suc n + i) - (n + 1) ≡ i = omega arith in
    ap (λ b. cond b (suc n + i) ((suc n + i) - (n + 1))) (lt-leb (suc n + i) n (omega arith)) ∙ e

-- whether the bound between i and j is 0 or open
pub touch : (i j : ℕ) → Dec ((j ≡ 0) ⊎ (i ≡ j))
touch i j = go (ℕ_discrete j 0) (ℕ_discrete i j)
  where
    go : Dec (j ≡ 0) → Dec (i ≡ j) → Dec ((j ≡ 0) ⊎ (i ≡ j))
    go (yes p) _ = yes (inl p)
    go (no n) (yes q) = yes (inr q)
    go (no n) (no k) = no neither
      where
        neither : (j ≡ 0) ⊎ (i ≡ j) → ⊥
        neither (inl p) = n p
        neither (inr q) = k q

module _ {D : Differences} (o : Ordered D) (n : ℕ) where
  open D use {Diff, le, add, neg}

  fresh_through : (x u v : ℕ) (d : Diff) → Fresh D u v d → Sum D (Fresh D u x) (Fresh D x v) d
  fresh_through x u v d h = go (touch u v) (touch u x)
    where
      apart : ¬ ((v ≡ 0) ⊎ (u ≡ v)) → (x ≡ 0) ⊎ (u ≡ x) → (v ≡ 0) ⊎ (x ≡ v) → ⊥
      apart n p (inl q) = n (inl q)
      apart n (inl p) (inr q) = n (inl (omega arith))
      apart n (inr p) (inr q) = n (inr (p ∙ q))

      go : Dec ((v ≡ 0) ⊎ (u ≡ v)) → Dec ((x ≡ 0) ⊎ (u ≡ x)) → Sum D (Fresh D u x) (Fresh D x v) d
      go (yes p) _ = (zero_of D, zero_of D, (λ _. o.le_refl (zero_of D)), (λ _. o.le_refl (zero_of D)), ≤_trans o (h p) (le_same o [] nil (nil ⊞ nil) refl))
      go (no n) (yes p) = (zero_of D, d, (λ _. o.le_refl (zero_of D)), (λ q. absurd (apart n p q)), le_same o (d ∷ []) v0 (nil ⊞ v0) refl)
      go (no n) (no k) = (d, zero_of D, (λ q. absurd (k q)), (λ _. o.le_refl (zero_of D)), le_same o (d ∷ []) v0 (v0 ⊞ nil) refl)

  fresh_closed : Closed D (suc n) (Fresh D)
  fresh_closed =
      record {
        lower = λ u v d e l h t. ≤_trans o l (h t);
        no_more = λ u l d h. h (inr refl);
        settled = λ x l. record { through = λ u v hu hv d h. fresh_through x u v d h; nought = λ _. o.le_refl (zero_of D) };
      }

  base_below : (u : ℕ) → u < suc n + suc n → base n u < suc n
  base_below =
      by_parts (suc n) (suc n) (λ u. base n u < suc n) (λ u l. subst (λ z. z < suc n) (sym (base_start n u l)) l)
      (λ i l. subst (λ z. z < suc n) (sym (base_end n i)) l)

  node_base : (u : ℕ) → u < suc n + suc n → node n [] u ≡ date start (base n u)
  node_base =
      by_parts (suc n) (suc n) (λ u. node n [] u ≡ date start (base n u)) (λ u l. node_start n [] u l ∙ ap (date start) (sym (base_start n u l)))
      (λ i l. node_end n [] i ∙ ap (date start) (sym (base_end n i)))

  fresh_attained : (i j : ℕ) → i < suc n → Attained D n [] (date start i) (date start j) (Fresh D i j)
  fresh_attained i j l = go (touch i j)
    where
      now : (i : ℕ) → i < suc n → Attained D n [] (date start i) (date start 0) (λ d. le d (zero_of D))
      now zero l = attained_zero o
      now (suc i) l = attained_limit o _ (never_after_now (suc i) of_start (omega arith) (omega arith))

      go : Dec ((j ≡ 0) ⊎ (i ≡ j)) → Attained D n [] (date start i) (date start j) (Fresh D i j)
      go (yes (inl p)) =
          attained_up o (λ d. le d (zero_of D)) (Fresh D i j) (λ d h _. h) (subst (λ z. Attained D n [] (date start i) (date start z) (λ d. le d (zero_of D))) (sym p) (now i l))
      go (yes (inr p)) =
          attained_up o (λ d. le d (zero_of D)) (Fresh D i j) (λ d h _. h) (subst (λ z. Attained D n [] (date start i) (date start z) (λ d. le d (zero_of D))) p (attained_zero o))
      go (no k) = inr (λ d t. absurd (k t))

  module _ (x : ℕ → Diff) (s : Satisfies D (suc n + suc n) (EmptyTable D n) x) (σ : Reading D) (t : Diff) (ε : Reading D) (shows : Shows D n x σ t ε) where
    not_after : (i : ℕ) → i < suc n → le (minus D (x i) (x 0)) (zero_of D)
    not_after i l = s i 0 (omega arith) (omega arith) (inl (base_start n 0 (omega arith)))

    up : (i : ℕ) → i < suc n → le (minus D (x i) (x (suc n + i))) (zero_of D)
    up i l = s i (suc n + i) (omega arith) (omega arith) (inr (base_start n i l ∙ sym (base_end n i)))

    down : (i : ℕ) → i < suc n → le (minus D (x (suc n + i)) (x i)) (zero_of D)
    down i l = s (suc n + i) i (omega arith) (omega arith) (inr (base_end n i ∙ sym (base_start n i l)))

    same : (i : ℕ) → i < suc n → Same D (x i) (x (suc n + i))
    same i l = (
      le_from o (x i ∷ x (suc n + i) ∷ []) v0 v1 (v0 ⊟ v1) nil refl (up i l),
      le_from o (x i ∷ x (suc n + i) ∷ []) v1 v0 (v1 ⊟ v0) nil refl (down i l),
    )

    empty_runs : Run D n [] σ t ε
    empty_runs = (
      (λ i l. le_from2 o (x 0 ∷ x i ∷ reads D σ i ∷ []) nil v2 (v1 ⊟ v0) nil (v0 ⊟ v1) v2 refl (not_after i (omega arith)) (shows.starts i (omega arith)).0),
      (
        (λ i l.
            let a = same_from2 o (x 0 ∷ x i ∷ x (suc n + 0) ∷ x (suc n + i) ∷ []) (v0 ⊟ v1) (v2 ⊟ v3) v0 v2 v3 v1 refl
            (same 0 (omega arith)) (≈-sym o (same i (omega arith))) in
            same_from3 o (reads D σ i ∷ reads D ε i ∷ minus D (x 0) (x i) ∷ minus D (x (suc n + 0)) (x (suc n + i)) ∷ []) v0 v1 v0 v2 v2 v3 v3 v1 refl
            (≈-sym o (shows.starts i (omega arith))) a (shows.ends i (omega arith))),
        same_from2 o (t ∷ x 0 ∷ x (suc n + 0) ∷ []) v0 nil v0 (v2 ⊟ v1) v2 v1 refl (≈-sym o shows.time) (≈-sym o (same 0 (omega arith))),
      ),
    )

  -- EMPTY
  pub good_empty : Good D n [] (EmptyTable D n)
  good_empty =
      record {
        closed = renamed_closed o (suc n) (Fresh D) fresh_closed (suc n + suc n) (base n) base_below;
        runs = empty_runs;
        attained = λ u v hu hv. subst₂ (λ p q. Attained D n [] p q (EmptyTable D n u v)) (sym (node_base u hu)) (sym (node_base v hv))
            (fresh_attained (base n u) (base n v) (base_below u hu));
      }
