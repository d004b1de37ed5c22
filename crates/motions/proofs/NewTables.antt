-- What the work table holds after the spread is the table with the new now, as the theory has it. Assumes nothing.
use Rattle.std.proofs.Common.{◌≡◌, ℕ, zero, suc, ◌+◌, ◌-◌, ◌*◌, ◌^◌, ◌<◌, ◌≤◌, Bool, true, false, cond, eqb, ◌⊎◌, ◌↔◌, List, [], ◌∷◌, pos, neg_ℤ, nat_abs, Some, None, Option, sym, refl, ap, ◌∙◌, subst, inl, inr, ⊎_elim, eq-or-lt_of_le, arith}
use borrow.Author.Differences.{ints}
use Rattle.std.proofs.lemmas.Bool.{cond-true, cond-false, ne_eqb, lt-ltb, le-ltb}
use Rattle.bound.specs.Differences.{Differences, zero_of}
use Rattle.bound.specs.Meaning.{Meaning, Laws, Stands, tighter_of}
use Rattle.bound.proofs.Lawful.{tighter_both, tighter_either, sum_some}
use Rattle.chart.specs.declared.types.Window.{Window}
use Rattle.chart.specs.Charts.{Motion}
use Rattle.runs.specs.Graph.{LowerSign, UpperSign}
use Rattle.runs.specs.Tables.{Set, Sum, Within, TightestOf}
use Rattle.runs.specs.Places.{allowed_at}
use Rattle.runs.specs.Normal.{table_of}
use Rattle.runs.specs.Motions.{Writing, MotionBounds, Spread}
use Rattle.runs.proofs.Bounds.{sum_is, tightest_none, tightest_more}
use Rattle.runs.proofs.WindowBounds.{upper_once, lower_once}
use Rattle.table.specs.Cells.{at, cell, Small, with_sum}
use Rattle.motions.specs.Windows.{lower_side, upper_side, all_more, into_by, wait_into, Direct}
use Rattle.motions.proofs.Sized.{relaxed_small}
use Rattle.motions.specs.Star.{best_of, to_new, from_new, SpreadFits, SpreadTo, with_new}
use Rattle.motions.proofs.WindowTight.{windows_tight, windows_small, upper_sided, upper_unsided, lower_sided, lower_unsided}

pos_small : (c : ℕ) → c ≤ 1000000000 → nat_abs (pos c) ≤ 10 ^ 9
pos_small c h = omega (arith, ints)

neg_small : (c : ℕ) → c ≤ 1000000000 → nat_abs (neg_ℤ (pos c)) ≤ 10 ^ 9
neg_small c h = omega (arith, ints)

-- windows are on timers, so they leave the bound on the old now alone
no_window : {B : Type 0} (m : Meaning B) (ws : List Window) (a : B) → into_by m 0 a ws ≡ a
unfolding all_more
no_window m [] a = refl
no_window m (w ∷ ws) a =
    let off : eqb w.timer 0 ≡ false = ne_eqb w.timer 0 (λ e. omega (arith, e, w.some)) in
    ap (λ x. into_by m 0 x ws) (cond-false _ _ _ off) ∙ no_window m ws a

-- the tightest of a family is the tightest of another with the same sets
tightest_again : (D : Differences) {I J : Type 0} (S : I → Set D) (R : J → Set D) (Q : Set D) → ((j : J) → (i : I) × Within D (S i) (R j)) → ((i : I) → (j : J) × Within D (R j) (S i))
    → TightestOf D S Q → TightestOf D R Q
tightest_again D {I} {J} S R Q there back t =
    record { within = λ j d h. (there j).1 d (t.within (there j).0 d h); reached = go t.reached }
  where
    go : ((i : I) × Within D (S i) Q) ⊎ ((d : D.Diff) → Q d) → ((j : J) × Within D (R j) Q) ⊎ ((d : D.Diff) → Q d)
    go (inl (i, k)) = inl ((back i).0, λ d h. k d ((back i).1 d h))
    go (inr k) = inr k

module _ {B : Type 0} (m : Meaning B) (laws : Laws m) (nil : B) (is_zero : m.written false (pos 0) ≡ Some nil) (n : ℕ) where
  -- ── The direct bounds ──

  module _ (motion : Motion) (work : List B) (direct : Direct m nil n motion.windows work) where
    abbrev ws : List Window
    ws = motion.windows

    into_timer : (i : ℕ) → 1 ≤ i → i ≤ n → into_by m i m.opened ws ≡ at m work i
    into_timer i p l = ap (λ a. into_by m i a ws) (sym (cond-false _ _ _ (ne_eqb i 0 (λ e. omega (arith, e))))) ∙ sym (direct.into i (omega arith))

    into_now : at m work 0 ≡ nil
    into_now = direct.into 0 (omega arith) ∙ no_window m ws nil

    abbrev Lowers : ℕ → B → Type 0
    Lowers i x = TightestOf m.differences {I = Writing LowerSign ws i} (λ w d. Stands m.differences w.strict d (neg_ℤ (pos w.window.number))) (m.allows x)

    abbrev Uppers : ℕ → B → Type 0
    Uppers i x = TightestOf m.differences {I = Writing UpperSign ws i} (λ w d. Stands m.differences w.strict d (pos w.window.number)) (m.allows x)

    -- BOUNDS: they are those that the theory asks for
    pub motion_bounds : MotionBounds m.differences n motion (λ i. m.allows (at m work i)) (λ i. m.allows (at m work (n + 1 + i)))
    motion_bounds =
        record {
          wait = λ d. subst (λ x. m.allows x d ↔ m.differences.le d (zero_of m.differences)) (sym into_now) (laws.written_allows false (pos 0) nil is_zero d);
          lowers = λ i p l. subst (Lowers i) (into_timer i p l) (windows_tight m laws LowerSign (λ g s r. lower_once) lower_side lower_sided lower_unsided (λ c. neg_ℤ (pos c)) neg_small i ws);
          uppers = λ i p l. subst (Uppers i) (sym (direct.onward i (omega arith))) (windows_tight m laws UpperSign (λ g s r. upper_once) upper_side upper_sided upper_unsided (λ c. pos c) pos_small i ws);
        }

    zero_small : m.size_of nil ≤ 10 ^ 9 + 1
    zero_small = let h = laws.written_size false (pos 0) nil is_zero in omega (arith, h)

    open_small : m.size_of m.opened ≤ 10 ^ 9 + 1
    open_small = let h = laws.open_size in omega (arith, h)

    wait_small : (i : ℕ) → m.size_of (wait_into m nil i) ≤ 10 ^ 9 + 1
    wait_small i = pick (eqb i 0)
      where
        pick : (b : Bool) → m.size_of (cond b nil m.opened) ≤ 10 ^ 9 + 1
        pick true = zero_small
        pick false = open_small

    -- SMALL: and at most as large as written bounds
    pub into_small : (i : ℕ) → i < n + 1 → m.size_of (at m work i) ≤ 10 ^ 9 + 1
    into_small i h =
        subst (λ x. m.size_of x ≤ 10 ^ 9 + 1) (sym (direct.into i h))
        (windows_small m laws LowerSign (λ g s r. lower_once) lower_side lower_sided lower_unsided (λ c. neg_ℤ (pos c)) neg_small i ws (wait_into m nil i) (wait_small i))

    pub onward_small : (i : ℕ) → i < n + 1 → m.size_of (at m work (n + 1 + i)) ≤ 10 ^ 9 + 1
    onward_small i h =
        subst (λ x. m.size_of x ≤ 10 ^ 9 + 1) (sym (direct.onward i h))
        (windows_small m laws UpperSign (λ g s r. upper_once) upper_side upper_sided upper_unsided (λ c. pos c) pos_small i ws m.opened open_small)

    -- FITS: so the sums of the spread are within the reach
    pub spread_fits : (table : List B) → Small m (2 * n + 2) table → SpreadFits m n table work
    spread_fits table small =
        record {
          toward_new = λ u i hu hi. let a = small u (n + 1 + i) hu (omega arith) in let b = into_small i hi in omega (arith, laws.reach_enough, a, b);
          out_of_new = λ v i hv hi.
              let e : n + 1 + (1 + i) ≡ n + 2 + i = omega arith in
              let a = small (n + 2 + i) v (omega arith) hv in
              let b : m.size_of (at m work (n + 2 + i)) ≤ 10 ^ 9 + 1 = subst (λ (k : ℕ). m.size_of (at m work k) ≤ 10 ^ 9 + 1) e (onward_small (1 + i) (omega arith)) in
              omega (arith, laws.reach_enough, a, b);
        }

  -- ── The spread ──

  -- the tightest of several sums is the tightest of the sets of sums
  best_tight : (f g : ℕ → B) (count : ℕ) → ((i : ℕ) → i < count → m.size_of (f i) + m.size_of (g i) ≤ m.reach)
      → TightestOf m.differences {I = (i : ℕ) × (i < count)} (λ i. Sum m.differences (m.allows (f i.0)) (m.allows (g i.0))) (m.allows (best_of m f g count))
  unfolding best_of
  best_tight f g zero fits = tightest_none m.differences _ (m.allows m.opened) (λ i. absurd (omega (arith, i.1))) laws.open_allows
  best_tight f g (suc k) fits = go (best_tight f g k (λ i h. fits i (omega arith))) (m.sum (f k) (g k)) refl
    where
      go : TightestOf m.differences {I = (i : ℕ) × (i < k)} (λ i. Sum m.differences (m.allows (f i.0)) (m.allows (g i.0))) (m.allows (best_of m f g k))
          → (o : Option B) → m.sum (f k) (g k) ≡ o
          → TightestOf m.differences {I = (i : ℕ) × (i < suc k)} (λ i. Sum m.differences (m.allows (f i.0)) (m.allows (g i.0))) (m.allows (with_sum m (best_of m f g k) o))
      go before None e = absurd (sum_some m laws (f k) (g k) (fits k (omega arith)) e)
      go before (Some s) e =
          tightest_more m.differences (λ i. Sum m.differences (m.allows (f i.0)) (m.allows (g i.0))) (λ i. Sum m.differences (m.allows (f i.0)) (m.allows (g i.0)))
          (m.allows (best_of m f g k)) (Sum m.differences (m.allows (f k)) (m.allows (g k))) (m.allows (tighter_of m (best_of m f g k) s)) before
          (λ (i, h). old i h) (λ (i, h). ((i, omega arith), λ d x. x)) ((k, omega arith), λ d x. x)
          (λ d. (
            λ h. let p = (tighter_both m laws (best_of m f g k) s d).0 h in (p.0, (sum_is m laws (f k) (g k) s e d).0 p.1),
            λ h. (tighter_both m laws (best_of m f g k) s d).1 (h.0, (sum_is m laws (f k) (g k) s e d).1 h.1),
          ))
          (either (tighter_either m laws (best_of m f g k) s))
        where
          old : (i : ℕ) → i < suc k
              → ((j : (j : ℕ) × (j < k)) × Within m.differences (Sum m.differences (m.allows (f j.0)) (m.allows (g j.0))) (Sum m.differences (m.allows (f i)) (m.allows (g i))))
              ⊎ Within m.differences (Sum m.differences (m.allows (f k)) (m.allows (g k))) (Sum m.differences (m.allows (f i)) (m.allows (g i)))
          old i h =
              ⊎_elim
              (λ (q : i ≡ k). inr (subst (λ (x : ℕ). Within m.differences (Sum m.differences (m.allows (f k)) (m.allows (g k))) (Sum m.differences (m.allows (f x)) (m.allows (g x)))) (sym q) (λ d x. x)))
              (λ (q : i < k). inl ((i, q), λ d x. x))
              (eq-or-lt_of_le {n = i} {m = k} (omega arith))

          either : Within m.differences (m.allows (best_of m f g k)) (m.allows (tighter_of m (best_of m f g k) s)) ⊎ Within m.differences (m.allows s) (m.allows (tighter_of m (best_of m f g k) s))
              → Within m.differences (m.allows (best_of m f g k)) (m.allows (tighter_of m (best_of m f g k) s))
              ⊎ Within m.differences (Sum m.differences (m.allows (f k)) (m.allows (g k))) (m.allows (tighter_of m (best_of m f g k) s))
          either (inl h) = inl h
          either (inr h) = inr (λ d x. h d ((sum_is m laws (f k) (g k) s e d).1 x))

  -- and no larger than one of the sums
  pub best_small : (f g : ℕ → B) (count most : ℕ) → ((i : ℕ) → i < count → m.size_of (f i) + m.size_of (g i) ≤ most) → m.size_of (best_of m f g count) ≤ most
  unfolding best_of
  best_small f g zero most fits = let h = laws.open_size in omega (arith, h)
  best_small f g (suc k) most fits = relaxed_small m laws (best_of m f g k) (f k) (g k) most (best_small f g k most (λ i h. fits i (omega arith))) (fits k (omega arith))

  module _ (motion : Motion) (table before after : List B) (direct : Direct m nil n motion.windows before) (small : Small m (2 * n + 2) table) (spread : SpreadTo m n table before after) where
    fits : SpreadFits m n table before
    fits = spread_fits motion before direct table small

    abbrev W : ℕ → ℕ → B
    W = with_new m nil n table after

    pub at_old : (u v : ℕ) → u < 2 * n + 2 → v < 2 * n + 2 → W u v ≡ cell m (2 * n + 2) table u v
    at_old u v hu hv = cond-true _ _ _ (lt-ltb u (2 * n + 2) hu) ∙ cond-true _ _ _ (lt-ltb v (2 * n + 2) hv)

    pub at_to : (u k : ℕ) → u < 2 * n + 2 → 2 * n + 2 ≤ k → W u k ≡ to_new m n table before u
    at_to u k hu hk = cond-true _ _ _ (lt-ltb u (2 * n + 2) hu) ∙ cond-false _ _ _ (le-ltb k (2 * n + 2) hk) ∙ spread.toward_new u hu

    pub at_from : (k v : ℕ) → 2 * n + 2 ≤ k → v < 2 * n + 2 → W k v ≡ from_new m n table before v
    at_from k v hk hv = cond-false _ _ _ (le-ltb k (2 * n + 2) hk) ∙ cond-true _ _ _ (lt-ltb v (2 * n + 2) hv) ∙ spread.out_of_new v hv

    pub at_new : (k l : ℕ) → 2 * n + 2 ≤ k → 2 * n + 2 ≤ l → W k l ≡ nil
    at_new k l hk hl = cond-false _ _ _ (le-ltb k (2 * n + 2) hk) ∙ cond-false _ _ _ (le-ltb l (2 * n + 2) hl)

    -- SPREAD: the table with the new now, as the theory asks for it
    pub spread_is : Spread m.differences n (table_of m n table) (λ i. m.allows (at m before i)) (λ i. m.allows (at m before (n + 1 + i))) (allowed_at m W)
    spread_is =
        record {
          old = λ u v hu hv d. subst (λ x. m.allows x d ↔ m.allows (cell m (2 * n + 2) table u v) d) (sym (at_old u v (omega arith) (omega arith))) ((λ h. h), (λ h. h));
          toward_new = λ u hu. subst (λ x. TightestOf m.differences {I = (i : ℕ) × (i ≤ n)} (λ i. Sum m.differences (m.allows (cell m (2 * n + 2) table u (suc n + i.0))) (m.allows (at m before i.0))) (m.allows x))
              (sym (at_to u (suc n + suc n) (omega arith) (omega arith))) (to_tight u (omega arith));
          out_of_new = λ v hv. subst (λ x. TightestOf m.differences {I = (i : ℕ) × (1 ≤ i) × (i ≤ n)} (λ i. Sum m.differences (m.allows (at m before (n + 1 + i.0))) (m.allows (cell m (2 * n + 2) table (suc n + i.0) v))) (m.allows x))
              (sym (at_from (suc n + suc n) v (omega arith) (omega arith))) (from_tight v (omega arith));
          self = λ d. subst (λ x. m.allows x d ↔ m.differences.le d (zero_of m.differences)) (sym (at_new (suc n + suc n) (suc n + suc n) (omega arith) (omega arith))) (laws.written_allows false (pos 0) nil is_zero d);
        }
      where
        to_tight : (u : ℕ) → u < 2 * n + 2
            → TightestOf m.differences {I = (i : ℕ) × (i ≤ n)} (λ i. Sum m.differences (m.allows (cell m (2 * n + 2) table u (suc n + i.0))) (m.allows (at m before i.0))) (m.allows (to_new m n table before u))
        to_tight u hu =
            tightest_again m.differences (λ (i : (i : ℕ) × (i < n + 1)). Way (n + 1 + i.0) i.0) (λ (i : (i : ℕ) × (i ≤ n)). Way (suc n + i.0) i.0) (m.allows (to_new m n table before u))
            (λ (i, l). ((i, omega arith), same i)) (λ (i, l). ((i, omega arith), same_back i))
            (best_tight (λ i. cell m (2 * n + 2) table u (n + 1 + i)) (λ i. at m before i) (n + 1) (λ i l. fits.toward_new u i hu l))
          where
            Way : (v i : ℕ) → Set m.differences
            Way v i = Sum m.differences (m.allows (cell m (2 * n + 2) table u v)) (m.allows (at m before i))

            same : (i : ℕ) → Within m.differences (Way (n + 1 + i) i) (Way (suc n + i) i)
            same i = let e : n + 1 + i ≡ suc n + i = omega arith in subst (λ (v : ℕ). Within m.differences (Way (n + 1 + i) i) (Way v i)) e (λ d h. h)

            same_back : (i : ℕ) → Within m.differences (Way (suc n + i) i) (Way (n + 1 + i) i)
            same_back i = let e : n + 1 + i ≡ suc n + i = omega arith in subst (λ (v : ℕ). Within m.differences (Way v i) (Way (n + 1 + i) i)) e (λ d h. h)

        from_tight : (v : ℕ) → v < 2 * n + 2
            → TightestOf m.differences {I = (i : ℕ) × (1 ≤ i) × (i ≤ n)} (λ i. Sum m.differences (m.allows (at m before (n + 1 + i.0))) (m.allows (cell m (2 * n + 2) table (suc n + i.0) v))) (m.allows (from_new m n table before v))
        from_tight v hv =
            tightest_again m.differences (λ (i : (i : ℕ) × (i < n)). Way (n + 2 + i.0) (n + 2 + i.0)) (λ (i : (i : ℕ) × (1 ≤ i) × (i ≤ n)). Way (n + 1 + i.0) (suc n + i.0)) (m.allows (from_new m n table before v))
            (λ (i, p, l). ((i - 1, omega arith), there i p)) (λ (i, l). ((1 + i, omega arith, omega arith), back i))
            (best_tight (λ i. at m before (n + 2 + i)) (λ i. cell m (2 * n + 2) table (n + 2 + i) v) n (λ i l. fits.out_of_new v i hv l))
          where
            Way : (i u : ℕ) → Set m.differences
            Way i u = Sum m.differences (m.allows (at m before i)) (m.allows (cell m (2 * n + 2) table u v))

            there : (i : ℕ) → 1 ≤ i → Within m.differences (Way (n + 2 + (i - 1)) (n + 2 + (i - 1))) (Way (n + 1 + i) (suc n + i))
            there i p =
                let e : n + 2 + (i - 1) ≡ n + 1 + i = omega arith in
                let f : n + 2 + (i - 1) ≡ suc n + i = omega arith in
                subst (λ (a : ℕ). Within m.differences (Way (n + 2 + (i - 1)) (n + 2 + (i - 1))) (Way a (suc n + i))) e
                (subst (λ (b : ℕ). Within m.differences (Way (n + 2 + (i - 1)) (n + 2 + (i - 1))) (Way (n + 2 + (i - 1)) b)) f (λ d h. h))

            back : (i : ℕ) → Within m.differences (Way (n + 1 + (1 + i)) (suc n + (1 + i))) (Way (n + 2 + i) (n + 2 + i))
            back i =
                let e : n + 2 + i ≡ n + 1 + (1 + i) = omega arith in
                let f : n + 2 + i ≡ suc n + (1 + i) = omega arith in
                subst (λ (a : ℕ). Within m.differences (Way a (suc n + (1 + i))) (Way (n + 2 + i) (n + 2 + i))) e
                (subst (λ (b : ℕ). Within m.differences (Way (n + 2 + i) b) (Way (n + 2 + i) (n + 2 + i))) f (λ d h. h))
