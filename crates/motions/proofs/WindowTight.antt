-- The bounds that windows write, one after the other, are the tightest that they write, and small. Assumes nothing.
use Rattle.std.proofs.Common.{◌≡◌, ℕ, ◌+◌, ◌^◌, ◌≤◌, Bool, true, false, cond, eqb, ◌⊎◌, List, [], ◌∷◌, ◌++◌, ℤ, nat_abs, Some, None, Option, sym, refl, subst, inl, inr, append_assoc, append-nil, arith}
use Rattle.std.proofs.lemmas.Bool.{eqb-true, eqb-false}
use Rattle.bound.specs.Differences.{Differences}
use Rattle.bound.specs.Meaning.{Meaning, Laws, Stands, tighter_of}
use Rattle.bound.proofs.Lawful.{tighter_both, tighter_either, written_some}
use Rattle.chart.specs.declared.types.Sign.{Sign}
use Rattle.chart.specs.declared.types.Sign.TheVariants.{AtMost, Under, AtLeast, Over, Equal}
use Rattle.chart.specs.declared.types.Window.{Window}
use Rattle.runs.specs.Graph.{UpperSign, LowerSign}
use Rattle.runs.specs.Graph.UpperSign.{upper_at_most, upper_below, upper_exactly}
use Rattle.runs.specs.Graph.LowerSign.{lower_at_least, lower_above, lower_exactly}
use Rattle.runs.specs.Tables.{Set, Within}
use Rattle.runs.proofs.WindowBounds.{TightestOn, windows_none, windows_skip, windows_more}
use Rattle.motions.specs.Windows.{upper_side, lower_side, tightened_by, written_by, more, all_more}

-- one side, upper or lower, with the number that it writes
module _ {B : Type 0} (m : Meaning B) (laws : Laws m) (Side : Sign → Bool → Type 0) (once : (g : Sign) (s r : Bool) → Side g s → Side g r → s ≡ r)
    (side : Sign → Option Bool) (sided : (g : Sign) (s : Bool) → side g ≡ Some s → Side g s) (unsided : (g : Sign) (s : Bool) → side g ≡ None → Side g s → ⊥)
    (signed : ℕ → ℤ) (small : (c : ℕ) → c ≤ 1000000000 → nat_abs (signed c) ≤ 10 ^ 9) (i : ℕ) where
  D : Differences
  D = m.differences

  -- the differences that a number written on this side allows
  abbrev set : Bool → ℕ → Set m.differences
  set s c d = Stands m.differences s d (signed c)

  abbrev Tight : List Window → B → Type 0
  Tight ws a = TightestOn m.differences Side once set i ws (m.allows a)

  -- a window on the timer that writes a bound of this side
  writes_one : (ws : List Window) (w : Window) (s : Bool) (a : B) → w.timer ≡ i → Side w.sign s → (o : Option B) → m.written s (signed w.number) ≡ o
      → Tight ws a → Tight (ws ++ w ∷ []) (tightened_by m a o)
  writes_one ws w s a on is None e t = absurd (written_some m laws s (signed w.number) (small w.number w.range) e)
  writes_one ws w s a on is (Some b) e t =
      windows_more m.differences Side once set i ws w s on is (m.allows a) (m.allows (tighter_of m a b)) t
      (λ d. (
        λ h. let p = (tighter_both m laws a b d).0 h in (p.0, (laws.written_allows s (signed w.number) b e d).0 p.1),
        λ h. (tighter_both m laws a b d).1 (h.0, (laws.written_allows s (signed w.number) b e d).1 h.1),
      ))
      (go (tighter_either m laws a b))
    where
      go : Within m.differences (m.allows a) (m.allows (tighter_of m a b)) ⊎ Within m.differences (m.allows b) (m.allows (tighter_of m a b))
          → Within m.differences (m.allows a) (m.allows (tighter_of m a b)) ⊎ Within m.differences (set s w.number) (m.allows (tighter_of m a b))
      go (inl h) = inl h
      go (inr h) = inr (λ d k. h d ((laws.written_allows s (signed w.number) b e d).1 k))

  step : (ws : List Window) (w : Window) (a : B) → Tight ws a → Tight (ws ++ w ∷ []) (more m side signed i a w)
  step ws w a t = by_timer (eqb w.timer i) refl
    where
      by_side : (o : Option Bool) → side w.sign ≡ o → w.timer ≡ i → Tight (ws ++ w ∷ []) (written_by m a o (signed w.number))
      by_side None e on = windows_skip m.differences Side once set i ws w (λ s _ is. unsided w.sign s e is) (m.allows a) t
      by_side (Some s) e on = writes_one ws w s a on (sided w.sign s e) (m.written s (signed w.number)) refl t

      by_timer : (b : Bool) → eqb w.timer i ≡ b → Tight (ws ++ w ∷ []) (cond b (written_by m a (side w.sign) (signed w.number)) a)
      by_timer true e = by_side (side w.sign) refl (eqb-true w.timer i e)
      by_timer false e = windows_skip m.differences Side once set i ws w (λ s on _. eqb-false w.timer i e on) (m.allows a) t

  all_tight : (done rest : List Window) (a : B) → Tight done a → Tight (done ++ rest) (all_more m side signed i a rest)
  unfolding all_more
  all_tight done [] a t = subst (λ ws. Tight ws a) (sym (append-nil done)) t
  all_tight done (w ∷ ws) a t =
      subst (λ us. Tight us (all_more m side signed i (more m side signed i a w) ws)) (append_assoc done (w ∷ []) ws) (all_tight (done ++ w ∷ []) ws (more m side signed i a w) (step done w a t))

  -- TIGHT: all windows, from open on
  pub windows_tight : (ws : List Window) → Tight ws (all_more m side signed i m.opened ws)
  windows_tight ws = all_tight [] ws m.opened (windows_none m.differences Side once set i (m.allows m.opened) laws.open_allows)

  -- SMALL: each of them is at most as large as a written bound
  one_small : (a : B) (w : Window) → m.size_of a ≤ 10 ^ 9 + 1 → m.size_of (more m side signed i a w) ≤ 10 ^ 9 + 1
  one_small a w h = by_timer (eqb w.timer i)
    where
      by_bound : (s : Bool) (o : Option B) → m.written s (signed w.number) ≡ o → m.size_of (tightened_by m a o) ≤ 10 ^ 9 + 1
      by_bound s None e = h
      by_bound s (Some b) e = pick (m.tighter a b)
        where
          pick : (t : Bool) → m.size_of (cond t a b) ≤ 10 ^ 9 + 1
          pick true = h
          pick false = let k = laws.written_size s (signed w.number) b e in let l = small w.number w.range in omega arith

      by_side : (o : Option Bool) → m.size_of (written_by m a o (signed w.number)) ≤ 10 ^ 9 + 1
      by_side None = h
      by_side (Some s) = by_bound s (m.written s (signed w.number)) refl

      by_timer : (b : Bool) → m.size_of (cond b (written_by m a (side w.sign) (signed w.number)) a) ≤ 10 ^ 9 + 1
      by_timer true = by_side (side w.sign)
      by_timer false = h

  pub windows_small : (ws : List Window) (a : B) → m.size_of a ≤ 10 ^ 9 + 1 → m.size_of (all_more m side signed i a ws) ≤ 10 ^ 9 + 1
  unfolding all_more
  windows_small [] a h = h
  windows_small (w ∷ ws) a h = windows_small ws (more m side signed i a w) (one_small a w h)

-- ── The two sides ──

pub upper_sided : (g : Sign) (s : Bool) → upper_side g ≡ Some s → UpperSign g s
upper_sided AtMost s e = let z : false ≡ s = cc in subst (UpperSign AtMost) z upper_at_most
upper_sided Under s e = let z : true ≡ s = cc in subst (UpperSign Under) z upper_below
upper_sided AtLeast s e = absurd (grind arith)
upper_sided Over s e = absurd (grind arith)
upper_sided Equal s e = let z : false ≡ s = cc in subst (UpperSign Equal) z upper_exactly

pub upper_unsided : (g : Sign) (s : Bool) → upper_side g ≡ None → UpperSign g s → ⊥
upper_unsided g s e upper_at_most = grind arith
upper_unsided g s e upper_below = grind arith
upper_unsided g s e upper_exactly = grind arith

pub lower_sided : (g : Sign) (s : Bool) → lower_side g ≡ Some s → LowerSign g s
lower_sided AtMost s e = absurd (grind arith)
lower_sided Under s e = absurd (grind arith)
lower_sided AtLeast s e = let z : false ≡ s = cc in subst (LowerSign AtLeast) z lower_at_least
lower_sided Over s e = let z : true ≡ s = cc in subst (LowerSign Over) z lower_above
lower_sided Equal s e = let z : false ≡ s = cc in subst (LowerSign Equal) z lower_exactly

pub lower_unsided : (g : Sign) (s : Bool) → lower_side g ≡ None → LowerSign g s → ⊥
lower_unsided g s e lower_at_least = grind arith
lower_unsided g s e lower_above = grind arith
lower_unsided g s e lower_exactly = grind arith
