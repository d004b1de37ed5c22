-- The bounds that a list of windows writes on a timer, window by window. Assumes nothing.
use Rattle.std.proofs.Common.{◌≡◌, ℕ, Bool, ◌⊎◌, ◌↔◌, List, [], ◌∷◌, ◌++◌, sym, refl, subst, subst₂, inl, inr}
use Rattle.bound.specs.Differences.{Differences}
use Rattle.runs.specs.Lists.{At}
use Rattle.runs.specs.Lists.At.{here}
use Rattle.chart.specs.declared.types.Sign.{Sign}
use Rattle.chart.specs.declared.types.Window.{Window}
use Rattle.runs.specs.Graph.{UpperSign, LowerSign}
use Rattle.runs.specs.Graph.UpperSign.{upper_at_most, upper_below, upper_exactly}
use Rattle.runs.specs.Graph.LowerSign.{lower_at_least, lower_above, lower_exactly}
use Rattle.runs.specs.Tables.{Set, Within, TightestOf}
use Rattle.runs.specs.Motions.{Writing}
use Rattle.runs.proofs.Lists.{at_first, at_last, at_split}
use Rattle.runs.proofs.Bounds.{tightest_none, tightest_more}

-- a sign writes one bound of a side at most
pub upper_once : {g : Sign} {s r : Bool} → UpperSign g s → UpperSign g r → s ≡ r
upper_once upper_at_most upper_at_most = refl
upper_once upper_below upper_below = refl
upper_once upper_exactly upper_exactly = refl

pub lower_once : {g : Sign} {s r : Bool} → LowerSign g s → LowerSign g r → s ≡ r
lower_once lower_at_least lower_at_least = refl
lower_once lower_above lower_above = refl
lower_once lower_exactly lower_exactly = refl

-- one side, upper or lower, and the set that a number writes on it
module _ (D : Differences) (Side : Sign → Bool → Type 0) (once : (g : Sign) (s r : Bool) → Side g s → Side g r → s ≡ r) (set : Bool → ℕ → Set D) (i : ℕ) where
  -- Q is the tightest that the windows write on timer i.
  abbrev pub TightestOn : List Window → Set D → Type 0
  TightestOn ws Q = TightestOf D {I = Writing Side ws i} (λ w. set w.strict w.window.number) Q

  pub windows_none : (Q : Set D) → ((d : D.Diff) → Q d) → TightestOn [] Q
  windows_none Q h = tightest_none D (λ w. set w.strict w.window.number) Q (λ w. elim w.at [ ]) h

  abbrev widen : (ws : List Window) (w : Window) → Writing Side ws i → Writing Side (ws ++ w ∷ []) i
  widen ws w v = record { place = v.place; window = v.window; strict = v.strict; at = at_first (w ∷ []) v.at; on = v.on; side = v.side }

  -- a window that writes nothing on this side of the timer
  pub windows_skip : (ws : List Window) (w : Window) → ((s : Bool) → w.timer ≡ i → Side w.sign s → ⊥) → (Q : Set D) → TightestOn ws Q → TightestOn (ws ++ w ∷ []) Q
  windows_skip ws w none Q t = record { within = λ v. below v (at_split ws v.at); reached = above t.reached }
    where
      below : (v : Writing Side (ws ++ w ∷ []) i) → ((k : ℕ) × At ws k v.window) ⊎ (v.window ≡ w) → Within D Q (set v.strict v.window.number)
      below v (inl (k, a)) = t.within record { place = k; window = v.window; strict = v.strict; at = a; on = v.on; side = v.side }
      below v (inr e) = absurd (none v.strict (subst (λ x. x.timer ≡ i) e v.on) (subst (λ x. Side x.sign v.strict) e v.side))

      above : ((v : Writing Side ws i) × Within D (set v.strict v.window.number) Q) ⊎ ((d : D.Diff) → Q d)
          → ((v : Writing Side (ws ++ w ∷ []) i) × Within D (set v.strict v.window.number) Q) ⊎ ((d : D.Diff) → Q d)
      above (inl (v, h)) = inl (widen ws w v, h)
      above (inr h) = inr h

  -- a window that writes one: what was written, and it
  pub windows_more : (ws : List Window) (w : Window) (s : Bool) → w.timer ≡ i → Side w.sign s → (Q Q' : Set D) → TightestOn ws Q
      → ((d : D.Diff) → Q' d ↔ (Q d × set s w.number d)) → Within D Q Q' ⊎ Within D (set s w.number) Q' → TightestOn (ws ++ w ∷ []) Q'
  windows_more ws w s on side Q Q' t both either =
      tightest_more D (λ v. set v.strict v.window.number) (λ v. set v.strict v.window.number) Q (set s w.number) Q' t
      (λ v. old v (at_split ws v.at)) (λ v. (widen ws w v, λ d h. h)) (new, λ d h. h) both either
    where
      new : Writing Side (ws ++ w ∷ []) i
      new = record { place = _; window = w; strict = s; at = at_last ws here; on = on; side = side }

      old : (v : Writing Side (ws ++ w ∷ []) i) → ((k : ℕ) × At ws k v.window) ⊎ (v.window ≡ w)
          → ((u : Writing Side ws i) × Within D (set u.strict u.window.number) (set v.strict v.window.number))
          ⊎ Within D (set s w.number) (set v.strict v.window.number)
      old v (inl (k, a)) = inl (record { place = k; window = v.window; strict = v.strict; at = a; on = v.on; side = v.side }, λ d h. h)
      old v (inr e) =
          let f : s ≡ v.strict = once w.sign s v.strict side (subst (λ x. Side x.sign v.strict) e v.side) in
          inr (λ d h. subst₂ (λ r (x : Window). set r x.number d) f (sym e) h)
