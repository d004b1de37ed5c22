-- The bounds that a motion's windows and its wait write between the old end's dates and the new now, window by window. Assumes nothing.
use Rattle.std.specs.Prelude.{◌≡◌, ℕ, ◌+◌, ◌*◌, ◌<◌, Bool, true, false, cond, List, [], ◌∷◌, ℤ, pos, neg_ℤ, Some, None, Option, ◌==◌}
use Rattle.bound.specs.Meaning.{Meaning, tighter_of}
use Rattle.chart.specs.declared.types.Sign.{Sign}
use Rattle.chart.specs.declared.types.Sign.TheVariants.{AtMost, Under, AtLeast, Over, Equal}
use Rattle.chart.specs.declared.types.Window.{Window}
use Rattle.table.specs.Cells.{at, Beyond}

-- whether a sign bounds the value from above, and whether strictly; and from below
abbrev pub upper_side : Sign → Option Bool
upper_side AtMost = Some false
upper_side Under = Some true
upper_side AtLeast = None
upper_side Over = None
upper_side Equal = Some false

abbrev pub lower_side : Sign → Option Bool
lower_side AtMost = None
lower_side Under = None
lower_side AtLeast = Some false
lower_side Over = Some true
lower_side Equal = Some false

module _ {B : Type 0} (m : Meaning B) where
  -- a bound tightened by one that may be there
  abbrev pub tightened_by : B → Option B → B
  tightened_by a None = a
  tightened_by a (Some b) = tighter_of m a b

  abbrev pub written_by : B → Option Bool → ℤ → B
  written_by a None c = a
  written_by a (Some strict) c = tightened_by a (m.written strict c)

  -- one window more on the bound of timer i, if it is on that timer and writes one of this side
  abbrev pub more : (Sign → Option Bool) → (ℕ → ℤ) → ℕ → B → Window → B
  more side signed i a w = cond (w.timer == i) (written_by a (side w.sign) (signed w.number)) a

  -- all windows, one after the other
  unfoldable pub all_more : (Sign → Option Bool) → (ℕ → ℤ) → ℕ → B → List Window → B
  all_more side signed i a [] = a
  all_more side signed i a (w ∷ ws) = all_more side signed i (more side signed i a w) ws

  -- on the timer's date less the new now, and on the new now less the timer's date
  abbrev pub into_more : ℕ → B → Window → B
  into_more = more lower_side (λ c. neg_ℤ (pos c))

  abbrev pub onward_more : ℕ → B → Window → B
  onward_more = more upper_side (λ c. pos c)

  abbrev pub into_by : ℕ → B → List Window → B
  into_by = all_more lower_side (λ c. neg_ℤ (pos c))

  abbrev pub onward_by : ℕ → B → List Window → B
  onward_by = all_more upper_side (λ c. pos c)

  -- what one window makes of the bounds, which lie at the front: n + 1 into the new now, then n + 1 out of it
  pub record Noted (n : ℕ) (w : Window) (before after : List B) : Type 0 where
    pub into : (i : ℕ) → i < n + 1 → at m after i ≡ into_more i (at m before i) w
    pub onward : (i : ℕ) → i < n + 1 → at m after (n + 1 + i) ≡ onward_more i (at m before (n + 1 + i)) w
    pub beyond : Beyond m (2 * n + 2) before after

  -- the wait bounds the old now by the new one; all else is open before the windows
  abbrev pub wait_into : B → ℕ → B
  wait_into zero i = cond (i == 0) zero m.opened

  -- the bounds that the wait and all windows write
  pub record Direct (zero : B) (n : ℕ) (ws : List Window) (work : List B) : Type 0 where
    pub into : (i : ℕ) → i < n + 1 → at m work i ≡ into_by i (wait_into zero i) ws
    pub onward : (i : ℕ) → i < n + 1 → at m work (n + 1 + i) ≡ onward_by i m.opened ws
