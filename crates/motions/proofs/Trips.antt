-- The ways from the new now to a timer's date and back. Assumes nothing.
use Rattle.std.proofs.Common.{◌≡◌, ℕ, ◌+◌, ◌*◌, ◌<◌, ◌≤◌, List, Some, None, Option, sym, refl, ap, subst₂, arith}
use Rattle.bound.specs.Differences.{zero_of}
use Rattle.bound.specs.Meaning.{Meaning, Laws, AllowsZero}
use Rattle.runs.specs.Tables.{Sum}
use Rattle.runs.proofs.Bounds.{sum_is}
use Rattle.table.specs.Cells.{at}
use Rattle.table.specs.Compared.{answered}
use Rattle.motions.specs.Star.{TripAllows, StarFits}

-- two bounds of the star have a sum within the reach
pub two_fit : {B : Type 0} (m : Meaning B) (n : ℕ) (work : List B) → StarFits m n work → (i j : ℕ) → i < 6 * n + 6 → j < 6 * n + 6 → (a b : B) → a ≡ at m work i → b ≡ at m work j
    → m.size_of a + m.size_of b ≤ m.reach
two_fit m n work fits i j hi hj a b ea eb = subst₂ (λ x y. m.size_of x + m.size_of y ≤ m.reach) (sym ea) (sym eb) (fits i j hi hj)

-- a sum within the reach is answered
answered_sum : {B : Type 0} (m : Meaning B) (laws : Laws m) (a b s : B) → m.size_of a + m.size_of b ≤ m.reach → s ≡ answered m (m.sum a b) → m.sum a b ≡ Some s
answered_sum {B} m laws a b s fits e = go (m.sum a b) refl e
  where
    go : (o : Option B) → m.sum a b ≡ o → s ≡ answered m o → o ≡ Some s
    go None none _ = absurd (let h : m.reach < m.size_of a + m.size_of b = (laws.sum_none a b).0 none in omega arith)
    go (Some t) _ is = ap Some (sym is)

-- and so is that of two bounds of the star
pub trip_sum : {B : Type 0} (m : Meaning B) (laws : Laws m) (n : ℕ) (work : List B) → StarFits m n work → (i j : ℕ) → i < 6 * n + 6 → j < 6 * n + 6
    → (a b s : B) → a ≡ at m work i → b ≡ at m work j → s ≡ answered m (m.sum a b) → m.sum a b ≡ Some s
trip_sum m laws n work fits i j hi hj a b s ea eb e =
    answered_sum m laws a b s (subst₂ (λ x y. m.size_of x + m.size_of y ≤ m.reach) (sym ea) (sym eb) (fits i j hi hj)) e

module _ {B : Type 0} (m : Meaning B) (laws : Laws m) (n : ℕ) (work : List B) (i : ℕ) (onward back s : B)
    (eo : onward ≡ at m work (n + 2 + i)) (eb : back ≡ at m work (3 * n + 4 + i)) (es : m.sum onward back ≡ Some s) where
  abbrev Trip : B → B → Type 0
  Trip a b = Sum m.differences (m.allows a) (m.allows b) (zero_of m.differences)

  pub trip_yes : AllowsZero m s → TripAllows m n work i
  trip_yes h = subst₂ Trip eo eb ((sum_is m laws onward back s es (zero_of m.differences)).0 h)

  pub trip_no : (AllowsZero m s → ⊥) → TripAllows m n work i → ⊥
  trip_no h t = h ((sum_is m laws onward back s es (zero_of m.differences)).1 (subst₂ Trip (sym eo) (sym eb) t))
