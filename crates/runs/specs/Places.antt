-- Tables of bounds by their places: what they allow, how large they are, and a pivot on them. Assumes nothing.
use Rattle.std.specs.Prelude.{◌≡◌, ℕ, ◌<◌, Some}
use Rattle.bound.specs.Meaning.{Meaning, tighter_of}
use Rattle.runs.specs.Tables.{Table}

module _ {B : Type 0} (m : Meaning B) where
  abbrev pub allowed_at : (ℕ → ℕ → B) → Table m.differences
  allowed_at W u v = m.allows (W u v)

  abbrev pub size_at : (ℕ → ℕ → B) → ℕ → ℕ → ℕ
  size_at W u v = m.size_of (W u v)

  -- V is W after a pivot on p: every place is the tighter of itself and the sum of the two places by way of p
  abbrev pub PivotedTo : (N : ℕ) (W : ℕ → ℕ → B) (p : ℕ) (V : ℕ → ℕ → B) → Type 0
  PivotedTo N W p V = (u v : ℕ) → u < N → v < N → (s : B) × (m.sum (W u p) (W p v) ≡ Some s) × (V u v ≡ tighter_of m (W u v) s)
