-- Differences: a totally ordered abelian group, that is, a commutative group with a total order that addition respects, in which the whole numbers lie with their sum and order. Assumes nothing.
use Rattle.std.specs.Prelude.{◌⊎◌, ◌↔◌, ℤ, pos, ◌+ℤ◌, ◌≤ℤ◌}

-- What bounds are set on. Equality is not that of the values: a kind may have many values for one difference, as 1/2 and 2/4.
pub record Differences : Type 1 where
  pub Diff : Type 0
  pub le : Diff → Diff → Type 0
  pub add : Diff → Diff → Diff
  pub neg : Diff → Diff
  pub whole : ℤ → Diff

-- Equal as differences: each is at most the other.
abbrev pub Same : (D : Differences) → D.Diff → D.Diff → Type 0
Same D a b = D.le a b × D.le b a

-- At most, and not the other way.
abbrev pub Less : (D : Differences) → D.Diff → D.Diff → Type 0
Less D a b = D.le a b × (D.le b a → ⊥)

-- The difference 0.
abbrev pub zero_of : (D : Differences) → D.Diff
zero_of D = D.whole (pos 0)

-- One difference less another.
abbrev pub minus : (D : Differences) → D.Diff → D.Diff → D.Diff
minus D a b = D.add a (D.neg b)

-- The laws of such a group, and of the whole numbers in it.
pub record Ordered (D : Differences) : Type 0 where
  pub le_refl : (a : D.Diff) → D.le a a
  pub le_trans : (a b c : D.Diff) → D.le a b → D.le b c → D.le a c
  pub total : (a b : D.Diff) → D.le a b ⊎ D.le b a
  pub add_comm : (a b : D.Diff) → Same D (D.add a b) (D.add b a)
  pub add_assoc : (a b c : D.Diff) → Same D (D.add (D.add a b) c) (D.add a (D.add b c))
  pub add_zero : (a : D.Diff) → Same D (D.add a (D.whole (pos 0))) a
  pub add_neg : (a : D.Diff) → Same D (D.add a (D.neg a)) (D.whole (pos 0))
  pub add_le : (a b c : D.Diff) → D.le a b → D.le (D.add a c) (D.add b c)
  pub whole_add : (m n : ℤ) → Same D (D.whole (m +ℤ n)) (D.add (D.whole m) (D.whole n))
  pub whole_le : (m n : ℤ) → (m ≤ℤ n) ↔ D.le (D.whole m) (D.whole n)
