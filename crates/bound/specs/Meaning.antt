-- What a kind of bound means, and the laws that every kind keeps. Assumes nothing.
use Rattle.std.specs.Prelude.{◌≡◌, ℕ, ◌+◌, ◌^◌, ◌<◌, ◌≤◌, Bool, true, false, cond, ◌↔◌, ℤ, Some, None, Option, unsigned_abs}
use Rattle.bound.specs.Differences.{Differences, Same, Less, Ordered, zero_of}

-- The differences, which of them a bound allows, and what each function on bounds answers.
pub record Meaning (B : Type 0) : Type 1 where
  pub differences : Differences
  pub allows : B → differences.Diff → Type 0
  pub written : Bool → ℤ → Option B
  pub opened : B
  pub sum : B → B → Option B
  pub tighter : B → B → Bool
  pub size_of : B → ℕ
  -- the largest |c| that can be written, and the largest that two sizes may come to in a sum
  pub range : ℕ
  pub reach : ℕ

-- d stands to c as the sign says: "<" if it is strict, else "≤".
abbrev pub Stands : (D : Differences) → Bool → D.Diff → ℤ → Type 0
Stands D true d c = Less D d (D.whole c)
Stands D false d c = D.le d (D.whole c)

-- d is e + f, with e allowed by a and f by b.
abbrev pub SumOf : {B : Type 0} (m : Meaning B) → B → B → m.differences.Diff → Type 0
SumOf m a b d = (e : m.differences.Diff) × (f : m.differences.Diff) × (m.allows a e) × (m.allows b f) × Same m.differences d (m.differences.add e f)

-- b allows all that a allows.
abbrev pub Inside : {B : Type 0} (m : Meaning B) → B → B → Type 0
Inside m a b = (d : m.differences.Diff) → m.allows a d → m.allows b d

-- a allows a difference that b does not.
abbrev pub Outside : {B : Type 0} (m : Meaning B) → B → B → Type 0
Outside m a b = (d : m.differences.Diff) × m.allows a d × (m.allows b d → ⊥)

-- r allows what a and b both allow.
abbrev pub Both : {B : Type 0} (m : Meaning B) → B → B → B → Type 0
Both m a b r = (d : m.differences.Diff) → m.allows r d ↔ (m.allows a d × m.allows b d)

-- b allows the difference 0.
abbrev pub AllowsZero : {B : Type 0} (m : Meaning B) → B → Type 0
AllowsZero m b = m.allows b (zero_of m.differences)

-- The one that the kind finds tighter.
abbrev pub tighter_of : {B : Type 0} (m : Meaning B) → B → B → B
tighter_of m a b = cond (m.tighter a b) a b

-- The laws. One that says that something exists is read constructively: its proof gives the thing, and whoever uses the law gets it.
-- So sum_allows takes a difference that a sum allows apart into its two parts, and tighter_no gives a difference that the first bound allows and the second does not.
-- In the same way ↔ is a function each way, and "not" is a function to ⊥.
pub record Laws {B : Type 0} (m : Meaning B) : Type 0 where
  pub ordered : Ordered m.differences
  pub range_enough : 10 ^ 9 ≤ m.range
  pub reach_enough : 2 ^ 46 ≤ m.reach
  -- a bound is an upper one: with a difference it allows every smaller one
  pub lower : (b : B) (d e : m.differences.Diff) → m.differences.le e d → m.allows b d → m.allows b e
  -- a written bound allows exactly the differences that stand to c as it says
  pub written_none : (strict : Bool) (c : ℤ) → (m.written strict c ≡ None) ↔ (m.range < unsigned_abs c)
  pub written_allows : (strict : Bool) (c : ℤ) (b : B) → m.written strict c ≡ Some b → (d : m.differences.Diff) → m.allows b d ↔ Stands m.differences strict d c
  pub written_size : (strict : Bool) (c : ℤ) (b : B) → m.written strict c ≡ Some b → m.size_of b ≤ unsigned_abs c + 1
  -- the open bound allows every difference
  pub open_allows : (d : m.differences.Diff) → m.allows m.opened d
  pub open_size : m.size_of m.opened ≡ 0
  -- a sum allows exactly the sums
  pub sum_none : (a b : B) → (m.sum a b ≡ None) ↔ (m.reach < m.size_of a + m.size_of b)
  pub sum_allows : (a b s : B) → m.sum a b ≡ Some s → (d : m.differences.Diff) → m.allows s d ↔ SumOf m a b d
  pub sum_size : (a b s : B) → m.sum a b ≡ Some s → m.size_of s ≤ m.size_of a + m.size_of b
  -- tighter says yes exactly when the second allows all that the first allows
  pub tighter_yes : (a b : B) → m.tighter a b ≡ true → Inside m a b
  pub tighter_no : (a b : B) → m.tighter a b ≡ false → Outside m a b
  -- bounds that allow the same have the same size
  pub same_size : (a b : B) → Inside m a b → Inside m b a → m.size_of a ≡ m.size_of b
