-- What follows at once from the laws of differences: order, equality and sums. Assumes nothing.
use Rattle.bound.specs.Differences.{Differences, Same, Ordered, zero_of}

module _ {D : Differences} (o : Ordered D) where
  open D use {Diff, le, add, neg}

  pub ≤-refl : {a : Diff} → le a a
  ≤-refl {a} = o.le_refl a

  pub ≤_trans : {a b c : Diff} → le a b → le b c → le a c
  ≤_trans {a} {b} {c} h k = o.le_trans a b c h k

  pub ≈-refl : (a : Diff) → Same D a a
  ≈-refl a = (o.le_refl a, o.le_refl a)

  pub ≈-sym : {a b : Diff} → Same D a b → Same D b a
  ≈-sym h = (h.1, h.0)

  pub ≈-trans : {a b c : Diff} → Same D a b → Same D b c → Same D a c
  ≈-trans h k = (≤_trans h.0 k.0, ≤_trans k.1 h.1)

  pub add-≤ : {a b c d : Diff} → le a b → le c d → le (add a c) (add b d)
  add-≤ {a} {b} {c} {d} h k =
      ≤_trans (o.add_le a b c h) (≤_trans (o.add_comm b c).0 (≤_trans (o.add_le c d b k) (o.add_comm d b).0))

  pub add-≈ : {a b c d : Diff} → Same D a b → Same D c d → Same D (add a c) (add b d)
  add-≈ h k = (add-≤ h.0 k.0, add-≤ h.1 k.1)

  pub zero_left : (a : Diff) → Same D (add (zero_of D) a) a
  zero_left a = ≈-trans (o.add_comm (zero_of D) a) (o.add_zero a)
