-- What a window says of a timer's value, as the limits that it writes. Assumes nothing.
use Rattle.std.proofs.Common.{ℕ, Bool, true, false, [], ◌∷◌, ℤ, pos, ◌-ℤ◌, neg_ℤ, refl, arith}
use borrow.Author.Differences.{ints}
use Rattle.bound.specs.Differences.{Differences, Ordered}
use Rattle.bound.specs.Meaning.{Stands}
use Rattle.chart.specs.declared.types.Sign.{Sign}
use Rattle.chart.specs.declared.types.Sign.TheVariants.{AtMost, Under, AtLeast, Over, Equal}
use Rattle.runs.specs.Runs.{StandsSo}
use Rattle.runs.specs.Graph.{UpperSign, LowerSign}
use Rattle.runs.specs.Graph.UpperSign.{upper_at_most, upper_below, upper_exactly}
use Rattle.runs.specs.Graph.LowerSign.{lower_at_least, lower_above, lower_exactly}
use Rattle.bound.specs.Groups.{≤_trans}
use Rattle.bound.specs.Solver.{opp, v0, v1, le_from}
use Rattle.bound.specs.Strict.{le_less, less_le, less_from}
use Rattle.bound.proofs.Wholes.{whole_neg}

module _ {D : Differences} (o : Ordered D) where
  open D use {Diff, le, add, neg}

  -- what a window says of a value, as an upper and as a lower limit
  pub upper_stands : {s : Sign} {b : Bool} → UpperSign s b → (v : Diff) (c : ℕ) → StandsSo D s v (D.whole (pos c)) → Stands D b v (pos c)
  upper_stands upper_at_most v c h = h
  upper_stands upper_below v c h = h
  upper_stands upper_exactly v c h = h.0

  pub lower_stands : {s : Sign} {b : Bool} → LowerSign s b → (v : Diff) (c : ℕ) → StandsSo D s v (D.whole (pos c)) → Stands D b (neg v) (neg_ℤ (pos c))
  lower_stands lower_at_least v c h =
      ≤_trans o (le_from o (v ∷ D.whole (pos c) ∷ []) (opp v0) (opp v1) v1 v0 refl h) (whole_neg o (pos c)).1
  lower_stands lower_above v c h =
      less_le o (neg v) (neg (D.whole (pos c))) (D.whole (neg_ℤ (pos c)))
      (less_from o (v ∷ D.whole (pos c) ∷ []) (opp v0) (opp v1) v1 v0 refl h) (whole_neg o (pos c)).1
  lower_stands lower_exactly v c h =
      ≤_trans o (le_from o (v ∷ D.whole (pos c) ∷ []) (opp v0) (opp v1) v1 v0 refl h.1) (whole_neg o (pos c)).1

  pub stands_lower : (b : Bool) (c : ℤ) (d e : Diff) → le e d → Stands D b d c → Stands D b e c
  stands_lower false c d e h k = ≤_trans o h k
  stands_lower true c d e h k = le_less o e d (D.whole c) h k

  -- some difference stands so to any number
  pub stands_point : (s : Bool) (k : ℤ) → (d : Diff) × Stands D s d k
  stands_point false k = (D.whole k, o.le_refl (D.whole k))
  stands_point true k = (
    D.whole (k -ℤ pos 1),
    ((o.whole_le (k -ℤ pos 1) k).0 (omega (arith, ints)), λ h. let l = (o.whole_le k (k -ℤ pos 1)).1 h in absurd (omega (arith, ints))),
  )

  turned : (v : Diff) (c : ℕ) → le (neg v) (D.whole (neg_ℤ (pos c))) → le (D.whole (pos c)) v
  turned v c h = le_from o (v ∷ D.whole (pos c) ∷ []) v1 v0 (opp v0) (opp v1) refl (≤_trans o h (whole_neg o (pos c)).0)

  -- a value for which all that a sign writes holds stands so
  pub stands_from : (s : Sign) (v : Diff) (c : ℕ) → ((b : Bool) → UpperSign s b → Stands D b v (pos c))
      → ((b : Bool) → LowerSign s b → Stands D b (neg v) (neg_ℤ (pos c))) → StandsSo D s v (D.whole (pos c))
  stands_from AtMost v c h k = h false upper_at_most
  stands_from Under v c h k = h true upper_below
  stands_from AtLeast v c h k = turned v c (k false lower_at_least)
  stands_from Over v c h k =
      less_from o (v ∷ D.whole (pos c) ∷ []) v1 v0 (opp v0) (opp v1) refl
      (less_le o (neg v) (D.whole (neg_ℤ (pos c))) (neg (D.whole (pos c))) (k true lower_above) (whole_neg o (pos c)).0)
  stands_from Equal v c h k = (h false upper_exactly, turned v c (k false lower_exactly))
