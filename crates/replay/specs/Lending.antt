-- Elements of a slice that are lent. Assumes nothing.
use Rattle.std.specs.Prelude.{ℕ, Option, List, slice_set}
use Rattle.std.specs.Borrow.{LendsIf, LendsBoth as LendsTwo, MutBor, Fml, Array, RattleType}

module _ (T : RattleType) (items : MutBor (List T.Denot)) where
  -- the slice ends with the element as it is left
  abbrev pub LendsAt : ℕ → Option (MutBor T.Denot) → Fml
  LendsAt i r = LendsIf (Array T 0) T items r (slice_set items.now i) items.now

  -- and with both elements as they are left
  abbrev pub LendsBoth : ℕ → ℕ → MutBor T.Denot × MutBor T.Denot → Fml
  LendsBoth i j r = LendsTwo (Array T 0) T T items r (λ x y. slice_set (slice_set items.now i x) j y)
