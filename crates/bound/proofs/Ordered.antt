-- The order of ticks and of edges is the order of tightness: a bound is tighter than those that do not come before it. Assumes nothing.
use Rattle.std.proofs.Common.{◌≡◌, ℤ, int_le, refl, arith}
use Rattle.std.proofs.lemmas.Int.{ints}
use Rattle.std.specs.Ordering.{int_cmp, is_le}
use Rattle.bound.specs.Ticks.{tick_tighter}
use Rattle.bound.specs.Edges.{edge_tighter}
use Rattle.bound.specs.Orders.{tick_cmp, edge_cmp}
use Rattle.bound.specs.declared.tick.Tick.{Tick}
use Rattle.bound.specs.declared.tick.Tick.TheVariants as tick
use Rattle.bound.specs.declared.edge.Edge.{Edge}
use Rattle.bound.specs.declared.edge.Edge.TheVariants.{Open, Number}
use Rattle.bound.specs.declared.edge.Mark.TheVariants.{AtMost, Under}

up : (a b : ℤ) → int_le a b ≡ is_le (int_cmp a b)
up a b = grind (arith, ints)

pub ticks_in_order : (a b : Tick) → tick_tighter a b ≡ is_le (tick_cmp a b)
ticks_in_order tick.Open tick.Open = refl
ticks_in_order tick.Open (tick.AtMost b) = refl
ticks_in_order (tick.AtMost a) tick.Open = refl
ticks_in_order (tick.AtMost a) (tick.AtMost b) = up a b

pub edges_in_order : (a b : Edge) → edge_tighter a b ≡ is_le (edge_cmp a b)
edges_in_order Open Open = refl
edges_in_order Open (Number n b) = refl
edges_in_order (Number m a) Open = refl
edges_in_order (Number Under a) (Number Under b) = grind (arith, ints)
edges_in_order (Number Under a) (Number AtMost b) = grind (arith, ints)
edges_in_order (Number AtMost a) (Number Under b) = grind (arith, ints)
edges_in_order (Number AtMost a) (Number AtMost b) = grind (arith, ints)
