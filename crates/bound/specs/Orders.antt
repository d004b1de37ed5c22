-- The orders of ticks and of edges, from the tightest, with the open one last, and that they are total. Assumes nothing.
use Rattle.std.proofs.Common.{◌≡◌, ℕ, ℤ, pos, refl, subst}
use Rattle.std.specs.Ordering.{nat_cmp, int_cmp, ordering_then, on, then_cmp}
use Rattle.std.specs.Cmp.{IsTotalOrder, nat_cmp_total, int_cmp_total, on_total, then_total}
use Rattle.std.specs.declared.cmp.Ordering.{Ordering}
use Rattle.std.specs.declared.cmp.Ordering.TheVariants.{Less, Equal, Greater}
use Rattle.bound.specs.declared.tick.Tick.{Tick}
use Rattle.bound.specs.declared.tick.Tick.TheVariants as tick
use Rattle.bound.specs.declared.edge.Edge.{Edge}
use Rattle.bound.specs.declared.edge.Edge.TheVariants.{Open, Number}
use Rattle.bound.specs.declared.edge.Mark.{Mark}
use Rattle.bound.specs.declared.edge.Mark.TheVariants.{AtMost, Under}

abbrev pub tick_cmp : Tick → Tick → Ordering
tick_cmp tick.Open tick.Open = Equal
tick_cmp tick.Open (tick.AtMost b) = Greater
tick_cmp (tick.AtMost a) tick.Open = Less
tick_cmp (tick.AtMost a) (tick.AtMost b) = int_cmp a b

abbrev pub mark_cmp : Mark → Mark → Ordering
mark_cmp Under Under = Equal
mark_cmp Under AtMost = Less
mark_cmp AtMost Under = Greater
mark_cmp AtMost AtMost = Equal

-- by the number, then by the mark
abbrev pub edge_cmp : Edge → Edge → Ordering
edge_cmp Open Open = Equal
edge_cmp Open (Number n b) = Greater
edge_cmp (Number m a) Open = Less
edge_cmp (Number m a) (Number n b) = ordering_then (int_cmp a b) (mark_cmp m n)

-- ── Both are total: each is its parts' orders, one after the other ──

-- whether it is open, its number and its mark, as numbers
abbrev tick_open : Tick → ℕ
tick_open tick.Open = 1
tick_open (tick.AtMost c) = 0

abbrev tick_number : Tick → ℤ
tick_number tick.Open = pos 0
tick_number (tick.AtMost c) = c

abbrev edge_open : Edge → ℕ
edge_open Open = 1
edge_open (Number m c) = 0

abbrev edge_number : Edge → ℤ
edge_number Open = pos 0
edge_number (Number m c) = c

abbrev edge_mark : Edge → ℕ
edge_mark Open = 0
edge_mark (Number Under c) = 0
edge_mark (Number AtMost c) = 1

abbrev tick_parts : Tick → Tick → Ordering
tick_parts = then_cmp (on tick_open nat_cmp) (on tick_number int_cmp)

abbrev edge_parts : Edge → Edge → Ordering
edge_parts = then_cmp (on edge_open nat_cmp) (then_cmp (on edge_number int_cmp) (on edge_mark nat_cmp))

tick_by_parts : (a b : Tick) → tick_parts a b ≡ tick_cmp a b
tick_by_parts tick.Open tick.Open = refl
tick_by_parts tick.Open (tick.AtMost b) = refl
tick_by_parts (tick.AtMost a) tick.Open = refl
tick_by_parts (tick.AtMost a) (tick.AtMost b) = refl

edge_by_parts : (a b : Edge) → edge_parts a b ≡ edge_cmp a b
edge_by_parts Open Open = refl
edge_by_parts Open (Number n b) = refl
edge_by_parts (Number m a) Open = refl
edge_by_parts (Number Under a) (Number Under b) = refl
edge_by_parts (Number Under a) (Number AtMost b) = refl
edge_by_parts (Number AtMost a) (Number Under b) = refl
edge_by_parts (Number AtMost a) (Number AtMost b) = refl

pub tick_total : IsTotalOrder tick_cmp
tick_total = subst IsTotalOrder (λ i a b. tick_by_parts a b i) (then_total (on_total tick_open nat_cmp_total) (on_total tick_number int_cmp_total))

pub edge_total : IsTotalOrder edge_cmp
edge_total = subst IsTotalOrder (λ i a b. edge_by_parts a b i) (then_total (on_total edge_open nat_cmp_total) (then_total (on_total edge_number int_cmp_total) (on_total edge_mark nat_cmp_total)))
