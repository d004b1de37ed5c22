-- What an Edge means: fractions. Assumes nothing.
use Rattle.std.specs.Prelude.{ℕ, ◌+◌, ◌*◌, ◌^◌, ◌≤◌, Bool, true, false, cond, ℤ, pos, ◌+ℤ◌, ◌*ℤ◌, neg_ℤ, ◌≤ℤ◌, Option, int_le, int_lt, unsigned_abs}
use Rattle.std.proofs.Common.{lit≤, mul-pos}
use Rattle.bound.specs.Differences.{Differences, Less}
use Rattle.bound.specs.Limited.{up_to}
use Rattle.bound.specs.Meaning.{Meaning}
use Rattle.bound.specs.declared.edge.Edge.{Edge}
use Rattle.bound.specs.declared.edge.Edge.TheVariants.{Open, Number}
use Rattle.bound.specs.declared.edge.Mark.{Mark}
use Rattle.bound.specs.declared.edge.Mark.TheVariants.{AtMost, Under}

-- top over bottom, not reduced
pub record Fraction : Type 0 where
  pub top : ℤ
  pub bottom : ℕ
  pub positive : 1 ≤ bottom

-- p over q is at most r over s as p × s is at most r × q
pub record fraction_le (x y : Fraction) : Type 0 where
  pub crosswise : (x.top *ℤ pos y.bottom) ≤ℤ (y.top *ℤ pos x.bottom)

abbrev pub fraction_add : Fraction → Fraction → Fraction
fraction_add x y =
    record {
      top = x.top *ℤ pos y.bottom +ℤ y.top *ℤ pos x.bottom;
      bottom = x.bottom * y.bottom;
      positive = mul-pos x.positive y.positive;
    }

abbrev pub fraction_neg : Fraction → Fraction
fraction_neg x = record { top = neg_ℤ x.top; bottom = x.bottom; positive = x.positive }

abbrev pub fraction_whole : ℤ → Fraction
fraction_whole c = record { top = c; bottom = 1; positive = lit≤ tt }

abbrev pub fractions : Differences
fractions = record { Diff = Fraction; le = fraction_le; add = fraction_add; neg = fraction_neg; whole = fraction_whole }

abbrev pub edge_allows : Edge → Fraction → Type 0
edge_allows Open d = Unit {0}
edge_allows (Number AtMost c) d = fraction_le d (fraction_whole c)
edge_allows (Number Under c) d = Less fractions d (fraction_whole c)

abbrev pub mark_of : Bool → Mark
mark_of true = Under
mark_of false = AtMost

abbrev pub edge_written : Bool → ℤ → Option Edge
edge_written strict c = up_to (2 ^ 34) (unsigned_abs c) (Number (mark_of strict) c)

abbrev pub edge_size : Edge → ℕ
edge_size Open = 0
edge_size (Number m c) = unsigned_abs c

-- under where one of the two is
abbrev pub mark_plus : Mark → Mark → Mark
mark_plus AtMost n = n
mark_plus Under n = Under

-- the sum, whatever the sizes
abbrev pub edge_plus : Edge → Edge → Edge
edge_plus Open b = Open
edge_plus (Number m a) Open = Open
edge_plus (Number m a) (Number n b) = Number (mark_plus m n) (a +ℤ b)

abbrev pub edge_sum : Edge → Edge → Option Edge
edge_sum a b = up_to (2 ^ 50) (edge_size a + edge_size b) (edge_plus a b)

-- between equal numbers: only "at most" is not tighter than "under"
abbrev pub mark_tighter : Mark → Mark → Bool
mark_tighter AtMost AtMost = true
mark_tighter AtMost Under = false
mark_tighter Under n = true

-- where the marks permit equal numbers, at most the other number, and else under it
abbrev pub edge_tighter : Edge → Edge → Bool
edge_tighter Open Open = true
edge_tighter Open (Number n b) = false
edge_tighter (Number m a) Open = true
edge_tighter (Number m a) (Number n b) = cond (mark_tighter m n) (int_le a b) (int_lt a b)

abbrev pub edge_meaning : Meaning Edge
edge_meaning =
    record {
      differences = fractions;
      allows = edge_allows;
      written = edge_written;
      opened = Open;
      sum = edge_sum;
      tighter = edge_tighter;
      size_of = edge_size;
      range = 2 ^ 34;
      reach = 2 ^ 50;
    }
