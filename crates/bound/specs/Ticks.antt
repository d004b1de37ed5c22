-- What a Tick means: whole ticks. Assumes nothing.
use Rattle.std.specs.Prelude.{ℕ, ◌+◌, ◌^◌, Bool, true, false, ℤ, pos, ◌+ℤ◌, ◌-ℤ◌, neg_ℤ, ◌≤ℤ◌, Option, int_le, unsigned_abs}
use Rattle.bound.specs.Differences.{Differences}
use Rattle.bound.specs.Limited.{up_to}
use Rattle.bound.specs.Meaning.{Meaning}
use Rattle.bound.specs.declared.tick.Tick.{Tick}
use Rattle.bound.specs.declared.tick.Tick.TheVariants.{Open, AtMost}

abbrev pub ticks : Differences
ticks = record { Diff = ℤ; le = ◌≤ℤ◌; add = ◌+ℤ◌; neg = neg_ℤ; whole = λ c. c }

abbrev pub tick_allows : Tick → ℤ → Type 0
tick_allows Open d = Unit {0}
tick_allows (AtMost c) d = d ≤ℤ c

-- "< c" is "≤ c − 1"
abbrev pub tick_of : Bool → ℤ → Tick
tick_of true c = AtMost (c -ℤ pos 1)
tick_of false c = AtMost c

abbrev pub tick_written : Bool → ℤ → Option Tick
tick_written strict c = up_to (2 ^ 34) (unsigned_abs c) (tick_of strict c)

abbrev pub tick_size : Tick → ℕ
tick_size Open = 0
tick_size (AtMost c) = unsigned_abs c

-- the sum, whatever the sizes
abbrev pub tick_plus : Tick → Tick → Tick
tick_plus Open b = Open
tick_plus (AtMost a) Open = Open
tick_plus (AtMost a) (AtMost b) = AtMost (a +ℤ b)

abbrev pub tick_sum : Tick → Tick → Option Tick
tick_sum a b = up_to (2 ^ 50) (tick_size a + tick_size b) (tick_plus a b)

abbrev pub tick_tighter : Tick → Tick → Bool
tick_tighter Open Open = true
tick_tighter Open (AtMost b) = false
tick_tighter (AtMost a) Open = true
tick_tighter (AtMost a) (AtMost b) = int_le a b

abbrev pub tick_meaning : Meaning Tick
tick_meaning =
    record {
      differences = ticks;
      allows = tick_allows;
      written = tick_written;
      opened = Open;
      sum = tick_sum;
      tighter = tick_tighter;
      size_of = tick_size;
      range = 2 ^ 34;
      reach = 2 ^ 50;
    }
