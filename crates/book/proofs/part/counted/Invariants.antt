use Rattle.std.proofs.Common.{◌≡◌}
use Rattle.book.specs.Parts.{count_of}
use Rattle.book.specs.Reads.{coming}
use Rattle.book.proofs.Counting.{last_of}
use Rattle.book.proofs.part.counted.Given as goal

abbrev pub invariant-loop-motion : goal.invariant-loop-motion
invariant-loop-motion l =
    (goal.iterator-loop-motion).can_next l.motion-iterator
    × (goal.iterator-loop-motion).is_finite l.motion-iterator
    × (last_of l.count (coming l.motion-iterator) ≡ count_of l.book l.number)
