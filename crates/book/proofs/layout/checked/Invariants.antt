use Rattle.std.proofs.Common.{◌≡◌, ◌-◌}
use Rattle.book.specs.Layout.{least, pairs_fault}
use Rattle.book.proofs.layout.checked.Given as goal

abbrev pub invariant-loop-k : goal.invariant-loop-k
invariant-loop-k l =
    (l.least ≡ least l.book l.k)
    × (pairs_fault l.book (l.count - l.k) l.k ≡ pairs_fault l.book l.count 0)
