-- The kinds of bound: the byte that stands for each, and its name. Assumes nothing.
use Rattle.std.specs.Prelude.{ℕ, cond, List, Some, None, Option, ◌==◌, codes}
use Rattle.book.specs.declared.head.Kind.{Kind}
use Rattle.book.specs.declared.head.Kind.TheVariants.{Tick, Edge}

-- kind 1 is Tick, kind 2 is Edge
abbrev pub kind_of : ℕ → Option Kind
kind_of byte = cond (byte == 1) (Some Tick) (cond (byte == 2) (Some Edge) None)

abbrev pub kind_byte : Kind → ℕ
kind_byte Tick = 1
kind_byte Edge = 2

abbrev pub kind_name : Kind → List ℕ
kind_name Tick = codes "Tick"
kind_name Edge = codes "Edge"
