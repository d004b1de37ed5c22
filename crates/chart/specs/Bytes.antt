-- Numbers in a list of bytes, the lowest byte first. Assumes nothing.
use Rattle.std.specs.Prelude.{ℕ, ◌+◌, ◌*◌, ◌/◌, ◌%◌, List, [], ◌∷◌, slice_index}

-- the number in two bytes, and in four, from a place on
abbrev pub two : List ℕ → ℕ → ℕ
two bytes at = slice_index bytes at + 256 * slice_index bytes (at + 1)

abbrev pub four : List ℕ → ℕ → ℕ
four bytes at = slice_index bytes at + 256 * slice_index bytes (at + 1) + 65536 * slice_index bytes (at + 2) + 16777216 * slice_index bytes (at + 3)

-- a number's four bytes
abbrev pub four_bytes : ℕ → List ℕ
four_bytes n = n % 256 ∷ n / 256 % 256 ∷ n / 65536 % 256 ∷ n / 16777216 ∷ []
