-- How a book is laid out, which fault it has where it is not so, and the part that a chart's pair names. Assumes nothing.
use Rattle.std.specs.Prelude.{ℕ, zero, suc, ◌+◌, ◌-◌, ◌*◌, ◌<◌, ◌≤◌, cond, ◌||◌, List, length, take, drop, Some, None, Ok, Err, Option, Result, ◌==◌, nat_lt}
use Rattle.std.specs.Result.{result_map_both}
use Rattle.chart.specs.Bytes.{two, four}
use Rattle.faults.specs.declared.types.BookFault.{BookFault}
use Rattle.faults.specs.declared.types.BookFault.TheVariants.{Length, Count, Cut, Early, Late, Missing}
use Rattle.std.specs.declared.ops.Range.{Range}

-- how many charts a book names; then come their pairs, and pair k, counted from 0, has an offset and a length
abbrev pub charts : List ℕ → ℕ
charts book = two book 0

abbrev pub offset : List ℕ → ℕ → ℕ
offset book k = four book (2 + 8 * k)

abbrev pub size : List ℕ → ℕ → ℕ
size book k = four book (6 + 8 * k)

-- the least offset that pair k may have: the end of the pairs, or of the part before
abbrev pub least : List ℕ → ℕ → ℕ
least book zero = 2 + 8 * charts book
least book (suc k) = offset book k + size book k

-- a book that is laid out as it should be
pub record Sound (book : List ℕ) : Type 0 where
  pub long : 2 ≤ length book
  pub short : length book ≤ 65536
  pub some : 1 ≤ charts book
  pub few : charts book ≤ 64
  pub pairs : 2 + 8 * charts book ≤ length book
  pub parts : (k : ℕ) → k < charts book → (least book k ≤ offset book k) × (offset book k + size book k ≤ length book)

-- the fault of pair k
abbrev pub pair_fault : List ℕ → ℕ → Option BookFault
pair_fault book k =
    cond (nat_lt (offset book k) (least book k)) (Some (Early k))
    (cond (nat_lt (length book) (offset book k + size book k)) (Some (Late k))
    None)

abbrev pub or_else : Option BookFault → Option BookFault → Option BookFault
or_else (Some e) rest = Some e
or_else None rest = rest

-- the first fault of the pairs from pair k on, `left` of them
unfoldable pub pairs_fault : List ℕ → (left k : ℕ) → Option BookFault
pairs_fault book zero k = None
pairs_fault book (suc left) k = or_else (pair_fault book k) (pairs_fault book left (k + 1))

-- the first fault of a book's layout
abbrev pub layout_fault : List ℕ → Option BookFault
layout_fault book =
    cond (nat_lt (length book) 2 || nat_lt 65536 (length book)) (Some Length)
    (cond (charts book == 0 || nat_lt 64 (charts book)) (Some Count)
    (cond (nat_lt (length book) (2 + 8 * charts book)) (Some Cut)
    (pairs_fault book (charts book) 0)))

abbrev pub unless : {A : Type 0} → Option BookFault → Result A BookFault → Result A BookFault
unless (Some e) answer = Err e
unless None answer = answer

-- how many charts a book has, where its layout has no fault
abbrev pub charts_of : List ℕ → Result ℕ BookFault
charts_of book = unless (layout_fault book) (Ok (charts book))

-- the offset and the length of the part of chart k, counted from 1
abbrev pub place_of : List ℕ → ℕ → Result (ℕ × ℕ) BookFault
place_of book k =
    unless (layout_fault book)
    (cond (k == 0 || nat_lt (charts book) k) (Err Missing)
    (Ok (offset book (k - 1), size book (k - 1))))

-- a place in a book by where it begins and how long it is
abbrev pub extent_pair : Range ℕ → ℕ × ℕ
extent_pair r = (r.start, r.end - r.start)

-- the bytes that the pair of chart k names
abbrev pub handed : List ℕ → ℕ → Result (List ℕ) BookFault
handed book k = result_map_both (λ p. take p.1 (drop p.0 book)) (λ e. e) (place_of book k)

-- the same, with the byte at which it begins
abbrev pub found : List ℕ → ℕ → Result (ℕ × List ℕ) BookFault
found book k = result_map_both (λ p. (p.0, take p.1 (drop p.0 book))) (λ e. e) (place_of book k)
