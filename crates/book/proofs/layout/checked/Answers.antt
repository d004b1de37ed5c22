use Rattle.std.proofs.Common.{◌≡◌, ℕ, ◌+◌, ◌-◌, ◌*◌, ◌<◌, ◌≤◌, List, length, Some, None, Ok, Option, sym, ap, ◌∙◌, arith}
use Rattle.faults.specs.declared.types.BookFault.{BookFault}
use Rattle.faults.specs.declared.types.BookFault.TheVariants.{Early, Late}
use Rattle.book.specs.Layout.{charts, pairs_fault, unless, charts_of}
use Rattle.book.proofs.Pairs.{least_next, pair_early, pair_late, pair_next, no_pair, by_pairs}
use Rattle.book.proofs.layout.checked.Goals as goal

-- what the pairs from k on answer is the book's answer
by-rest : (bs : List ℕ) (n k : ℕ) → n ≡ charts bs → 2 ≤ length bs → length bs ≤ 65536 → 0 < n → n ≤ 64 → 2 + 8 * n ≤ length bs
    → pairs_fault bs (n - k) k ≡ pairs_fault bs n 0 → (r : Option BookFault) → pairs_fault bs (n - k) k ≡ r → unless r (Ok (charts bs)) ≡ charts_of bs
by-rest bs n k e a b f g h inv r q =
    ap (λ (o : Option BookFault). unless o (Ok (charts bs)))
    (sym q ∙ inv ∙ ap (λ (m : ℕ). pairs_fault bs m 0) e ∙ sym (by_pairs bs a b (omega (arith, e)) (omega (arith, e)) (omega (arith, e))))

pub returns-then-place-least : goal.returns-then-place-least
returns-then-place-least c =
    let bs = c.args.book.now in
    let n = c.u16_at-count.result in
    let k = c.loop-k.k in
    let low = c.loop-k.invariant.0 in
    by-rest bs n k c.u16_at-count.ensures (omega arith) (omega arith) (omega arith) (omega arith) (omega arith) c.loop-k.invariant.1
    (Some (Early k)) (pair_early bs (n - k) k (omega arith) (omega arith))

pub returns-then-least-book : goal.returns-then-least-book
returns-then-least-book c =
    let bs = c.args.book.now in
    let n = c.u16_at-count.result in
    let k = c.loop-k.k in
    let low = c.loop-k.invariant.0 in
    by-rest bs n k c.u16_at-count.ensures (omega arith) (omega arith) (omega arith) (omega arith) (omega arith) c.loop-k.invariant.1
    (Some (Late k)) (pair_late bs (n - k) k (omega arith) (omega arith) (omega arith))

pub loop-k-preserved : goal.loop-k-preserved
loop-k-preserved c =
    let bs = c.args.book.now in
    let n = c.u16_at-count.result in
    let k = c.loop-k.k in
    let low = c.loop-k.invariant.0 in
    let o = c.pair-place.ensures.start in
    let s = c.pair-place.ensures.end in
    let e : n - k - 1 ≡ n - (k + 1) = omega arith in
    let next = least_next bs k in (
      omega arith,
      ap (λ (m : ℕ). pairs_fault bs m (k + 1)) (sym e) ∙ sym (pair_next bs (n - k) k (omega arith) (omega arith) (omega arith)) ∙ c.loop-k.invariant.1,
    )

pub returns : goal.returns
returns c =
    let bs = c.args.book.now in
    let n = c.u16_at-count.result in
    let k = c.loop-k.k in
    ap Ok c.u16_at-count.ensures
    ∙ by-rest bs n k c.u16_at-count.ensures (omega arith) (omega arith) (omega arith) (omega arith) (omega arith) c.loop-k.invariant.1
    None (no_pair bs (n - k) k (omega arith))
