use Rattle.std.proofs.Common.{ℕ, ◌<◌, get_or, sym, ◌∙◌}
use Rattle.book.proofs.LaidParts.{counts_laid, counts_read}
use Rattle.book.proofs.part.count_motions.Goals as goal

pub returns : goal.returns
returns c =
    let bytes = c.args.book.now in
    let k = c.args.number in
    let v = c.counted.ensures in
    let small : (i : ℕ) → get_or bytes i 0 < 256 = λ i. (c.type_inv.book i).fits in
    record {
      value = v;
      laid = λ count. (λ e. counts_laid bytes small k count (sym v ∙ e), λ l. v ∙ counts_read bytes small k count l);
    }
