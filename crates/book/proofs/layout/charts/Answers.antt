use Rattle.std.proofs.Common.{◌≡◌, ℕ, true, is_ok, Some, None, Ok, Option, sym, refl, ap, ◌∙◌, arith}
use Rattle.faults.specs.declared.types.BookFault.{BookFault}
use Rattle.book.specs.Layout.{charts, layout_fault, unless}
use Rattle.book.proofs.Pairs.{sound_from_none, none_from_sound}
use Rattle.book.proofs.layout.charts.Goals as goal

-- the answer is Ok exactly where there is no fault
none-from-ok : (o : Option BookFault) (n : ℕ) → is_ok (unless o (Ok n)) ≡ true → o ≡ None
none-from-ok None n e = refl
none-from-ok (Some f) n e = absurd (grind arith)

pub returns : goal.returns
returns c =
    let bs = c.args.book.now in
    let v = c.checked.ensures in
    record {
      value = v;
      sound = (
        λ e. sound_from_none bs (none-from-ok (layout_fault bs) (charts bs) (ap is_ok (sym v) ∙ e)),
        λ s. ap is_ok (v ∙ ap (λ (o : Option BookFault). unless o (Ok (charts bs))) (none_from_sound bs s)),
      );
    }
