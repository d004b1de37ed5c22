use Rattle.std.proofs.Common.{◌≡◌, ℕ, ◌<◌, length, get_or, set, sym, refl, ap, ◌∙◌, subst, arith, get_or-set_other, get_or-set_same}
use native.Mathlib.Decide.{ℕ_discrete}
use Rattle.board.specs.declared.header.State.TheVariants.{Blank}
use Rattle.replay.specs.declared.slots.Slot.{Slot}
use Rattle.replay.proofs.Serving.{tables_same}
use Rattle.replay.proofs.Histories.{all_blanked}
use Rattle.replay.proofs.run.empty_all.Goals as goal

pub loop-i-init : goal.loop-i-init
loop-i-init g c = record { tables = refl; blank_below = λ j d l. absurd (omega arith) }

pub loop-i-preserved : goal.loop-i-preserved
loop-i-preserved g c =
    let slots = c.loop-i.slots in
    let i = c.loop-i.i in
    let inside : i < length slots = omega (arith, c.loop-i.auto.slots, c.loop-i-test.true) in
    let slot : Slot g.row.B.Denot = record { header = c.blank.result; table = (get_or slots i c.index-slots-i.result).table } in
    record {
      tables = tables_same g.B.Bound.meaning slots i c.index-slots-i.result slot inside refl ∙ c.loop-i.invariant.tables;
      blank_below = λ j d l. elim (ℕ_discrete j i) [
        | yes e ↦ subst (λ (x : ℕ). (get_or (set slots i slot) x d).header.state ≡ Blank) (sym e) (ap (λ (x : Slot g.row.B.Denot). x.header.state) (get_or-set_same slots i slot d inside) ∙ c.blank.ensures)
        | no ne ↦ ap (λ (x : Slot g.row.B.Denot). x.header.state) (get_or-set_other slots i j slot d ne) ∙ c.loop-i.invariant.blank_below j d (omega arith)
      ];
    }

pub returns : goal.returns
returns g c = all_blanked g.B.Bound.meaning c.args.slots.now c.loop-i.i c.loop-i.slots c.loop-i.auto.slots c.loop-i-test.false c.loop-i.invariant
