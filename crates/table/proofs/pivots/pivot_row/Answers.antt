use Rattle.std.proofs.Common.{ℕ, ◌+◌, sym, ap, ◌∙◌, subst, arith}
use Rattle.std.proofs.lemmas.List.{get_or_read}
use Rattle.table.specs.Cells.{at, cell, Only, relaxed}
use Rattle.table.proofs.Strides.{starts_apart}
use Rattle.table.proofs.pivots.pivot_row.Goals as goal

pub sweep-requires : goal.sweep-requires
sweep-requires g c =
    record {
      room = (omega arith, omega arith);
      apart = starts_apart c.args.p c.args.u c.args.side c.row_start-other.result c.row_start-base.result c.row_start-other.ensures.value c.row_start-base.ensures.value;
    }

pub returns : goal.returns
returns g c =
    let m = g.B.Bound.meaning in
    let work = c.args.work.now in
    let next = c.sweep.new.work in
    let side = c.args.side in
    let u = c.args.u in
    let p = c.args.p in
    let base = c.row_start-base.result in
    let other = c.row_start-other.result in
    let eb = c.row_start-base.ensures.value in
    let eo = c.row_start-other.ensures.value in
    let read = get_or_read work (base + p) c.index-work-base.result (omega arith) c.index-work-base.is m.opened ∙ ap (λ (i : ℕ). at m work (i + p)) eb in
    record {
      only = subst (λ (i : ℕ). Only m i side work next) eb c.sweep.ensures.only;
      row = λ v h.
          ap (λ (i : ℕ). at m next (i + v)) (sym eb) ∙ c.sweep.ensures.row v h
          ∙ ap (λ (i : ℕ). relaxed m (at m work (i + v)) c.index-work-base.result (at m work (other + v))) eb
          ∙ ap (λ b. relaxed m (cell m side work u v) b (at m work (other + v))) read
          ∙ ap (λ (i : ℕ). relaxed m (cell m side work u v) (cell m side work u p) (at m work (i + v))) eo;
    }
