use Rattle.std.proofs.Common.{◌≡◌, ◌<◌, length, set, sym, ap, ◌∙◌, subst, arith, length-set, get_or-set_other}
use Rattle.chart.specs.Charts.{WindowOf}
use Rattle.chart.specs.Lists.{All}
use Rattle.motions.specs.Windows.{into_by, onward_by, Direct}
use Rattle.motions.proofs.WindowTurns.{noting_none, noting_more, noting_all, all_item, wait_into_is, wait_onward}
use Rattle.motions.proofs.windows.direct.Goals as goal

pub loop-window-init : goal.loop-window-init
loop-window-init g c = noting_none g.B.Bound.meaning c.args.timers.count c.windows-window-items.result.now (set c.clear.new.table 0 c.zero.result)

pub note-requires : goal.note-requires
note-requires g c =
    let n = c.args.timers.count in
    let ws = c.windows-window-items.result.now in
    let l = length-set c.clear.new.table 0 c.zero.result in
    let all = subst (All (WindowOf n)) (sym c.windows-window-items.ensures) c.requires.timers in
    (all_item (WindowOf n) ws c.loop-window.window-index c.window-item.result all c.loop-window-test.true c.window-item.is, omega arith)

pub loop-window-preserved : goal.loop-window-preserved
loop-window-preserved g c =
    noting_more g.B.Bound.meaning c.args.timers.count c.windows-window-items.result.now (set c.clear.new.table 0 c.zero.result) c.loop-window.window-index c.loop-window.work c.loop-window.invariant
    c.window-item.result c.note.new.work c.loop-window-test.true c.window-item.is c.note.ensures

pub returns : goal.returns
returns g c =
    let m = g.B.Bound.meaning in
    let n = c.args.timers.count in
    let ws = c.windows-window-items.result.now in
    let t = c.clear.new.table in
    let z = c.zero.result in
    let start = set t 0 z in
    let all = noting_all m n ws start c.loop-window.window-index c.loop-window.work c.loop-window.invariant c.loop-window-test.false in
    record {
      bounds = λ zero e.
          let same : z ≡ zero = cc (c.zero.ensures, e) in
          let some : 0 < length t = omega arith in
          subst (λ us. Direct m zero n us c.loop-window.work) c.windows-window-items.ensures
          (subst (λ y. Direct m y n ws c.loop-window.work) same
          (record {
            into = λ i h. all.0 i h ∙ ap (λ a. into_by m i a ws) (wait_into_is m n t z some c.clear.ensures.cleared i h);
            onward = λ i h. all.1 i h ∙ ap (λ a. onward_by m i a ws) (wait_onward m n t z some c.clear.ensures.cleared i h);
          }));
      beyond = λ i h. c.loop-window.invariant.beyond i h ∙ get_or-set_other t 0 i z m.opened (λ e. omega (arith, e)) ∙ c.clear.ensures.beyond i h;
    }
