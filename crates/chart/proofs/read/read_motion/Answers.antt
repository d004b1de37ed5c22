use Rattle.std.proofs.Common.{sym, ◌∙◌}
use Rattle.chart.proofs.Layouts.{laid_from_read, read_from_laid}
use Rattle.chart.proofs.read.read_motion.Goals as goal

pub returns : goal.returns
returns c =
    let n = c.args.timers in
    let bs = c.args.bytes.now in
    let v = c.motion_of.ensures in
    record {
      value = v;
      laid = λ m used. (λ e. laid_from_read n bs (λ i. (c.type_inv.bytes i).fits) m used (sym v ∙ e), λ l. v ∙ read_from_laid n bs m used l);
    }
