use Rattle.std.proofs.Common.{◌<◌, refl, ◌∙◌, arith}
use Rattle.replay.proofs.Parts.{set_parts, set_parts_first, get_front, get_back}
use Rattle.replay.proofs.lending.both.Goals as goal

pub returns-then-i-j : goal.returns-then-i-j
returns-then-i-j g c =
    let parts = c.split_at_mut-front.ensures in (
      ((refl, refl), set_parts _ _ _ _ _ parts.value parts.front_len c.if-i-j.true),
      record {
        writes_back = tt;
        first = c.index-front-i.is ∙ get_front _ _ _ _ _ parts.value parts.front_len c.if-i-j.true _;
        second = c.index-back-0.is ∙ get_back _ _ _ _ _ parts.value parts.front_len c.if-i-j.true _;
      },
    )

pub returns-else-i-j : goal.returns-else-i-j
returns-else-i-j g c =
    let parts = c.split_at_mut-front-else-i-j.ensures in
    let below : c.args.j < c.args.i = omega (arith, c.if-i-j.false, c.requires.1.1) in (
      ((refl, refl), λ x y. set_parts_first _ _ _ _ _ parts.value parts.front_len below y x),
      record {
        writes_back = tt;
        first = c.index-back-0-else-i-j.is ∙ get_back _ _ _ _ _ parts.value parts.front_len below _;
        second = c.index-front-j.is ∙ get_front _ _ _ _ _ parts.value parts.front_len below _;
      },
    )
