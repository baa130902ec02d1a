use Rattle.std.proofs.Common.{◌≡◌, refl, sym, ap, ◌∙◌, arith, length, drop}
use Rattle.gfx_clear_bands.specs.Writing.{black, without_front}
use Rattle.gfx_clear_bands.proofs.Shorts.{front_here, front_step, front_end, not_same, is_same}
use Rattle.gfx_estimate.proofs.columns.front_of.Goals as goal

pub returns-then-ne-clause-front : goal.returns-then-ne-clause-front
returns-then-ne-clause-front c =
    sym (front_here c.args.background _ c.args.pixels.now c.front.row black c.front-test.true refl (not_same c.ne.result _ c.ne.ensures c.if-ne.true)) ∙ c.front.invariant

pub front-preserved : goal.front-preserved
front-preserved c =
    front_step c.args.background _ c.args.pixels.now c.front.row black c.front-test.true refl (is_same c.ne.result _ c.ne.ensures c.if-ne.false) ∙ c.front.invariant

pub returns-clause-front : goal.returns-clause-front
returns-clause-front c =
    let all : length c.args.pixels.now ≡ c.front.row = omega arith in
    sym (front_end c.args.background c.args.pixels.now (length c.args.pixels.now) (omega arith))
    ∙ ap (λ z. without_front c.args.background (drop z c.args.pixels.now)) all ∙ c.front.invariant
