use Rattle.std.proofs.Common.{◌≡◌, ◌+◌, ◌*◌, ap, ◌∙◌, subst, arith}
use Rattle.gfx_base.specs.Colour.{colour_of}
use Rattle.gfx_estimate.specs.Inner.{IsFew}
use Rattle.gfx_estimate.proofs.Counted.{counted_at, residual_all, segments_all, steps_all}
use Rattle.gfx_estimate.proofs.runs.count_runs.Goals as goal

pub pixels-preserved : goal.pixels-preserved
pixels-preserved c =
    let more : 65536 * c.rows.y + c.pixels.x + 1 ≡ 65536 * c.rows.y + (c.pixels.x + 1) = omega arith in
    record {
      few = subst (λ n. IsFew n c.take.new.self) more (c.take.ensures.few (65536 * c.rows.y + c.pixels.x) c.pixels.invariant.few);
      counted = counted_at c.args.picture.now c.pixels.runs c.take.new.self c.colour.result c.pixels.x c.rows.y c.pixels-test.true c.rows-test.true
          (c.colour.ensures ∙ ap colour_of c.pixel.ensures) c.take.ensures.taken c.pixels.invariant.counted;
    }

pub returns-clause-residual : goal.returns-clause-residual
returns-clause-residual c =
    let all : c.rows.y ≡ c.args.picture.now.height = omega (arith, c.rows-test.false, c.rows.auto.y-end) in
    ap (λ z. z.residual) c.sizes.ensures.sizes ∙ residual_all c.args.picture.now c.rows.runs c.rows.y all c.rows.invariant.counted

pub returns-clause-segments : goal.returns-clause-segments
returns-clause-segments c =
    let all : c.rows.y ≡ c.args.picture.now.height = omega (arith, c.rows-test.false, c.rows.auto.y-end) in
    λ palette. ap (λ z. z.segments) c.sizes.ensures.sizes ∙ segments_all c.args.picture.now c.rows.runs c.rows.y palette all c.rows.invariant.counted

pub returns-clause-steps : goal.returns-clause-steps
returns-clause-steps c =
    let all : c.rows.y ≡ c.args.picture.now.height = omega (arith, c.rows-test.false, c.rows.auto.y-end) in
    ap (λ z. z.steps) c.sizes.ensures.sizes ∙ steps_all c.args.picture.now c.rows.runs c.rows.y all c.rows.invariant.counted

pub returns-clause-few : goal.returns-clause-few
returns-clause-few c = c.sizes.ensures.few
