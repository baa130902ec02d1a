use Rattle.std.proofs.Common.{sym}
use Rattle.std.proofs.lemmas.Result.{err_from_is_err_and}
use Rattle.toml.specs.View.{view}
use Rattle.gfx_script_text.specs.Places.{rect_in}
use Rattle.gfx_script_text.proofs.Runs.{each-next, each-stop, each-end}
use Rattle.gfx_script_text.proofs.places.read_rects.Goals as goal

pub returns-in_err-rect : goal.returns-in_err-rect
returns-in_err-rect c =
    let p = err_from_is_err_and c.from_residual.result c.from_residual.ensures.1 in
    rw (p.1, p.2)
    (each-stop rect_in view c.args.values.now c.values.value-index c.value-item.result c.values.rects c.in_err-rect.field-0.0 _ c.values-test.true c.value-item.is
    (sym c.in_err-rect.ensures) c.values.invariant)

pub values-preserved : goal.values-preserved
values-preserved c =
    rw c.in_ok-push.ensures.ok
    (each-next rect_in view c.args.values.now c.values.value-index c.value-item.result c.values.rects c.in_ok-rect.rect _ c.values-test.true c.value-item.is
    (sym c.in_ok-rect.ensures) c.values.invariant)

pub returns : goal.returns
returns c = each-end rect_in view c.args.values.now c.values.value-index c.values.rects _ c.values-test.false c.values.invariant
