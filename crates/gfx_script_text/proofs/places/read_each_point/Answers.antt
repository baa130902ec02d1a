use Rattle.std.proofs.Common.{sym}
use Rattle.std.proofs.lemmas.Result.{err_from_is_err_and}
use Rattle.toml.specs.View.{view}
use Rattle.gfx_script_text.specs.Places.{point_in}
use Rattle.gfx_script_text.proofs.Runs.{each-next, each-stop, each-end}
use Rattle.gfx_script_text.proofs.places.read_each_point.Goals as goal

pub returns-in_err-point : goal.returns-in_err-point
returns-in_err-point c =
    let p = err_from_is_err_and c.from_residual.result c.from_residual.ensures.1 in
    rw (p.1, p.2)
    (each-stop point_in view c.args.values.now c.values.value-index c.value-item.result c.values.points c.in_err-point.field-0.0 _ c.values-test.true c.value-item.is
    (sym c.in_err-point.ensures) c.values.invariant)

pub values-preserved : goal.values-preserved
values-preserved c =
    rw c.in_ok-push.ensures.ok
    (each-next point_in view c.args.values.now c.values.value-index c.value-item.result c.values.points c.in_ok-point.point _ c.values-test.true c.value-item.is
    (sym c.in_ok-point.ensures) c.values.invariant)

pub returns : goal.returns
returns c = each-end point_in view c.args.values.now c.values.value-index c.values.points _ c.values-test.false c.values.invariant
