use Rattle.std.proofs.Common.{sym, map, rules}
use Rattle.std.proofs.lemmas.Result.{err_from_is_err_and}
use Rattle.toml.specs.View.{view}
use Rattle.gfx_script_text.proofs.Copies.{copy_found, copy_refused}
use Rattle.gfx_script_text.proofs.copy.read_copy.Goals as goal

pub returns-in_err-points : goal.returns-in_err-points
returns-in_err-points c =
    let p = err_from_is_err_and c.from_residual-in_err-points.result c.from_residual-in_err-points.ensures.1 in
    rw (p.1, p.2)
    (copy_refused _ c.in_ok-check_keys.field-0 c.in_ok-from.from c.in_ok-to.to (map view c.in_ok-corners.corners.now)
    (sym c.in_ok-check_keys.ensures) (sym c.in_ok-from.ensures) (sym c.in_ok-to.ensures) c.in_ok-corners.ensures
    c.in_err-points.field-0.0 c.in_err-points.ensures)

pub returns : goal.returns
returns c =
    rw (copy_found _ c.in_ok-check_keys.field-0 c.in_ok-from.from c.in_ok-to.to (map view c.in_ok-corners.corners.now)
    (sym c.in_ok-check_keys.ensures) (sym c.in_ok-from.ensures) (sym c.in_ok-to.ensures) c.in_ok-corners.ensures
    (map view c.in_ok-points.points.now) c.in_ok-points.ensures)
    (search rules)
