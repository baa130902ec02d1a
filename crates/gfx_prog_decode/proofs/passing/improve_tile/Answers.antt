use Rattle.std.proofs.lemmas.Result.{err_from_is_err_and}
use Rattle.gfx_prog_decode.proofs.Tiles.{cb_spoiled, cr_done, may_not, y_spoiled}
use Rattle.gfx_prog_decode.proofs.passing.improve_tile.Goals as goal

pub returns-in_err-may_upgrade : goal.returns-in_err-may_upgrade
returns-in_err-may_upgrade c =
    let p = err_from_is_err_and c.from_residual.result c.from_residual.ensures.1 in
    rw (p.1, p.2) (may_not c.args.shape.now c.args.pass.now c.in_err-may_upgrade.field-0.0 c.args.before.now c.in_err-may_upgrade.ensures)

pub returns-in_err-upgrade_from : goal.returns-in_err-upgrade_from
returns-in_err-upgrade_from c =
    let p = err_from_is_err_and c.from_residual-in_err-upgrade_from.result c.from_residual-in_err-upgrade_from.ensures.1 in
    let y = rw (c.as_slice-y_srl.ensures, c.as_slice-y_raw.ensures) at c.in_err-upgrade_from.ensures.part in
    rw (p.1, p.2) (y_spoiled c.args.shape.now c.args.pass.now c.args.before.now c.in_ok-may_upgrade.ensures c.args.tile.now c.upgrade_from.new.self c.in_err-upgrade_from.field-0.0 y)

pub returns-in_err-upgrade_from-2 : goal.returns-in_err-upgrade_from-2
returns-in_err-upgrade_from-2 c =
    let p = err_from_is_err_and c.from_residual-in_err-upgrade_from-2.result c.from_residual-in_err-upgrade_from-2.ensures.1 in
    let y = rw (c.as_slice-y_srl.ensures, c.as_slice-y_raw.ensures) at c.in_ok-upgrade_from.ensures.part in
    let cb = rw (c.as_slice-cb_srl.ensures, c.as_slice-cb_raw.ensures) at c.in_err-upgrade_from-2.ensures.part in
    rw (p.1, p.2) (cb_spoiled c.args.shape.now c.args.pass.now c.args.before.now c.in_ok-may_upgrade.ensures c.args.tile.now c.upgrade_from.new.self c.upgrade_from-2.new.self
    c.in_err-upgrade_from-2.field-0.0 y cb)

pub returns : goal.returns
returns c =
    let y = rw (c.as_slice-y_srl.ensures, c.as_slice-y_raw.ensures) at c.in_ok-upgrade_from.ensures.part in
    let cb = rw (c.as_slice-cb_srl.ensures, c.as_slice-cb_raw.ensures) at c.in_ok-upgrade_from-2.ensures.part in
    let cr = rw (c.as_slice-cr_srl.ensures, c.as_slice-cr_raw.ensures) at c.upgrade_from-3.ensures.part in
    cr_done c.args.shape.now c.args.pass.now c.args.before.now c.in_ok-may_upgrade.ensures c.upgrade_from-3.result c.args.tile.now c.upgrade_from.new.self c.upgrade_from-2.new.self
    c.upgrade_from-3.new.self y cb cr c.upgrade_from-3.ensures.ok
