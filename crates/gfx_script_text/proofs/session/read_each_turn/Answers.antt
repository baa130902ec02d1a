use Rattle.std.proofs.Common.{sym}
use Rattle.std.proofs.lemmas.Result.{err_from_is_err_and}
use Rattle.toml.specs.View.{view}
use Rattle.gfx_script_text.specs.Sessions.{turn_of}
use Rattle.gfx_script_text.proofs.Runs.{each-next, each-stop, each-end}
use Rattle.gfx_script_text.proofs.session.read_each_turn.Goals as goal

pub returns-in_err-turn : goal.returns-in_err-turn
returns-in_err-turn c =
    let p = err_from_is_err_and c.from_residual.result c.from_residual.ensures.1 in
    rw (p.1, p.2)
    (each-stop turn_of view c.args.values.now c.values.value-index c.value-item.result c.values.turns.items c.in_err-turn.field-0.0 _ c.values-test.true c.value-item.is
    (sym c.in_err-turn.ensures) c.values.invariant)

pub values-preserved : goal.values-preserved
values-preserved c =
    rw c.in_ok-push.ensures.items
    (each-next turn_of view c.args.values.now c.values.value-index c.value-item.result c.values.turns.items c.in_ok-turn.turn _ c.values-test.true c.value-item.is
    (sym c.in_ok-turn.ensures) c.values.invariant)

pub returns : goal.returns
returns c = each-end turn_of view c.args.values.now c.values.value-index c.values.turns.items _ c.values-test.false c.values.invariant
