use Rattle.std.proofs.Common.{sym}
use Rattle.std.proofs.lemmas.Result.{err_from_is_err_and}
use Rattle.toml.specs.View.{view}
use Rattle.gfx_script_text.specs.Clients.{offer_in}
use Rattle.gfx_script_text.proofs.Runs.{each-next, each-stop, each-end}
use Rattle.gfx_script_text.proofs.client.read_offers.Goals as goal

pub returns-in_err-offer : goal.returns-in_err-offer
returns-in_err-offer c =
    let p = err_from_is_err_and c.from_residual.result c.from_residual.ensures.1 in
    rw (p.1, p.2)
    (each-stop offer_in view c.args.values.now c.values.value-index c.value-item.result c.values.offers c.in_err-offer.field-0.0 _ c.values-test.true c.value-item.is
    (sym c.in_err-offer.ensures) c.values.invariant)

pub values-preserved : goal.values-preserved
values-preserved c =
    rw c.in_ok-push.ensures.ok
    (each-next offer_in view c.args.values.now c.values.value-index c.value-item.result c.values.offers c.in_ok-offer.offer _ c.values-test.true c.value-item.is
    (sym c.in_ok-offer.ensures) c.values.invariant)

pub returns : goal.returns
returns c = each-end offer_in view c.args.values.now c.values.value-index c.values.offers _ c.values-test.false c.values.invariant
