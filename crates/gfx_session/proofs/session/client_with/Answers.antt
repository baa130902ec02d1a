use Rattle.std.proofs.Common.{[], ◌∙◌, subst}
use Rattle.gfx_client.specs.Standing.{StandsFrom}
use Rattle.gfx_import.specs.Started.{in_slots, own}
use Rattle.gfx_state.specs.State.{started_with}
use Rattle.gfx_session.proofs.session.client_with.Goals as goal

pub returns-in-Ok-clause-stands : goal.returns-in-Ok-clause-stands
returns-in-Ok-clause-stands c =
    subst (λ b. StandsFrom (started_with (in_slots (own c.args.server.now c.args.client.now b)) b) c.import_kept.new.client []) c.small.ensures c.in-Ok.ensures.stands

pub returns-in-Ok-clause-offers : goal.returns-in-Ok-clause-offers
returns-in-Ok-clause-offers c = c.import_kept.ensures.offers ∙ c.in_ok-other.ensures.offers
