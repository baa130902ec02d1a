use Rattle.std.proofs.Common.{◌≡◌, map, drop}
use Rattle.toml.specs.View.{view}
use Rattle.gfx_base.specs.Results.{each}
use Rattle.gfx_script_text.specs.Clients.{offer_in}
use Rattle.gfx_script_text.proofs.Runs.{after_these}
use Rattle.gfx_script_text.proofs.client.read_offers.Given as goal

abbrev pub invariant-values : goal.invariant-values
invariant-values l = each offer_in (map view l.values) ≡ after_these l.offers (each offer_in (map view (drop l.value-index l.values)))
