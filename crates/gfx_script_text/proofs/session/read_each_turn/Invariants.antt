use Rattle.std.proofs.Common.{◌≡◌, map, drop}
use Rattle.toml.specs.View.{view}
use Rattle.gfx_base.specs.Results.{each}
use Rattle.gfx_script_text.specs.Sessions.{turn_of}
use Rattle.gfx_script_text.proofs.Runs.{after_these}
use Rattle.gfx_script_text.proofs.session.read_each_turn.Given as goal

abbrev pub invariant-values : goal.invariant-values
invariant-values l = each turn_of (map view l.values) ≡ after_these l.turns.items (each turn_of (map view (drop l.value-index l.values)))
