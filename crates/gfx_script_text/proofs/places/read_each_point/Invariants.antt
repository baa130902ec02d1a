use Rattle.std.proofs.Common.{◌≡◌, map, drop}
use Rattle.toml.specs.View.{view}
use Rattle.gfx_base.specs.Results.{each}
use Rattle.gfx_script_text.specs.Places.{point_in}
use Rattle.gfx_script_text.proofs.Runs.{after_these}
use Rattle.gfx_script_text.proofs.places.read_each_point.Given as goal

abbrev pub invariant-values : goal.invariant-values
invariant-values l = each point_in (map view l.values) ≡ after_these l.points (each point_in (map view (drop l.value-index l.values)))
