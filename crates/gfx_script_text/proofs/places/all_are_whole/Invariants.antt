use Rattle.std.proofs.Common.{◌≡◌, map, drop}
use Rattle.std.specs.List.{list_all}
use Rattle.toml.specs.View.{view}
use Rattle.gfx_script_text.specs.Places.{are_whole}
use Rattle.gfx_script_text.proofs.places.all_are_whole.Given as goal

abbrev pub invariant-values : goal.invariant-values
invariant-values l = list_all are_whole (map view l.values) ≡ list_all are_whole (map view (drop l.value-index l.values))
