use Rattle.std.proofs.Common.{◌≡◌, map, drop}
use Rattle.std.specs.List.{list_all}
use Rattle.toml.specs.View.{view}
use Rattle.gfx_script_text.specs.Places.{is_whole}
use Rattle.gfx_script_text.proofs.places.all_whole.Given as goal

abbrev pub invariant-values : goal.invariant-values
invariant-values l = list_all is_whole (map view l.values) ≡ list_all is_whole (map view (drop l.value-index l.values))
