use Rattle.std.proofs.Common.{◌≡◌, None, length, map, drop}
use Rattle.toml.specs.View.{view}
use Rattle.gfx_script_text.specs.Progressive.{levels_behind}
use Rattle.gfx_script_text.proofs.Runs.{after_these}
use Rattle.gfx_script_text.proofs.levels.read_levels.Given as goal

abbrev pub invariant-values : goal.invariant-values
invariant-values l = record {
  count : length l.levels ≡ l.value-index;
  so_far : levels_behind l.bases None (map view l.values) ≡ after_these l.levels (levels_behind l.bases l.before (map view (drop l.value-index l.values)));
}
