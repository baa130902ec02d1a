use Rattle.std.proofs.Common.{◌≡◌, ◌+◌, map, drop}
use Rattle.toml.specs.View.{view}
use Rattle.gfx_script_text.specs.Text.{steps_of}
use Rattle.gfx_script_text.proofs.Runs.{after_these}
use Rattle.gfx_script_text.proofs.reading.read_steps.Given as goal

abbrev pub invariant-values : goal.invariant-values
invariant-values l = record {
  number : l.number ≡ l.value-index + 1;
  so_far : steps_of l.names 1 l.fn.held (map view l.values) ≡ after_these l.steps.items (steps_of l.names l.number l.held (map view (drop l.value-index l.values)));
}
