use Rattle.std.proofs.Common.{◌≡◌, map, drop, take, length}
use Rattle.toml.specs.View.{view}
use Rattle.gfx_base.specs.Results.{each}
use Rattle.gfx_script_text.specs.Progressive.{number_in}
use Rattle.gfx_script_text.proofs.Runs.{after_these}
use Rattle.gfx_script_text.proofs.bands.read_ten.Given as goal

abbrev pub invariant-values : goal.invariant-values
invariant-values l = record {
  size : length l.values ≡ 10;
  so_far : each (number_in l.least l.most) (map view l.items) ≡ after_these (take l.index l.values) (each (number_in l.least l.most) (map view (drop l.index l.items)));
}
