use Rattle.std.proofs.Common.{◌≡◌, length, map, drop}
use Rattle.toml.specs.View.{view}
use Rattle.gfx_script_text.specs.Pictures.{no_pictures, more_pictures}
use Rattle.gfx_script_text.proofs.pictures.read_each.Given as goal

abbrev pub invariant-values : goal.invariant-values
invariant-values l = record {
  many : length l.names ≡ l.value-index;
  so_far : more_pictures no_pictures (map view l.values) ≡ more_pictures record { names = l.names; pictures = l.pictures.items } (map view (drop l.value-index l.values));
}
