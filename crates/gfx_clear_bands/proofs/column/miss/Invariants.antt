use Rattle.std.proofs.Common.{◌≡◌, ◌+◌, ◌*◌, ◌++◌, length, take}
use Rattle.std.specs.List.{flat_map}
use Rattle.std.specs.Int.{w16, to_le_bytes}
use Rattle.gfx_clear_bands.specs.Writing.{colour_bytes}
use Rattle.gfx_clear_bands.specs.declared.word.TheConstants.{OFF}
use Rattle.gfx_clear_bands.proofs.column.miss.Given as goal

abbrev pub invariant-colours : goal.invariant-colours
invariant-colours l = record {
  items : l.bytes.items ≡ to_le_bytes w16 (l.on + OFF * (l.on + length l.short)) ++ flat_map colour_bytes (take l.pixel-index l.short);
  len : length l.bytes.items ≡ 2 + 3 * l.pixel-index;
}
