use Rattle.std.proofs.Common.{◌≡◌, ◌*◌, length, take}
use Rattle.std.specs.List.{flat_map}
use Rattle.std.specs.Vec.{vec_len, vec_capacity}
use Rattle.gfx_clear_bands.specs.Writing.{colour_bytes}
use Rattle.gfx_clear.proofs.part.raw_bytes.Given as goal

abbrev pub invariant-pixels : goal.invariant-pixels
invariant-pixels l = record {
  items : l.bytes.items ≡ flat_map colour_bytes (take l.pixel-index l.pixels);
  len : vec_len l.bytes ≡ 3 * l.pixel-index;
  room : vec_capacity l.bytes ≡ 3 * length l.pixels;
}
