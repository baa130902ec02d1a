use Rattle.std.proofs.Common.{◌≡◌, ◌*◌, ◌++◌, take, drop}
use Rattle.gfx_report.specs.StateBytes.{pixels_bytes}
use Rattle.gfx_report.proofs.hashing.fill_bytes.Given as goal

abbrev pub invariant-pixels : goal.invariant-pixels
invariant-pixels l = take (4 * l.i) l.bytes ++ pixels_bytes (drop l.i l.pixels) ≡ pixels_bytes l.pixels
