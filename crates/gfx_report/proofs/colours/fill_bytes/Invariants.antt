use Rattle.std.proofs.Common.{◌≡◌, ◌*◌, ◌++◌, take, drop}
use Rattle.gfx_report.specs.StateBytes.{colours_bytes}
use Rattle.gfx_report.proofs.colours.fill_bytes.Given as goal

abbrev pub invariant-pixels : goal.invariant-pixels
invariant-pixels l = take (3 * l.i) l.bytes ++ colours_bytes (drop l.i l.pixels) ≡ colours_bytes l.pixels
