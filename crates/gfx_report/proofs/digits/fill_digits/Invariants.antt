use Rattle.std.proofs.Common.{◌≡◌, ◌*◌, ◌++◌, take, drop}
use Rattle.std.specs.List.{flat_map}
use Rattle.gfx_report.specs.Texts.{pixel_digits}
use Rattle.gfx_report.proofs.digits.fill_digits.Given as goal

abbrev pub invariant-pixels : goal.invariant-pixels
invariant-pixels l =
    take (8 * l.i) l.digits ++ flat_map pixel_digits (drop l.i l.pixels) ≡ flat_map pixel_digits l.pixels
