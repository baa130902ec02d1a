use Rattle.std.proofs.Common.{◌∙◌, arith}
use Rattle.gfx_report.proofs.Filling.{filled_more, length-pixel_digits}
use Rattle.gfx_report.specs.Texts.{pixel_digits}
use Rattle.gfx_report.proofs.digits.fill_digits.Goals as goal

pub pixels-preserved : goal.pixels-preserved
pixels-preserved c =
    filled_more pixel_digits 8 _ _ _ _ _ _ length-pixel_digits c.pixels-test.true (omega arith)
    (c.copy_from_slice.ensures.after ∙ c.digits_of.ensures) c.pixels.invariant
