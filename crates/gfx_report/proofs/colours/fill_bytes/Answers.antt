use Rattle.std.proofs.Common.{◌∙◌, refl, arith}
use Rattle.gfx_clear_bands.specs.Writing.{colour_bytes}
use Rattle.gfx_report.proofs.Filling.{filled_more}
use Rattle.gfx_report.proofs.colours.fill_bytes.Goals as goal

pub pixels-preserved : goal.pixels-preserved
pixels-preserved c =
    filled_more colour_bytes 3 _ _ _ _ _ _ (λ _. refl) c.pixels-test.true (omega arith)
    (c.copy_from_slice.ensures.after ∙ c.bytes_of.ensures) c.pixels.invariant
