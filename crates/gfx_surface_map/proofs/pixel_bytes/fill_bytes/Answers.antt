use Rattle.std.proofs.Common.{◌∙◌, refl, arith}
use Rattle.gfx_surface_map.specs.Composed.{pixel_bytes}
use Rattle.gfx_surface_map.proofs.BytesLemmas.{filled_more}
use Rattle.gfx_surface_map.proofs.pixel_bytes.fill_bytes.Goals as goal

pub pixels-preserved : goal.pixels-preserved
pixels-preserved c =
    filled_more pixel_bytes 4 _ _ _ _ _ _ (λ _. refl) c.pixels-test.true (omega arith)
    (c.copy_from_slice.ensures.after ∙ c.bytes_of.ensures) c.pixels.invariant
