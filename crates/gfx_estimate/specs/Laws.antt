-- What holds of sizes: this project's own promise.
use Rattle.std.specs.Prelude.{◌≡◌}
use Rattle.gfx_clear.specs.declared.layer.Layer.TheVariants.{Residual, Palette, Plain}
use Rattle.gfx_clear.specs.State.{ClearState}
use Rattle.gfx_script.specs.declared.picture.Picture.{Picture}
use Rattle.gfx_estimate.specs.Sizes.{sizes_of, layer_size}

-- the sizes by a layer are those of the stream that is sent, whatever was sent before
pub record GoByNoState (clear : ClearState) (picture : Picture) : Type 0 where
  pub residual : (sizes_of picture).residual ≡ layer_size clear Residual picture
  pub palette : (sizes_of picture).palette ≡ layer_size clear Palette picture
  pub plain : (sizes_of picture).plain ≡ layer_size clear Plain picture

abbrev pub SizesGoByNoState : Type 0
SizesGoByNoState = (clear : ClearState) (picture : Picture) → GoByNoState clear picture
