-- What a picture costs, before it is sent and in its message: this project's own promise.
use Rattle.std.specs.Prelude.{◌≡◌, length, Some, None}
use Rattle.gfx_clear.specs.State.{ClearState}
use Rattle.gfx_clear.specs.declared.layer.Layer.TheVariants.{Residual, Palette, Plain}
use Rattle.gfx_estimate.specs.Sizes.{sizes_of}
use Rattle.gfx_planner.specs.PaintMessages.{data_by}
use Rattle.gfx_script.specs.declared.picture.Picture.{Picture}

-- the sizes that are exact are those of the data in a picture's message ([MS-RDPEGFX] 2.2.2.1, bitmapData), whatever was
-- sent before it
pub record AreSent (clear : ClearState) (picture : Picture) : Type 0 where
  pub raw : (sizes_of picture).raw ≡ length (data_by None clear None picture)
  pub residual : (sizes_of picture).residual ≡ length (data_by (Some Residual) clear None picture)
  pub palette : (sizes_of picture).palette ≡ length (data_by (Some Palette) clear None picture)
  pub plain : (sizes_of picture).plain ≡ length (data_by (Some Plain) clear None picture)

abbrev pub SizesAreSent : Type 0
SizesAreSent = (clear : ClearState) (picture : Picture) → AreSent clear picture
