-- How long the data of a picture's message are.
use Rattle.std.proofs.Common.{◌≡◌, ◌*◌, List, [], ◌∷◌, length, sym, ap, ◌∙◌, refl, arith}
use Rattle.gfx_base.specs.declared.pixel.Pixel.{Pixel}
use Rattle.gfx_clear.specs.State.{ClearState}
use Rattle.gfx_estimate.proofs.Streams.{go_by_no_state, raw_is}
use Rattle.gfx_estimate.specs.Laws.{GoByNoState}
use Rattle.gfx_planner.specs.PaintMessages.{raw_bytes}
use Rattle.gfx_planner.specs.Pixels.{pixels_in, colours_in}
use Rattle.gfx_chooser.specs.Facts.{colours_in as colours_told}
use Rattle.gfx_script.specs.Patterns.{pixel_of}
use Rattle.gfx_script.specs.declared.picture.Picture.{Picture}
use Rattle.gfx_surface.proofs.PictureLemmas.{length-drawn}
use Rattle.gfx_laws.specs.Costs.{AreSent}

-- four bytes for each pixel
length-raw : (pixels : List Pixel) → length (raw_bytes pixels) ≡ 4 * length pixels
unfolding raw_bytes
length-raw [] = refl
length-raw (pixel ∷ pixels) = omega (arith, length-raw pixels)

raw_sent : (picture : Picture) → length (raw_bytes (pixels_in picture)) ≡ 4 * (picture.width * picture.height)
unfolding pixels_in
raw_sent picture = length-raw (pixels_in picture) ∙ ap (λ n. 4 * n) (length-drawn picture.width picture.height (pixel_of picture))

-- the colours that are told of are those that are sent
same_colours : (picture : Picture) → colours_told picture ≡ colours_in picture
unfolding colours_told colours_in pixels_in
same_colours picture = refl

pub are-sent : (clear : ClearState) (picture : Picture) → AreSent clear picture
unfolding colours_told colours_in pixels_in
are-sent clear picture =
    let sizes : GoByNoState clear picture = go_by_no_state clear picture in
    record {
      raw = raw_is picture ∙ sym (raw_sent picture);
      residual = sizes.residual;
      palette = sizes.palette;
      plain = sizes.plain;
    }
