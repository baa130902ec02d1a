-- What a server sends and paints is the step of its message.
use Rattle.std.proofs.Common.{◌≡◌, ℕ, ◌<◌, ◌^◌, List, map, Option, Ok, sym, ap, ◌∙◌, subst}
use Rattle.std.proofs.lemmas.List.{length-map}
use Rattle.gfx_base.specs.declared.geometry.Rect.{Rect}
use Rattle.gfx_base.specs.declared.pixel.Pixel.{Pixel}
use Rattle.gfx_base.specs.declared.pixel.Rgb.{Rgb}
use Rattle.gfx_base.specs.Geometry.{width_of, height_of}
use Rattle.gfx_base.proofs.ResultLemmas.{and_then_at}
use Rattle.gfx_surface.specs.Picture.{Picture, overlaid, rect_of}
use Rattle.gfx_clear_store.specs.Rings.{AreRings}
use Rattle.gfx_clear.specs.declared.layer.Layer.{Layer}
use Rattle.gfx_clear.specs.State.{ClearState}
use Rattle.gfx_clear.specs.Clear.{clear}
use Rattle.gfx_clear.specs.Painting.{scene, decoded}
use Rattle.gfx_base.specs.Colour.{colour_of, opaque}
use Rattle.gfx_clear.specs.Sending.{MaySend, sent}
use Rattle.gfx_clear.specs.Laws.{shows}
use Rattle.gfx_clear.specs.Sending.{sends}
use Rattle.gfx_clear.proofs.Behind.{length-rect_of}
use Rattle.gfx_clear.proofs.DrawnOver.{all_drawn_over}
use Rattle.gfx_clear.proofs.Law.{law}

pub painting_is_step : (old new : ClearState) (picture : Picture) (rect : Rect) (layer : Layer) (index : Option ℕ) (pixels : List Rgb) (bytes : List ℕ) (painted : List Pixel) → AreRings old.rings
    → MaySend (width_of rect) (height_of rect) pixels index → width_of rect < 2 ^ 16 → height_of rect < 2 ^ 16 → sends bytes new ≡ sent old layer index (width_of rect) (height_of rect) pixels
    → painted ≡ map opaque pixels → decoded (scene old picture) rect bytes ≡ Ok (scene new (overlaid picture rect painted))
unfolding decoded
painting_is_step old new picture rect layer index pixels bytes painted are may wide high is same =
    let under = map colour_of (rect_of picture rect) in
    let read : clear old (width_of rect) (height_of rect) under bytes ≡ Ok (shows pixels new) =
    subst (λ m. clear old (width_of rect) (height_of rect) under m.bytes ≡ Ok (shows pixels m.state)) (sym is)
    (law old layer index (width_of rect) (height_of rect) pixels under are may wide high (length-map (rect_of picture rect) colour_of ∙ length-rect_of picture rect)) in
    and_then_at (clear old (width_of rect) (height_of rect) under bytes) (shows pixels new) _ read
    ∙ ap (λ z. Ok (scene new (overlaid picture rect z))) (all_drawn_over (rect_of picture rect) pixels (may.whole ∙ sym (length-rect_of picture rect)) ∙ sym same)
