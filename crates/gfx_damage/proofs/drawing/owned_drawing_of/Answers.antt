use Rattle.std.proofs.Common.{◌∙◌, Some, ap, map}
use Rattle.gfx_base.specs.Geometry.{moved}
use Rattle.gfx_bitmap_cache.specs.Slots.{shown as image_at}
use Rattle.gfx_state.specs.Written.{image_rect, written_on}
use Rattle.gfx_damage.proofs.drawing.owned_drawing_of.Goals as goal

pub returns-in-SurfaceToSurface-clause-value : goal.returns-in-SurfaceToSurface-clause-value
returns-in-SurfaceToSurface-clause-value c =
    let s = c.in-SurfaceToSurface in
    rw s.is (c.copies_on.ensures ∙ ap (λ points. written_on c.args.state.now (Some (s.destination, map (moved s.rect) points))) c.as_slice-in-SurfaceToSurface.ensures)

pub returns-in-CacheToSurface-clause-value : goal.returns-in-CacheToSurface-clause-value
returns-in-CacheToSurface-clause-value c =
    let s = c.in-CacheToSurface in
    let rect = c.image_rect-rect.ensures ∙ ap (λ cache. image_rect (image_at cache s.slot)) c.cache.ensures in
    rw s.is (c.copies_on-in-CacheToSurface.ensures ∙ (λ i. written_on c.args.state.now (Some (s.surface, map (moved (rect i)) (c.as_slice-in-CacheToSurface.ensures i)))))
