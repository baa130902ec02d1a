use Rattle.std.proofs.Common.{◌*◌, length, map, refl, sym, ◌∙◌}
use Rattle.gfx_base.specs.Geometry.{width_of, height_of}
use Rattle.gfx_surface.specs.Picture.{rect_of}
use Rattle.gfx_clear_bands.proofs.Drawings.{some_left, none_left}
use Rattle.gfx_glyph.specs.Glyphs.{shown}
use Rattle.gfx_clear.specs.Clear.{undrawn}
use Rattle.gfx_clear.specs.Parts.{covered_by}
use Rattle.gfx_base.specs.Colour.{colour_of}
use Rattle.gfx_clear.proofs.Behind.{index_long, index_refused, index_drawn, with_all_drawn, length-rect_of}
use Rattle.gfx_clear.proofs.drawing.draw_glyph.Goals as goal

pub returns-then-not-is_empty-clause-draws : goal.returns-then-not-is_empty-clause-draws
returns-then-not-is_empty-clause-draws c = λ rings. (
  index_long c.args.index (width_of c.args.rect) (height_of c.args.rect) c.args.glyphs.now (undrawn (map colour_of (rect_of c.args.surface.now c.args.rect)) rings) c.args.bytes.now
      (some_left (length c.args.bytes.now) c.is_empty.result c.is_empty.ensures c.if-not-is_empty.true),
  refl,
  refl,
)

pub returns-in-Ok-paint-clause-draws : goal.returns-in-Ok-paint-clause-draws
returns-in-Ok-paint-clause-draws c = λ rings.
    let old = undrawn (map colour_of (rect_of c.args.surface.now c.args.rect)) rings in (
      covered_by c.in-Ok.colours.now old,
      index_drawn c.args.index (width_of c.args.rect) (height_of c.args.rect) c.args.glyphs.now old c.args.bytes.now c.in-Ok.colours.now
          (none_left (length c.args.bytes.now) c.is_empty.result c.is_empty.ensures c.if-not-is_empty.false)
          ((λ i. shown c.args.index (sym c.width.ensures i) (sym c.height.ensures i) c.args.glyphs.now) ∙ c.in-Ok.ensures.pixels),
      refl,
      c.in-Ok-paint.ensures.ok
          ∙ with_all_drawn c.args.surface.now c.args.rect c.in-Ok.colours.now old
          (c.in-Ok.ensures.area ∙ (λ i. c.width.ensures i * c.height.ensures i) ∙ sym (length-rect_of c.args.surface.now c.args.rect)),
    )

pub returns-in-Err-clause-draws : goal.returns-in-Err-clause-draws
returns-in-Err-clause-draws c = λ rings. (
  index_refused c.args.index (width_of c.args.rect) (height_of c.args.rect) c.args.glyphs.now (undrawn (map colour_of (rect_of c.args.surface.now c.args.rect)) rings) c.args.bytes.now c.in-Err.refusal
      (none_left (length c.args.bytes.now) c.is_empty.result c.is_empty.ensures c.if-not-is_empty.false)
      ((λ i. shown c.args.index (sym c.width.ensures i) (sym c.height.ensures i) c.args.glyphs.now) ∙ c.in-Err.ensures.pixels),
  refl,
  refl,
)
