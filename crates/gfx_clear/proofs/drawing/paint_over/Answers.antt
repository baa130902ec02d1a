use Rattle.std.proofs.Common.{◌≡◌, ◌*◌, map, Ok, Err, refl, sym, ap, ◌∙◌, subst}
use Rattle.gfx_base.specs.declared.answer.Cause.TheVariants.{Refused}
use Rattle.gfx_base.specs.Geometry.{width_of, height_of}
use Rattle.gfx_surface.specs.Picture.{overlaid, rect_of}
use Rattle.gfx_clear.specs.Clear.{undrawn, with_glyphs, glyphs_after}
use Rattle.gfx_clear.specs.Parts.{covered_by}
use Rattle.gfx_base.specs.Colour.{colour_of}
use Rattle.gfx_clear.specs.Wholes.{whole_pixels}
use Rattle.gfx_base.specs.Outcome.{Applies}
use Rattle.gfx_clear.proofs.Layers.{refuses_first}
use Rattle.gfx_clear.proofs.Behind.{glyph_fault, glyph_stored, draws_fault, with_all_drawn, length-rect_of}
use Rattle.gfx_clear.proofs.Alone.{whole_refused, whole_drawn, length-whole}
use Rattle.gfx_clear.proofs.Canvases.{colours_back}
use Rattle.gfx_clear.proofs.drawing.paint_over.Goals as goal

pub returns-in-Err : goal.returns-in-Err
returns-in-Err c = λ rings.
    let old = undrawn (map colour_of (rect_of c.args.surface.now c.args.rect)) rings in
    let fault = Refused c.in-Err.refusal in
    draws_fault fault c.args.rect rings c.args.glyphs.now c.args.glyphs.now c.args.surface.now c.args.surface.now _
    (refuses_first fault _ (with_glyphs c.args.glyph (width_of c.args.rect) (height_of c.args.rect) c.args.glyphs.now)
    (whole_refused _ old c.in-Err.refusal (ap (whole_pixels c.args.whole.now) (sym c.requires.canvas) ∙ c.in-Err.ensures))) refl refl

pub keep_painted-requires : goal.keep_painted-requires
keep_painted-requires c = c.paint_whole.auto.out ∙ c.requires.canvas ∙ (λ i. sym c.width.ensures i * sym c.height.ensures i)

pub returns-in-Err-keep_painted : goal.returns-in-Err-keep_painted
returns-in-Err-keep_painted c = λ rings.
    let old = undrawn (map colour_of (rect_of c.args.surface.now c.args.rect)) rings in
    let pixels = c.in-Ok.ensures.0 in
    let read : whole_pixels c.args.whole.now (width_of c.args.rect * height_of c.args.rect) ≡ Ok pixels = ap (whole_pixels c.args.whole.now) (sym c.requires.canvas) ∙ c.in-Ok.ensures.1 in
    let same : map colour_of c.paint_whole.new.out ≡ pixels = ap (map colour_of) c.in-Ok.ensures.2 ∙ colours_back pixels in
    let g = glyph_fault c.in-Err-keep_painted.fault c.args.glyph (width_of c.args.rect) (height_of c.args.rect) c.width.result c.height.result c.args.glyphs.now c.keep_painted.new.glyphs
    (covered_by pixels old) _ (whole_drawn _ old pixels read) c.width.ensures c.height.ensures
    (subst (λ z. Applies (Err c.in-Err-keep_painted.fault) c.args.glyphs.now c.keep_painted.new.glyphs (glyphs_after c.args.glyph c.width.result c.height.result z c.args.glyphs.now)) same c.in-Err-keep_painted.ensures) in
    draws_fault c.in-Err-keep_painted.fault c.args.rect rings c.args.glyphs.now c.keep_painted.new.glyphs c.args.surface.now c.args.surface.now _ g.0 g.1 refl

pub put-requires-clause-whole : goal.put-requires-clause-whole
put-requires-clause-whole c = c.paint_whole.auto.out ∙ c.requires.canvas

pub returns : goal.returns
returns c = λ rings.
    let old = undrawn (map colour_of (rect_of c.args.surface.now c.args.rect)) rings in
    let pixels = c.in-Ok.ensures.0 in
    let read : whole_pixels c.args.whole.now (width_of c.args.rect * height_of c.args.rect) ≡ Ok pixels = ap (whole_pixels c.args.whole.now) (sym c.requires.canvas) ∙ c.in-Ok.ensures.1 in
    let same : map colour_of c.paint_whole.new.out ≡ pixels = ap (map colour_of) c.in-Ok.ensures.2 ∙ colours_back pixels in (
      covered_by pixels old,
      glyph_stored c.args.glyph (width_of c.args.rect) (height_of c.args.rect) c.width.result c.height.result c.args.glyphs.now c.keep_painted.new.glyphs (covered_by pixels old) _
          (whole_drawn _ old pixels read) c.width.ensures c.height.ensures
          (ap (λ z. glyphs_after c.args.glyph c.width.result c.height.result z c.args.glyphs.now) (sym same) ∙ c.in-Ok-keep_painted.ensures),
      refl,
      c.put.ensures ∙ ap (overlaid c.args.surface.now c.args.rect) c.in-Ok.ensures.2
          ∙ with_all_drawn c.args.surface.now c.args.rect pixels old (length-whole c.args.whole.now _ pixels read ∙ sym (length-rect_of c.args.surface.now c.args.rect)),
    )
