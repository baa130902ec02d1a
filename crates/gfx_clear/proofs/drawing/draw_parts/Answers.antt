use Rattle.std.proofs.Common.{map, refl, sym, ap, ◌∙◌, subst}
use Rattle.gfx_base.specs.Geometry.{width_of, height_of}
use Rattle.gfx_base.specs.Results.{and_then}
use Rattle.gfx_surface.specs.Picture.{rect_of}
use Rattle.gfx_clear.specs.Clear.{undrawn, with_glyphs}
use Rattle.gfx_clear.specs.Inner.{Draws, parts_seen}
use Rattle.gfx_base.specs.Colour.{colour_of}
use Rattle.gfx_clear.proofs.Alone.{whole_over}
use Rattle.gfx_clear.proofs.Behind.{parts_refused, parts_read}
use Rattle.gfx_clear.proofs.drawing.draw_parts.Goals as goal

pub returns-in-Err-clause-draws : goal.returns-in-Err-clause-draws
returns-in-Err-clause-draws c = (
  parts_refused c.args.glyph (width_of c.args.rect) (height_of c.args.rect) c.args.glyphs.now (undrawn (map colour_of (rect_of c.args.surface.now c.args.rect)) c.args.store.now.held)
      c.args.bytes.now c.in-Err.refusal c.in-Err.ensures,
  refl,
  refl,
)

pub returns-clause-draws : goal.returns-clause-draws
returns-clause-draws c =
    subst (Draws c.draw_layered.result c.args.rect c.draw_layered.new.store.held c.args.glyphs.now c.draw_layered.new.glyphs c.args.surface.now c.draw_layered.new.surface)
    (parts_read c.args.glyph (width_of c.args.rect) (height_of c.args.rect) c.args.glyphs.now (undrawn (map colour_of (rect_of c.args.surface.now c.args.rect)) c.args.store.now.held)
    c.args.bytes.now (parts_seen c.in-Ok.parts) c.in-Ok.ensures)
    c.draw_layered.ensures.draws

pub returns-in-Some-clause-draws : goal.returns-in-Some-clause-draws
returns-in-Some-clause-draws c =
    let picture = c.args.surface.now in
    let old = undrawn (map colour_of (rect_of picture c.args.rect)) c.args.store.now.held in
    let glyphs = with_glyphs c.args.glyph (width_of c.args.rect) (height_of c.args.rect) c.args.glyphs.now in
    let whole = whole_over picture c.args.rect c.width.result c.height.result c.in-Some.whole (parts_seen c.in-Ok.parts) c.args.store.now.held c.width.ensures c.height.ensures c.in-Some.ensures in
    subst (Draws c.draw_whole.result c.args.rect c.args.store.now.held c.args.glyphs.now c.draw_whole.new.glyphs picture c.draw_whole.new.surface)
    (ap (λ z. and_then z glyphs) (sym whole)
    ∙ parts_read c.args.glyph (width_of c.args.rect) (height_of c.args.rect) c.args.glyphs.now old c.args.bytes.now (parts_seen c.in-Ok.parts) c.in-Ok.ensures)
    (c.draw_whole.ensures c.args.store.now.held)
