use Rattle.std.proofs.Common.{map, refl, sym, ap, ◌∙◌, subst}
use Rattle.gfx_base.specs.Geometry.{width_of, height_of}
use Rattle.gfx_surface.specs.Picture.{overlaid}
use Rattle.gfx_clear_bands.specs.Canvas.{is_drawn, on_canvas}
use Rattle.gfx_clear.specs.Clear.{with_glyphs}
use Rattle.gfx_clear.specs.Inner.{parts_seen}
use Rattle.gfx_clear.specs.Painting.{drawn_over}
use Rattle.gfx_base.specs.Colour.{colour_of}
use Rattle.gfx_clear.proofs.Layers.{Refuses, refuses_first}
use Rattle.gfx_clear.proofs.Behind.{glyph_fault, glyph_stored, draws_fault}
use Rattle.gfx_clear.proofs.Canvases.{layers_over}
use Rattle.gfx_clear.proofs.drawing.draw_over_background.Goals as goal

pub returns-in-Err-clause-draws : goal.returns-in-Err-clause-draws
returns-in-Err-clause-draws c =
    let over = layers_over c.args.surface.now c.args.rect c.width-width.result c.height-height.result c.read.new.out c.begin.new.canvas c.args.store.now.held (parts_seen c.args.parts.now)
    c.width-width.ensures c.height-height.ensures c.read.ensures c.begin.ensures in
    draws_fault c.in-Err.fault c.args.rect _ c.args.glyphs.now c.args.glyphs.now c.args.surface.now c.args.surface.now _
    (refuses_first c.in-Err.fault _ (with_glyphs c.args.glyph (width_of c.args.rect) (height_of c.args.rect) c.args.glyphs.now) (subst (Refuses c.in-Err.fault) over c.in-Err.ensures.layers)) refl refl

pub returns-in-Err-keep_painted-clause-draws : goal.returns-in-Err-keep_painted-clause-draws
returns-in-Err-keep_painted-clause-draws c =
    let over = layers_over c.args.surface.now c.args.rect c.width-width.result c.height-height.result c.read.new.out c.begin.new.canvas c.args.store.now.held (parts_seen c.args.parts.now)
    c.width-width.ensures c.height-height.ensures c.read.ensures c.begin.ensures in
    let g = glyph_fault c.in-Err-keep_painted.fault c.args.glyph (width_of c.args.rect) (height_of c.args.rect) c.width-width.result c.height-height.result c.args.glyphs.now c.keep_painted.new.glyphs
    (on_canvas c.draw_layers.new.canvas c.draw_layers.new.store.held) _ (sym over ∙ c.in-Ok.ensures.layers) c.width-width.ensures c.height-height.ensures c.in-Err-keep_painted.ensures in
    draws_fault c.in-Err-keep_painted.fault c.args.rect _ c.args.glyphs.now c.keep_painted.new.glyphs c.args.surface.now c.args.surface.now _ g.0 g.1 refl

pub returns-clause-draws : goal.returns-clause-draws
returns-clause-draws c =
    let over = layers_over c.args.surface.now c.args.rect c.width-width.result c.height-height.result c.read.new.out c.begin.new.canvas c.args.store.now.held (parts_seen c.args.parts.now)
    c.width-width.ensures c.height-height.ensures c.read.ensures c.begin.ensures in
    let new = on_canvas c.draw_layers.new.canvas c.draw_layers.new.store.held in (
      new,
      glyph_stored c.args.glyph (width_of c.args.rect) (height_of c.args.rect) c.width-width.result c.height-height.result c.args.glyphs.now c.keep_painted.new.glyphs new _
          (sym over ∙ c.in-Ok.ensures.layers) c.width-width.ensures c.height-height.ensures c.in-Ok-keep_painted.ensures,
      refl,
      c.put_canvas.ensures ∙ ap (λ z. overlaid c.args.surface.now c.args.rect (drawn_over z (map colour_of c.draw_layers.new.canvas) (map is_drawn c.draw_layers.new.canvas))) c.read.ensures,
    )
