use Rattle.std.proofs.Common.{map, subst}
use Rattle.gfx_base.specs.Geometry.{width_of, height_of}
use Rattle.gfx_base.specs.Outcome.{WantsOnlyIf}
use Rattle.gfx_surface.specs.Picture.{rect_of}
use Rattle.gfx_clear.specs.Clear.{undrawn}
use Rattle.gfx_clear.specs.Inner.{Draws}
use Rattle.gfx_base.specs.Colour.{colour_of}
use Rattle.gfx_clear.proofs.Behind.{in_layers_or_not}
use Rattle.gfx_clear.proofs.Wanting.{parts_begun}
use Rattle.gfx_clear.proofs.drawing.draw.Goals as goal

pub returns-in-Stores : goal.returns-in-Stores
returns-in-Stores c = record {
  draws = subst (Draws c.draw_parts.result c.args.rect c.draw_parts.new.store.held c.args.glyphs.now c.draw_parts.new.glyphs c.args.surface.now c.draw_parts.new.surface)
      (in_layers_or_not c.args.glyph (width_of c.args.rect) (height_of c.args.rect) c.args.glyphs.now (undrawn (map colour_of (rect_of c.args.surface.now c.args.rect)) c.args.store.now.held) c.args.bytes.now c.in-Stores.is)
      c.draw_parts.ensures.draws;
  memory = subst (WantsOnlyIf c.draw_parts.result) (parts_begun c.args.glyph (width_of c.args.rect) (height_of c.args.rect) c.args.glyphs.now c.args.bytes.now c.in-Stores.is) c.draw_parts.ensures.memory;
  marked = c.draw_parts.ensures.marked;
}
