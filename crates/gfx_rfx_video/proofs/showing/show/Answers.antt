use Rattle.std.proofs.Common.{◌∙◌, ap, sym}
use Rattle.gfx_rfx_video.specs.Inside.{corner_of, is_in_one, tile_pixel}
use Rattle.gfx_rfx_video.specs.Showing.{changes, tile_in}
use Rattle.gfx_rfx_video.proofs.Drawn.{drawn-none}
use Rattle.gfx_rfx_video.proofs.Parts.{cell-drawn, on-ok, outside-none, rect-low, rect-narrow, still-canvas, tile-drawn}
use Rattle.gfx_rfx_video.proofs.showing.show.Goals as goal

pub returns-then-not-begins_in-clause-shown : goal.returns-then-not-begins_in-clause-shown
returns-then-not-begins_in-clause-shown c =
    drawn-none c.args.surface.now (changes c.args.rect c.args.areas.now c.args.head.now) (tile_pixel c.args.pixels.now (corner_of (tile_in c.args.rect c.args.head.now))) c.size.ensures.shape
    (λ x y column row. outside-none c.args.rect c.args.areas.now c.args.head.now x y (sym c.begins_in.ensures ∙ c.if-not-begins_in.true))

pub returns-then-is_in_one-clause-shown : goal.returns-then-is_in_one-clause-shown
returns-then-is_in_one-clause-shown c =
    on-ok c.show_whole.result _ _
    (cell-drawn c.args.surface.now c.show_whole.new.surface c.args.rect c.tile_in-tile.result c.args.areas.now c.args.head.now c.args.pixels.now
    (rect-narrow c.args.surface.now c.args.rect c.size.ensures.shape c.requires.inside) (rect-low c.args.surface.now c.args.rect c.size.ensures.shape c.requires.inside) c.tile_in-tile.ensures
    (ap (λ corner. is_in_one corner c.args.areas.now c.tile_in-tile.result) (sym c.corner_of-corner.ensures) ∙ sym c.is_in_one.ensures ∙ c.if-is_in_one.true)) c.show_whole.ensures.shown

pub show_columns-requires-clause-canvas : goal.show_columns-requires-clause-canvas
show_columns-requires-clause-canvas c = still-canvas c.args.canvas.now c.put.new.self c.sized.result c.args.pixels.now c.requires.canvas c.put.ensures

pub returns-clause-shown : goal.returns-clause-shown
returns-clause-shown c =
    on-ok c.show_columns.result _ _
    (tile-drawn c.args.surface.now c.args.canvas.now c.put.new.self c.show_columns.new.surface c.args.rect c.sized.result c.tile_in-tile.result c.args.areas.now c.args.head.now c.args.pixels.now
    (rect-narrow c.args.surface.now c.args.rect c.size.ensures.shape c.requires.inside) (rect-low c.args.surface.now c.args.rect c.size.ensures.shape c.requires.inside) c.requires.canvas
    c.sized.ensures c.put.ensures c.tile_in-tile.ensures) (rw c.corner_of-corner.ensures at c.show_columns.ensures.shown)

pub returns-clause-canvas : goal.returns-clause-canvas
returns-clause-canvas c = still-canvas c.args.canvas.now c.put.new.self c.sized.result c.args.pixels.now c.requires.canvas c.put.ensures
