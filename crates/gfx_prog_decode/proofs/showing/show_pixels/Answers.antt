use Rattle.std.proofs.Common.{◌≡◌, ◌∙◌, ap, sym}
use Rattle.gfx_base.specs.declared.geometry.Rect.{Rect}
use Rattle.gfx_prog_decode.specs.Inside.{is_in_one}
use Rattle.gfx_prog_decode.specs.Showing.{cell_in}
use Rattle.gfx_prog_decode.proofs.Areas.{still_canvas, tile_shown}
use Rattle.gfx_prog_decode.proofs.Whole.{opaque_pixels, whole_shown}
use Rattle.gfx_prog_decode.proofs.showing.show_pixels.Goals as goal

pub put_tile-requires-clause-opaque : goal.put_tile-requires-clause-opaque
put_tile-requires-clause-opaque c = opaque_pixels c.requires.tile.0 c.args.pixels.now c.told-pixels c.requires.tile.1

pub returns-then-is_in_one-clause-shown : goal.returns-then-is_in_one-clause-shown
returns-then-is_in_one-clause-shown c tile each =
    let same : c.cell_in.result ≡ cell_in c.args.surface.now.width c.args.surface.now.height c.args.key = rw c.size.ensures.size at c.cell_in.ensures.cell in
    c.put_tile.ensures
    ∙ whole_shown c.args.surface.now c.args.key c.args.areas.now c.args.pixels.now tile
    (ap (λ (r : Rect). is_in_one r c.args.areas.now) (sym same) ∙ sym c.is_in_one.ensures ∙ c.if-is_in_one.true) each

pub show_areas-requires-clause-canvas : goal.show_areas-requires-clause-canvas
show_areas-requires-clause-canvas c = still_canvas c.args.canvas.now c.put.new.self c.sized.result c.args.pixels.now c.requires.canvas c.put.ensures

pub returns-clause-shown : goal.returns-clause-shown
returns-clause-shown c tile each =
    c.show_areas.ensures
    ∙ tile_shown c.args.surface.now c.args.canvas.now c.put.new.self c.args.key c.args.areas.now c.sized.result c.args.pixels.now tile
    c.requires.canvas each c.sized.ensures c.put.ensures

pub returns-clause-canvas : goal.returns-clause-canvas
returns-clause-canvas c = still_canvas c.args.canvas.now c.put.new.self c.sized.result c.args.pixels.now c.requires.canvas c.put.ensures
