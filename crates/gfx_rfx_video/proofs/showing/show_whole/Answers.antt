use Rattle.std.proofs.Common.{◌≡◌}
use Rattle.gfx_base.specs.Geometry.{holds}
use Rattle.gfx_rfx_video.specs.Inside.{corner_of, tile_pixel}
use Rattle.gfx_rfx_video.specs.Showing.{drawn_where}
use Rattle.gfx_rfx_video.proofs.Drawn.{whole-changes}
use Rattle.gfx_rfx_video.proofs.Parts.{cell-column, cell-put, cell-row}
use Rattle.gfx_rfx_video.proofs.Undoing.{still-drawn}
use Rattle.gfx_rfx_video.proofs.showing.show_whole.Goals as goal

pub returns-clause-shown : goal.returns-clause-shown
returns-clause-shown c = cell-put c.args.surface.now c.put_opaque.new.self c.args.tile c.args.pixels.now c.requires.cell c.put_opaque.ensures

pub returns-clause-undo : goal.returns-clause-undo
returns-clause-undo c =
    let drawn : c.put_opaque.new.self ≡ drawn_where (holds c.args.tile) (tile_pixel c.args.pixels.now (corner_of c.args.tile)) c.args.surface.now =
    cell-put c.args.surface.now c.put_opaque.new.self c.args.tile c.args.pixels.now c.requires.cell c.put_opaque.ensures in
    still-drawn c.cell_of.result c.args.log.now.cells.items c.keep.new.self.cells.items c.args.surface.now c.put_opaque.new.self c.in_ok-keep.ensures.ok
    (whole-changes c.args.surface.now c.put_opaque.new.self c.cell_of.result c.args.tile (tile_pixel c.args.pixels.now (corner_of c.args.tile)) c.cell_of.ensures
    (cell-column c.args.tile c.requires.cell) (cell-row c.args.tile c.requires.cell) drawn)
