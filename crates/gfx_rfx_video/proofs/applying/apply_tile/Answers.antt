use Rattle.std.proofs.lemmas.Result.{err_from_is_err_and}
use Rattle.gfx_rfx_video.specs.Inside.{corner_of, tile_pixel}
use Rattle.gfx_rfx_video.specs.Showing.{changes, tile_in}
use Rattle.gfx_rfx_video.proofs.Drawn.{inside-stays}
use Rattle.gfx_rfx_video.proofs.Turns.{tile-shown, tile-unread}
use Rattle.gfx_rfx_video.proofs.applying.apply_tile.Goals as goal

pub returns-in_err-read_planes-clause-gives : goal.returns-in_err-read_planes-clause-gives
returns-in_err-read_planes-clause-gives c =
    let p = err_from_is_err_and c.from_residual.result c.from_residual.ensures.1 in
    rw (p.1, p.2) (tile-unread c.args.rect c.args.mode c.args.quants.now c.args.areas.now c.args.tile.now c.args.surface.now c.in_err-read_planes.field-0.0 c.in_err-read_planes.ensures)

pub returns-clause-gives : goal.returns-clause-gives
returns-clause-gives c =
    tile-shown c.args.rect c.args.mode c.args.quants.now c.args.areas.now c.args.tile.now c.args.surface.now c.show.new.surface c.read_planes.new.planes c.colour.new.out
    c.in_ok-read_planes.ensures c.colour.ensures.pixels c.in_ok-show.ensures.shown

pub returns-clause-inside : goal.returns-clause-inside
returns-clause-inside c =
    inside-stays c.args.surface.now c.show.new.surface (changes c.args.rect c.args.areas.now c.args.tile.now.head) (tile_pixel c.colour.new.out (corner_of (tile_in c.args.rect c.args.tile.now.head)))
    c.args.rect c.in_ok-show.ensures.shown c.requires.inside
