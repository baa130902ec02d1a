use Rattle.std.proofs.Common.{◌∙◌, ap}
use Rattle.gfx_prog_live.specs.Tiles.{cell_pixels}
use Rattle.gfx_video_paint.proofs.Making.{tile_made}
use Rattle.gfx_video_paint.proofs.tiles.tile_of.Goals as goal

pub returns : goal.returns
returns c = λ drawing there.
    tile_made c.args.script.now.setting c.args.setting.now drawing c.args.width c.args.height c.args.square c.cell_pixels.new.pixels c.in_ok-from_pixels.field-0
    c.requires.setting (c.requires.sides drawing there) (c.cell_pixels.ensures drawing there ∙ ap (λ r. cell_pixels drawing r c.args.square) c.sized.ensures) c.in_ok-from_pixels.ensures
