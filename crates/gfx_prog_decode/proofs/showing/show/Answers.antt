use Rattle.gfx_prog_decode.proofs.showing.show.Goals as goal

pub show_pixels-requires-clause-tile : goal.show_pixels-requires-clause-tile
show_pixels-requires-clause-tile c = (c.args.tile.now, c.pixels.ensures)
