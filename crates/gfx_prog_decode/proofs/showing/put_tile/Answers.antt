use Rattle.gfx_prog_decode.proofs.CellLemmas.{row_on}
use Rattle.gfx_prog_decode.proofs.showing.put_tile.Goals as goal

pub strip_mut-requires : goal.strip_mut-requires
strip_mut-requires c = row_on c.args.surface.now.width c.args.surface.now.height c.args.key.x c.args.key.y c.requires.begins
