use Rattle.std.proofs.Common.{◌≡◌, IfOk, List, subst}
use Rattle.gfx_prog_block.specs.declared.tile.Tile.{Tile}
use Rattle.gfx_prog_block.specs.Spelling.{spelling}
use Rattle.gfx_prog_encode.specs.Messages.{blocks_of, region_of, improve_data}
use Rattle.gfx_prog_encode.proofs.message.improve_message.Goals as goal

pub returns : goal.returns
unfolding improve_data
returns c =
    subst (λ (tiles : List Tile). IfOk c.write_message.result (λ bytes. bytes ≡ spelling (blocks_of (region_of c.args.setting.now c.args.sends.now tiles) c.args.index))) c.in_ok-tiles.ensures.value c.write_message.ensures
