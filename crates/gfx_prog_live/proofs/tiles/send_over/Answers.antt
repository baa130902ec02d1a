use Rattle.std.specs.Option.{option_copied}
use Rattle.gfx_prog_live.proofs.Making.{sent_made}
use Rattle.gfx_prog_live.proofs.tiles.send_over.Goals as goal

pub returns : goal.returns
returns c = λ drawing there.
    sent_made c.args.script.now (option_copied c.args.before) drawing c.args.rect c.cut_to.result c.args.cell c.cell_pixels.new.pixels c.setting.result.now
    c.in_ok-tile.tile c.go_on.new.tile c.cut_to.ensures (c.cell_pixels.ensures drawing there) c.setting.ensures c.in_ok-tile.ensures c.go_on.ensures
