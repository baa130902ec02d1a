use Rattle.std.proofs.Common.{◌∙◌, ap, sym}
use Rattle.std.specs.Option.{option_copied}
use Rattle.gfx_prog_live.specs.Tiles.{gone_on}
use Rattle.gfx_prog_live.proofs.Making.{gone_on_none}
use Rattle.gfx_prog_live.proofs.tiles.go_on.Goals as goal

pub returns-in-None : goal.returns-in-None
returns-in-None c =
    gone_on_none c.args.script.now.differences c.args.tile.now
    ∙ ap (λ before. gone_on c.args.script.now.differences (option_copied before) c.args.tile.now) (sym c.in-None.is)
