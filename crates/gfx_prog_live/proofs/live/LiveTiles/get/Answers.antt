use Rattle.std.proofs.Common.{◌∙◌, ap, sym}
use Rattle.std.specs.FinMap.{get}
use Rattle.gfx_prog_decode.proofs.Keys.{get-by}
use Rattle.gfx_prog_decode.proofs.Ties.{key_ties}
use Rattle.gfx_prog_live.proofs.live.LiveTiles.get.Goals as goal

pub returns : goal.returns
returns c =
    c.get.ensures.value ∙ sym (get-by _ key_ties c.self.inside.tiles.entries c.cell_key.result)
    ∙ ap (λ m. get m c.cell_key.result) c.self.view_is
    ∙ ap (get c.args.self.now) c.cell_key.ensures
