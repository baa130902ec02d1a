use Rattle.std.proofs.Common.{◌∙◌, ap, sym}
use Rattle.std.specs.FinMap.{get}
use Rattle.gfx_prog_decode.proofs.Keys.{get-by}
use Rattle.gfx_prog_decode.proofs.Ties.{key_ties}
use Rattle.gfx_prog_decode.proofs.records.Records.get.Goals as goal

pub returns : goal.returns
returns c =
    c.get.ensures.value ∙ sym (get-by _ key_ties c.self.inside.tiles.entries c.args.key)
    ∙ ap (λ m. get m c.args.key) c.self.view_is
