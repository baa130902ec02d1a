use Rattle.std.proofs.Common.{◌∙◌, ap}
use Rattle.std.specs.FinMap.{remove}
use Rattle.gfx_prog_decode.proofs.Keys.{removed}
use Rattle.gfx_prog_decode.proofs.Ties.{key_ties}
use Rattle.gfx_prog_decode.proofs.records.Records.remove.Goals as goal

pub returns : goal.returns
returns c =
    removed _ key_ties c.self.inside.tiles.entries c.swap_remove.new.self.entries c.args.key c.swap_remove.ensures.updates.0
    ∙ ap (λ m. remove m c.args.key) c.self.view_is
