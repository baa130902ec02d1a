use Rattle.std.proofs.Common.{◌∙◌, ap, sym}
use Rattle.std.specs.FinMap.{get, insert}
use Rattle.gfx_prog_decode.proofs.Begun.{placed, when_ok}
use Rattle.gfx_prog_decode.proofs.Keys.{get-by, inserted}
use Rattle.gfx_prog_decode.proofs.Ties.{key_ties}
use Rattle.gfx_prog_decode.proofs.records.Records.replace.Goals as goal

pub unwrap-requires : goal.unwrap-requires
unwrap-requires c =
    placed c.insert.result c.insert.ensures.absent c.requires
    (sym (ap (λ m. get m c.args.key) c.self.view_is) ∙ get-by _ key_ties c.self.inside.tiles.entries c.args.key)

pub returns : goal.returns
returns c =
    inserted _ key_ties c.self.inside.tiles.entries c.insert.new.self.entries c.args.key c.args.tile (when_ok _ c.unwrap.ensures c.insert.ensures.updates).0
    ∙ ap (λ m. insert m c.args.key c.args.tile) c.self.view_is
