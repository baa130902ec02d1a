use Rattle.std.proofs.Common.{◌∙◌, ap, sym}
use Rattle.std.specs.FinMap.{get, insert}
use Rattle.gfx_prog_decode.proofs.Keys.{get-by, inserted}
use Rattle.gfx_prog_decode.proofs.Ties.{key_ties}
use Rattle.gfx_prog_decode.proofs.records.Records.exchange.Goals as goal

pub returns-clause-given : goal.returns-clause-given
returns-clause-given c =
    c.in_ok-old.ensures.old ∙ sym (get-by _ key_ties c.self.inside.tiles.entries c.args.key)
    ∙ ap (λ m. get m c.args.key) c.self.view_is

pub returns-clause-exchanged : goal.returns-clause-exchanged
returns-clause-exchanged c =
    inserted _ key_ties c.self.inside.tiles.entries c.insert.new.self.entries c.args.key c.args.tile c.in_ok-old.ensures.updates.0
    ∙ ap (λ m. insert m c.args.key c.args.tile) c.self.view_is
