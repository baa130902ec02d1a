use Rattle.std.proofs.Common.{◌∙◌, ap, sym, is_some}
use Rattle.std.specs.FinMap.{get, insert}
use Rattle.gfx_prog_decode.proofs.Begun.{begins_fresh, begins_there}
use Rattle.gfx_prog_decode.proofs.Keys.{get-by, inserted}
use Rattle.gfx_prog_decode.proofs.Ties.{key_ties}
use Rattle.gfx_prog_decode.proofs.records.Records.begin.Goals as goal

pub returns-then-contains_key-clause-begun : goal.returns-then-contains_key-clause-begun
returns-then-contains_key-clause-begun c =
    begins_there c.args.key c.args.self.now
    (sym (ap (λ m. is_some (get m c.args.key)) c.self.view_is) ∙ ap is_some (get-by _ key_ties c.self.inside.tiles.entries c.args.key)
    ∙ sym c.contains_key.ensures ∙ c.if-contains_key.true)

pub returns-clause-begun : goal.returns-clause-begun
returns-clause-begun c =
    begins_fresh c.args.key c.in_ok-tile.tile c.args.self.now _
    (sym (ap (λ m. is_some (get m c.args.key)) c.self.view_is) ∙ ap is_some (get-by _ key_ties c.self.inside.tiles.entries c.args.key)
    ∙ sym c.contains_key.ensures ∙ c.if-contains_key.false)
    c.in_ok-tile.ensures
    (inserted _ key_ties c.self.inside.tiles.entries c.insert.new.self.entries c.args.key c.in_ok-tile.tile c.in_ok-insert.ensures.updates.0
    ∙ ap (λ m. insert m c.args.key c.in_ok-tile.tile) c.self.view_is)
