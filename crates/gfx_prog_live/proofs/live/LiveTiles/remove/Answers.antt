use Rattle.std.proofs.Common.{◌∙◌, ap, sym, subst}
use Rattle.std.specs.FinMap.{get, remove}
use Rattle.gfx_prog_decode.proofs.Keys.{get-by, removed}
use Rattle.gfx_prog_decode.proofs.Ties.{key_ties}
use Rattle.gfx_prog_live.specs.Inside.{AreInPlace}
use Rattle.gfx_prog_live.proofs.InPlace.{removed_in_place}
use Rattle.gfx_prog_live.proofs.live.LiveTiles.remove.Goals as goal

pub invariant_of-self : goal.invariant_of-self
invariant_of-self c =
    subst AreInPlace (sym (removed _ key_ties c.self.inside.tiles.entries c.swap_remove.new.self.entries c.cell_key.result c.swap_remove.ensures.updates.0))
    (removed_in_place _ c.cell_key.result c.self.invariant)

pub returns-clause-value : goal.returns-clause-value
returns-clause-value c =
    c.swap_remove.ensures.value ∙ sym (get-by _ key_ties c.self.inside.tiles.entries c.cell_key.result)
    ∙ ap (λ m. get m c.cell_key.result) c.self.view_is
    ∙ ap (get c.args.self.now) c.cell_key.ensures

pub returns-clause-left : goal.returns-clause-left
returns-clause-left c =
    removed _ key_ties c.self.inside.tiles.entries c.swap_remove.new.self.entries c.cell_key.result c.swap_remove.ensures.updates.0
    ∙ ap (λ m. remove m c.cell_key.result) c.self.view_is
    ∙ ap (remove c.args.self.now) c.cell_key.ensures
