use Rattle.std.proofs.Common.{◌∙◌, [], ap, sym}
use Rattle.std.specs.Prelude.{fold}
use Rattle.gfx_prog_decode.proofs.Ties.{key_ties}
use Rattle.gfx_prog_live.proofs.Raising.{all_raisable, noting}
use Rattle.gfx_prog_live.proofs.Visiting.{lists_by}
use Rattle.gfx_prog_live.proofs.live.LiveTiles.raisable.Goals as goal

pub returns : goal.returns
returns c =
    all_raisable _ key_ties c.args.self.now c.len-listed.result c.self.inside.tiles.entries c.tiles.ids.items c.self.view_is c.iter-key-items.ensures.unique c.are_in_place.ensures
    (lists_by c.args.setting.now c.len-listed.result c.args.self.now c.len-listed.ensures.value c.requires.one_setting)
    (ap (fold (noting c.len-listed.result) c.tiles.ids.items) (sym c.in-None.ensures.steps.0) ∙ c.tiles.invariant
    ∙ ap (fold (noting c.len-listed.result) []) (c.into_iter-key-iterator.ensures.into_iter_gives ∙ c.iter-key-items.ensures.rest))
