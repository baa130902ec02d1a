use Rattle.std.proofs.Common.{◌∙◌}
use Rattle.gfx_prog_live.proofs.Seeking.{all_sought, places_found}
use Rattle.gfx_prog_live.proofs.live.LiveTiles.places_to_raise.Goals as goal

pub returns : goal.returns
returns c =
    places_found c.args.self.now c.args.listed c.args.id c.args.width c.args.height c.self.inside.tiles.entries c.tiles.places.items c.sort_unstable.new.self.items
    c.self.view_is c.requires.levels
    (all_sought c.args.listed c.args.id c.cells_along-columns.result c.cells_along-rows.result c.args.width c.args.height c.self.inside.tiles.entries
    _ c.tiles.key-iterator c.tiles.places.items c.cells_along-columns.ensures.count c.cells_along-rows.ensures.count
    (c.into_iter-key-iterator.ensures.into_iter_gives ∙ c.iter-key-items.ensures.rest) c.in-None.ensures.steps.0 c.tiles.invariant)
    c.sort_unstable.ensures.permutation c.sort_unstable.ensures.sorted
