use Rattle.std.proofs.Common.{◌∙◌, ap, not}
use Rattle.gfx_bitmap_cache.specs.declared.limits.TheConstants.{MOST_SLOTS}
use Rattle.gfx_bitmap_cache.specs.Slots.{Cached, takes_slot}
use Rattle.gfx_planner.proofs.BitmapStarts.{small-by}
use Rattle.gfx_planner.proofs.planner.Planner.has_small_cache.Goals as goal

pub returns : goal.returns
returns c =
    ap not c.takes_slot.ensures ∙ ap (λ (z : Cached). not (takes_slot z.small MOST_SLOTS)) c.cache.ensures ∙ small-by c.args.self.now.server.state.cache.small
