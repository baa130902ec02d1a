use Rattle.std.proofs.Common.{◌∙◌, ap, sym}
use Rattle.std.specs.FinMap.{get}
use Rattle.gfx_bitmap_cache.proofs.Maps.{get-lookup}
use Rattle.gfx_bitmap_cache.proofs.cache.Cache.filled.Goals as goal

pub returns : goal.returns
returns c =
    c.get.ensures.value ∙ sym (get-lookup c.self.inside.slots.entries c.args.slot)
    ∙ ap (λ a. get a.slots c.args.slot) c.self.view_is
