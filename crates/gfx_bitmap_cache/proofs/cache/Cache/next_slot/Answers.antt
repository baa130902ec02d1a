use Rattle.std.proofs.Common.{◌^◌, ◌∙◌, ap, sym, subst}
use Rattle.std.specs.FinMap.{entries}
use Rattle.gfx_bitmap_cache.specs.Slots.{IsCached}
use Rattle.gfx_bitmap_cache.specs.Order.{from_slot, first_slot}
use Rattle.gfx_bitmap_cache.proofs.Ordered.{from_slot-between, entries-from_entries}
use Rattle.gfx_base.proofs.MapLemmas.{from_key-past}
use Rattle.gfx_bitmap_cache.proofs.Sound.{slots_below}
use Rattle.gfx_bitmap_cache.proofs.cache.Cache.next_slot.Goals as goal

pub returns-in-Some-clause-next : goal.returns-in-Some-clause-next
returns-in-Some-clause-next c =
    ap first_slot (sym c.in-Some.ensures.steps ∙ c.range.ensures.between tt ∙ from_slot-between c.args.from c.self.inside.slots.entries)
    ∙ ap (λ es. first_slot (from_slot c.args.from es)) (sym (entries-from_entries c.self.inside.slots.entries c.range.ensures.ordered))
    ∙ ap (λ a. first_slot (from_slot c.args.from (entries a.slots))) c.self.view_is

pub returns-in-Some-clause-past : goal.returns-in-Some-clause-past
returns-in-Some-clause-past c =
    from_key-past (2 ^ 16) c.args.self.now.slots (slots_below c.args.self.now (subst IsCached c.self.view_is c.self.invariant.kept))

pub returns-in-None-clause-next : goal.returns-in-None-clause-next
returns-in-None-clause-next c =
    ap first_slot (sym c.in-None.ensures.steps.0 ∙ c.range.ensures.between tt ∙ from_slot-between c.args.from c.self.inside.slots.entries)
    ∙ ap (λ es. first_slot (from_slot c.args.from es)) (sym (entries-from_entries c.self.inside.slots.entries c.range.ensures.ordered))
    ∙ ap (λ a. first_slot (from_slot c.args.from (entries a.slots))) c.self.view_is

pub returns-in-None-clause-past : goal.returns-in-None-clause-past
returns-in-None-clause-past c =
    from_key-past (2 ^ 16) c.args.self.now.slots (slots_below c.args.self.now (subst IsCached c.self.view_is c.self.invariant.kept))
