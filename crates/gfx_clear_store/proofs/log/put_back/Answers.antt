use Rattle.std.proofs.Common.{◌<◌, length, subst, ◌∙◌, arith, rules}
use Rattle.gfx_clear_store.specs.Undoing.{AreWithin}
use Rattle.gfx_clear_store.proofs.Undone.{put_back_step, AreWithin-last}
use Rattle.gfx_clear_store.proofs.log.put_back.Goals as goal

pub bounds-slots-from : goal.bounds-slots-from
bounds-slots-from g c =
    let below = AreWithin-last (length c.entries.slots) c.pop.new.self.items _ _ (subst (AreWithin (length c.entries.slots)) (c.in-Some.ensures.items) c.entries.invariant.within) in
    omega arith

pub entries-preserved : goal.entries-preserved
entries-preserved g c =
    let step = put_back_step c.entries.entries.items c.pop.new.self.items c.in-Some.place c.from.result c.in-Some.slot c.entries.slots c.in-Some.ensures.items c.from.ensures c.entries.invariant.within in
    record { same = step.0 ∙ c.entries.invariant.same; within = step.1; room = c.pop.ensures.capacity ∙ c.entries.invariant.room }

pub offset_bounds-slots-from : goal.offset_bounds-slots-from
offset_bounds-slots-from g c =
    let below = AreWithin-last (length c.entries.slots) c.pop.new.self.items _ _ (subst (AreWithin (length c.entries.slots)) (c.in-Some.ensures.items) c.entries.invariant.within) in
    let low : c.from.result < length c.entries.slots = omega arith in
    search rules
