use Rattle.std.proofs.Common.{◌≡◌, ◌∙◌, ap, sym, Some, rules}
use Rattle.std.specs.Option.{option_map}
use Rattle.gfx_base.proofs.MapLemmas.{next_some, next_none}
use Rattle.gfx_report.specs.StateBytes.{slot_bytes, slots_bytes}
use Rattle.gfx_report.proofs.TookLemmas.{Owes_all, Owes_front}
use Rattle.gfx_report.proofs.StateEntries.{bytes_from-zero, entries_fewer, none_due, next_shown, slot_due}
use Rattle.gfx_report.proofs.state.add_slots.Goals as goal

pub slots-init : goal.slots-init
unfolding slots_bytes
slots-init c = Owes_all _ _ _ (bytes_from-zero slot_bytes _)

pub unwrap-key-requires : goal.unwrap-key-requires
unwrap-key-requires c =
    let next = next_some _ _ _ (sym c.in-Some.ensures.next) in
    let there : c.key.result ≡ Some next.value.key = c.key.ensures ∙ ap (option_map (λ held. held.key)) next.found in
    search rules

pub unwrap-bitmap-requires : goal.unwrap-bitmap-requires
unwrap-bitmap-requires c = next_shown _ _ _ _ c.next_slot.ensures.kept c.in-Some.ensures.next c.show.ensures

pub slots-smaller : goal.slots-smaller
slots-smaller c = entries_fewer _ _ _ (sym c.in-Some.ensures.next)

pub slots-preserved : goal.slots-preserved
slots-preserved c =
    let due = slot_due _ _ _ _ _ _ _ _ _ _ c.next_slot.ensures.kept c.in-Some.ensures.next c.key.ensures c.unwrap-key.ensures
    c.show.ensures c.unwrap-bitmap.ensures c.slots.invariant in
    Owes_front _ _ _ _ _ _ due c.add_slot.ensures

pub returns : goal.returns
returns c = none_due slot_bytes _ _ _ _ _ (next_none _ _ (sym c.in_default.ensures.next)) c.slots.invariant
