use Rattle.std.proofs.Common.{◌≡◌, ◌∙◌, ap, sym, length, Some, rules}
use Rattle.std.specs.Option.{option_map}
use Rattle.gfx_base.proofs.MapLemmas.{next_some, next_none}
use Rattle.gfx_base.proofs.Streams.{Sent_all}
use Rattle.gfx_report.specs.Audit.{slot_line, slot_lines}
use Rattle.gfx_report.proofs.StateEntries.{bytes_from-zero, none_left, entries_fewer, next_shown, slot_next}
use Rattle.gfx_report.proofs.Writing.{Sent_nothing, Sent_as, Sent_front, Sent_broken, Writes_failed}
use Rattle.gfx_report.proofs.slots.write_filled.Goals as goal

pub slots-init : goal.slots-init
unfolding slot_lines
slots-init g c = Sent_nothing _ _ _ _ (bytes_from-zero slot_line _)

pub unwrap-key-requires : goal.unwrap-key-requires
unwrap-key-requires g c =
    let next = next_some _ _ _ (sym c.in-Some.ensures.next) in
    let there : c.key.result ≡ Some next.value.key = c.key.ensures ∙ ap (option_map (λ held. held.key)) next.found in
    search rules

pub unwrap-bitmap-requires : goal.unwrap-bitmap-requires
unwrap-bitmap-requires g c = next_shown _ _ _ _ c.next_slot.ensures.kept c.in-Some.ensures.next c.show.ensures

pub returns-in_err-write_slot : goal.returns-in_err-write_slot
returns-in_err-write_slot g c =
    let next = slot_next slot_line _ _ _ _ _ _ _ c.next_slot.ensures.kept c.in-Some.ensures.next c.key.ensures c.unwrap-key.ensures
    c.show.ensures c.unwrap-bitmap.ensures in
    let due = Sent_as _ _ _ _ next c.slots.invariant in
    Writes_failed c.from_residual.result _ _ c.from_residual.ensures.0
    (Sent_broken _ _ _ _ _ _ _ _ _ due c.in_err-write_slot.ensures)

pub slots-smaller : goal.slots-smaller
slots-smaller g c = entries_fewer _ _ _ (sym c.in-Some.ensures.next)

pub slots-preserved : goal.slots-preserved
slots-preserved g c =
    let next = slot_next slot_line _ _ _ _ _ _ _ c.next_slot.ensures.kept c.in-Some.ensures.next c.key.ensures c.unwrap-key.ensures
    c.show.ensures c.unwrap-bitmap.ensures in
    let due = Sent_as _ _ _ _ next c.slots.invariant in
    Sent_front _ _ _ _ _ _ _ _ _ due c.in_ok-write_slot.ensures

pub returns : goal.returns
returns g c = Sent_all _ _ _ c.slots.invariant (ap length (none_left slot_line _ _ (next_none _ _ (sym c.in_default.ensures.next))))
