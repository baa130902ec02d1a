use Rattle.std.proofs.Common.{sym, arith}
use Rattle.gfx_base.proofs.MapLemmas.{next_none}
use Rattle.gfx_report.proofs.Counts.{no_key_counted, key_counted, keys_counted}
use Rattle.gfx_report.proofs.StateEntries.{entries_fewer, next_within}
use Rattle.gfx_report.proofs.slots.count_filled.Goals as goal

pub slots-init : goal.slots-init
slots-init c = record { few = omega arith; counted = no_key_counted c.args.cache.now.slots }

pub overflow_add-count : goal.overflow_add-count
overflow_add-count c =
    let within = next_within _ _ _ c.next_slot.ensures.kept c.in-Some.ensures.next in
    omega (arith, within.0, within.1)

pub overflow_add-from : goal.overflow_add-from
overflow_add-from c =
    let within = next_within _ _ _ c.next_slot.ensures.kept c.in-Some.ensures.next in
    omega (arith, within.1)

pub slots-smaller : goal.slots-smaller
slots-smaller c = entries_fewer _ _ _ (sym c.in-Some.ensures.next)

pub slots-preserved : goal.slots-preserved
slots-preserved c = record {
  few =
      let within = next_within _ _ _ c.next_slot.ensures.kept c.in-Some.ensures.next in
      omega (arith, within.0);
  counted = key_counted c.args.cache.now.slots _ _ _ (sym c.in-Some.ensures.next) c.slots.invariant.counted;
}

pub returns : goal.returns
returns c = keys_counted c.args.cache.now.slots _ _ (next_none _ _ (sym c.in_default.ensures.next)) c.slots.invariant.counted
