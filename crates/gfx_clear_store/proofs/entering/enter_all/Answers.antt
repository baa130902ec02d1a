use Rattle.std.proofs.Common.{arith}
use Rattle.gfx_clear_store.proofs.Entered.{all_entered, one_entered}
use Rattle.gfx_clear_store.proofs.entering.enter_all.Goals as goal

pub steps-preserved : goal.steps-preserved
steps-preserved g c = record {
  latest = c.enter_slot.ensures.homes;
  earlier = c.enter_slot.ensures.places;
  index = one_entered c.args.count c.args.cursor c.args.slots.now c.steps.step c.turned-place.result c.from.result c.index-slots-from.result
      c.steps.index.latest.items c.steps.index.earlier.items c.enter_slot.new.index.latest.items c.enter_slot.new.index.earlier.items
      c.requires.slots c.requires.cursor c.steps.invariant.latest c.steps.invariant.earlier c.turned-place.ensures.within c.turned-place.ensures.order c.from.ensures
      c.index-slots-from.is c.enter_slot.ensures.latest c.enter_slot.ensures.earlier c.steps.invariant.index;
}

pub returns-clause-index : goal.returns-clause-index
returns-clause-index g c =
    all_entered c.args.count c.args.cursor c.steps.step c.args.slots.now c.steps.index.latest.items c.steps.index.earlier.items c.requires.slots (omega arith) c.steps.invariant.index
