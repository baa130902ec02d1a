use Rattle.std.proofs.Common.{◌∙◌, arith}
use Rattle.std.proofs.lemmas.List.{get_or_default}
use Rattle.gfx_clear_store.specs.Rings.{stands}
use Rattle.gfx_clear_store.proofs.Walks.{left_first, left_next, least_next, walked, position_at, position_none, read_slot, min_most}
use Rattle.gfx_clear_store.proofs.finding.follow.Goals as goal

pub chain-init : goal.chain-init
chain-init g c =
    record {
      most = omega arith;
      held = λ no_less. absurd (omega arith);
      left = left_first c.args.count c.args.cursor c.args.slots.now c.args.pixels.now c.args.index.now.latest.items c.args.index.now.earlier.items c.from.result c.index-place.result.now
          (c.from.ensures ∙ c.home_of.ensures.home)
          (c.index-place.ensures ∙ get_or_default c.args.index.now.latest.items c.from.result c.index-place.result.now 0 (omega (arith, c.home_of.ensures.within))) c.requires.ready;
    }

pub chain-preserved : goal.chain-preserved
chain-preserved g c =
    let lesser = read_slot c.args.slots.now c.args.pixels.now c.chain.place c.from-in-chain.result c.chain.least c.lesser-least.result c.index-slots-from.result (omega arith) c.from-in-chain.ensures c.index-slots-from.is c.lesser-least.ensures in
    record {
      most = min_most _ c.chain.place c.chain.least c.lesser-least.result c.args.count lesser c.chain.invariant.most;
      held = least_next c.args.count c.args.slots.now c.args.pixels.now c.chain.least c.chain.place c.lesser-least.result c.chain-test.true lesser c.chain.invariant.held;
      left = left_next c.args.count c.args.cursor c.args.slots.now c.args.pixels.now c.args.index.now.latest.items c.args.index.now.earlier.items c.chain.least c.chain.place c.lesser-least.result c.before-place.result
          c.requires.slots c.chain-test.true c.before-place.ensures.link lesser c.requires.ready c.chain.invariant.left;
    }

pub returns-then-least-count-clause-least : goal.returns-then-least-count-clause-least
returns-then-least-count-clause-least g c =
    let e = walked c.args.count c.args.cursor c.args.slots.now c.args.pixels.now c.chain.least c.chain.place c.requires.slots c.chain-test.false c.chain.invariant.most c.chain.invariant.held c.chain.invariant.left in
    position_at c.args.slots.now (stands c.args.pixels.now) c.chain.least e (omega arith)

pub returns-else-least-count-clause-least : goal.returns-else-least-count-clause-least
returns-else-least-count-clause-least g c =
    let e = walked c.args.count c.args.cursor c.args.slots.now c.args.pixels.now c.chain.least c.chain.place c.requires.slots c.chain-test.false c.chain.invariant.most c.chain.invariant.held c.chain.invariant.left in
    position_none c.args.slots.now (stands c.args.pixels.now) c.chain.least e (omega arith)
