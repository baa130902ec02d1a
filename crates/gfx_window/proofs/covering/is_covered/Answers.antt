use Rattle.std.proofs.Common.{arith, sym, ◌∙◌}
use Rattle.gfx_window.proofs.CoverLoops.{covers-here, stops-here, goes-on, none-left}
use Rattle.gfx_window.proofs.covering.is_covered.Goals as goal

pub returns-then-covers : goal.returns-then-covers
returns-then-covers c =
    covers-here c.args.script.now c.args.write c.args.items.now c.items.item-index _ _ (omega arith) (sym c.if-covers.true ∙ c.covers.ensures) c.items.invariant

pub returns-then-not-stands_aside : goal.returns-then-not-stands_aside
returns-then-not-stands_aside c =
    stops-here c.args.script.now c.args.write c.args.items.now c.items.item-index _ _ (omega arith) (sym c.if-covers.false ∙ c.covers.ensures)
    (sym c.if-not-stands_aside.true ∙ c.stands_aside.ensures) c.items.invariant

pub items-preserved : goal.items-preserved
items-preserved c =
    goes-on c.args.script.now c.args.write c.args.items.now c.items.item-index _ _ (omega arith) (sym c.if-covers.false ∙ c.covers.ensures)
    (sym c.if-not-stands_aside.false ∙ c.stands_aside.ensures) c.items.invariant

pub returns : goal.returns
returns c = none-left c.args.script.now c.args.write c.args.items.now c.items.item-index _ (omega arith) c.items.invariant
