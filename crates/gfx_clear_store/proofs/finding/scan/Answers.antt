use Rattle.std.proofs.Common.{◌∙◌, sym}
use Rattle.gfx_clear_store.proofs.Walks.{scan_here, scan_none}
use Rattle.gfx_clear_store.proofs.finding.scan.Goals as goal

pub returns-then-stands-clause-least : goal.returns-then-stands-clause-least
returns-then-stands-clause-least g c =
    scan_here c.args.slots.now c.args.pixels.now c.places.place c.index-slots-place.result c.places-test.true c.index-slots-place.is
    (sym c.stands.ensures ∙ c.if-stands.true) c.places.invariant

pub returns-clause-least : goal.returns-clause-least
returns-clause-least g c = scan_none c.args.slots.now c.args.pixels.now c.places.place c.places-test.false c.places.invariant
