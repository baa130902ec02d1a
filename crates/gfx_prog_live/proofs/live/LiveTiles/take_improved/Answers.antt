use Rattle.std.proofs.Common.{arith}
use Rattle.gfx_prog_live.proofs.Visiting.{all_visited, none_to_take, one_visited}
use Rattle.gfx_prog_live.proofs.live.LiveTiles.take_improved.Goals as goal

pub places-preserved-in-Continue-branch-2 : goal.places-preserved-in-Continue-branch-2
places-preserved-in-Continue-branch-2 c =
    one_visited c.args.id c.len-listed.result c.sized.result c.met-cells.result c.args.self.now c.places.self c.take_raised.new.self c.places.sends.items c.push.new.self.items
    c.places.place-iterator.rest.items c.in-Some.place c.next.new.self.rest.items c.at.result c.in-Some-take_raised.send
    c.met-cells.ensures c.in-Some.ensures.steps.0 c.at.ensures.value c.in-Some-take_raised.ensures.value c.in-Some-take_raised.ensures.left c.in_ok-push.ensures.items c.places.invariant

pub places-preserved : goal.places-preserved
places-preserved c =
    none_to_take c.args.id c.len-listed.result c.met-cells.result c.args.self.now c.places.self c.take_raised.new.self c.places.sends.items
    c.places.place-iterator.rest.items c.in-Some.place c.next.new.self.rest.items c.at.result
    c.in-Some.ensures.steps.0 c.at.ensures.value c.in_default.ensures.value c.in_default.ensures.left c.places.invariant

pub returns-clause-value : goal.returns-clause-value
returns-clause-value c =
    all_visited c.args.id c.len-listed.result c.args.width c.args.height c.sized.result c.met-cells.result c.args.self.now c.places.self c.places.sends.items c.places.place-iterator.rest.items
    c.sized.ensures c.met-cells.ensures (omega (arith, c.in-None.ensures.steps, c.places.place-iterator.rest.ok)) c.places.invariant
