use Rattle.std.proofs.Common.{◌∙◌}
use Rattle.gfx_layout.proofs.PartLists.{parts_in-next, parts_in-end, room-after}
use Rattle.gfx_layout.specs.Shape.{width}
use Rattle.gfx_layout.proofs.fields.read_parts.Goals as goal

pub parts-preserved : goal.parts-preserved
parts-preserved g c =
    let shape = g.T.Part.shape in
    let count = c.args.count in
    let i = c.parts.counter in
    let rest = c.parts.rest.now in
    record {
      so_far = rw (c.in_ok-push.ensures.items, c.split_at.ensures.back, c.SIZE.ensures, g.met.T.Part.sized, c.read.ensures) (parts_in-next shape count i c.parts.parts.items rest _ c.parts-test.true c.parts.invariant.so_far);
      room = rw (c.split_at.ensures.back, c.SIZE.ensures, g.met.T.Part.sized) (room-after (width shape) count i rest c.parts-test.true c.parts.invariant.room);
    }

pub returns : goal.returns
returns g c = c.from_vec.ensures ∙ parts_in-end g.T.Part.shape c.args.count c.parts.counter c.parts.parts.items c.parts.rest.now _ c.parts-test.false c.parts.invariant.so_far
