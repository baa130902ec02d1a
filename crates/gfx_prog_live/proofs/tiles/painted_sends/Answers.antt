use Rattle.std.proofs.Common.{arith}
use Rattle.gfx_prog_live.proofs.Making.{one_sent}
use Rattle.gfx_prog_live.proofs.tiles.painted_sends.Goals as goal

pub cells-preserved : goal.cells-preserved
cells-preserved c = λ drawing there.
    one_sent c.args.script.now c.args.live.now c.args.id drawing c.args.rect c.met-cells.result c.cells.place c.at-cell.result _ c.in_ok-send_over.field-0
    c.cells.sends.items c.push.new.self.items (omega arith) c.at-cell.ensures.value c.get-before.ensures (c.in_ok-send_over.ensures drawing there)
    c.in_ok-push.ensures.items (c.cells.invariant drawing there)
