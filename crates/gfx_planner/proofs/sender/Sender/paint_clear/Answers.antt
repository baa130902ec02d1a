use Rattle.std.proofs.Common.{◌≡◌, Some, rules}
use Rattle.std.specs.FinMap.{get}
use Rattle.gfx_base.specs.Format.{byte_of}
use Rattle.gfx_planner.proofs.MessageSending.{clear_sends}
use Rattle.gfx_planner.proofs.sender.Sender.paint_clear.Goals as goal

pub returns : goal.returns
returns c =
    let there : get c.self.inside.state.shown.surfaces c.args.id ≡ Some c.in-Some.surface.now = search rules in
    let byte : c.byte-format.result ≡ byte_of c.in-Some.surface.now.format = search rules in
    rw (c.put_out.ensures.state, ← c.self.view_is) (clear_sends c.put_out.result c.self.inside.state c.paint_clear.new.self c.args.id c.in-Some.surface.now c.args.rect c.args.pixels.now c.args.layer c.args.glyph
    c.id.result c.byte-format.result c.in_ok-payload.payload c.args.out.now c.put_out.new.out (get c.self.inside.state.shown.surfaces c.args.id) there c.id.ensures byte
    c.in_ok-payload.ensures.sent c.in_ok-payload.ensures.step c.put_out.ensures.ok c.put_out.ensures.err)
