use Rattle.std.proofs.Common.{◌∙◌}
use Rattle.gfx_script_text.proofs.RawPixels.{raw_next, raw_end}
use Rattle.gfx_script_text.proofs.pictures.pixels_in.Goals as goal

pub pixels-preserved : goal.pixels-preserved
pixels-preserved c = rw c.in_ok-push.ensures.items (raw_next c.args.bytes.now c.pixels.i c.pixels.pixels.items _ c.pixels-test.true c.pixels.invariant)

pub returns : goal.returns
returns c = c.from_vec.ensures ∙ raw_end c.args.bytes.now c.pixels.i c.pixels.pixels.items _ c.pixels-test.false c.pixels.invariant
