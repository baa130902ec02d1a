use Rattle.std.proofs.Common.{length, arith}
use Rattle.gfx_clear_bands.specs.Bars.{colours}
use Rattle.gfx_clear.proofs.Alone.{raw_painted}
use Rattle.gfx_clear.proofs.whole.paint_raw.Goals as goal

pub returns : goal.returns
returns c = (colours (length c.args.out.now) c.args.bytes.now, raw_painted (length c.args.out.now) c.args.bytes.now (omega arith), c.paint_colours.ensures)
