use Rattle.std.proofs.Common.{sym, arith}
use Rattle.gfx_clear.proofs.Alone.{raw_whole, palette_whole}
use Rattle.gfx_clear.proofs.whole.whole_area.Goals as goal

pub returns-in-0 : goal.returns-in-0
returns-in-0 c =
    raw_whole c.args.width c.args.height c.args.bytes.now c.split_at.result.1 c.in-Ok.area (omega (arith, c.in-Ok.ensures.within)) (sym c.in-Ok.ensures.area) (c.covers_all.ensures c.if-not-covers_all.false) c.split_at.ensures.back c.in-0.is

pub returns-in-2 : goal.returns-in-2
returns-in-2 c =
    palette_whole c.args.width c.args.height c.args.bytes.now c.split_at.result.1 c.in-Ok.area (omega (arith, c.in-Ok.ensures.within)) (sym c.in-Ok.ensures.area) (c.covers_all.ensures c.if-not-covers_all.false) c.split_at.ensures.back c.in-2.is
