use Rattle.std.proofs.Common.{lit<, arith}
use Rattle.gfx_dwt.proofs.Bounds.{bits_of_narrow}
use Rattle.gfx_dwt.proofs.NarrowLines.{behind_first}
use Rattle.gfx_dwt.proofs.narrow.lines.put_behind_first.Goals as goal

pub returns : goal.returns
returns c =
    behind_first c.args.places.now c.args.out.now _ _ _ (omega arith) (bits_of_narrow 8191 _ (lit< tt) (c.requires.places 0 (omega arith))) c.copy_from_slice.ensures.after
