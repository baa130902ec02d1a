use Rattle.std.proofs.Common.{length, refl}
use Rattle.gfx_clear_runs.proofs.Painting.{both_painted}
use Rattle.gfx_clear_runs.proofs.paint.paint.Goals as goal

pub returns : goal.returns
returns c =
    let s = c.args.stretch.now in
    both_painted c.args.at s.count (length s.more.now) s.colour c.opaque.result s.more.now c.args.out.now c.paint_copies.new.out c.paint_each.new.out refl c.opaque.ensures c.paint_copies.ensures c.paint_each.ensures
