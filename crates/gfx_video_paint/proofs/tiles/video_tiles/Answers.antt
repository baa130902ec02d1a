use Rattle.std.proofs.Common.{arith}
use Rattle.gfx_video_paint.proofs.Making.{one_made}
use Rattle.gfx_video_paint.proofs.tiles.video_tiles.Goals as goal

pub squares-preserved : goal.squares-preserved
squares-preserved c = (
  omega (arith, c.squares.invariant.0),
  λ drawing there.
      one_made c.args.script.now.setting drawing c.args.squares.now c.args.from c.squares.place c.at-square.result c.in_ok-tile_of.field-0 c.squares.tiles c.push.new.self
      c.squares.invariant.0 (omega arith) c.at-square.ensures.value (c.in_ok-tile_of.ensures drawing there) c.in_ok-push.ensures.ok (c.squares.invariant.1 drawing there),
)
