use Rattle.std.proofs.Common.{◌≡◌, ◌-◌}
use Rattle.gfx_segment.specs.Framing.{blocks}
use Rattle.gfx_segment.specs.Pieces.{onto}
use Rattle.gfx_segment.proofs.blocks.append_blocks.Given as goal

abbrev pub invariant-turns : goal.invariant-turns
invariant-turns l = onto l.fn.payload (blocks l.count l.fn.bytes) ≡ onto l.payload (blocks (l.count - l._index) l.rest)
