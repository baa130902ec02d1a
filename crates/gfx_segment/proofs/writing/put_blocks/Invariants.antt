use Rattle.std.proofs.Common.{◌-◌, ◌++◌}
use Rattle.gfx_segment.specs.declared.profile.TheConstants.{MOST_BLOCK}
use Rattle.gfx_segment.proofs.WrapLemmas.{Sent}
use Rattle.gfx_segment.proofs.writing.put_blocks.Given as goal

abbrev pub invariant-turns : goal.invariant-turns
invariant-turns l = Sent MOST_BLOCK (l.count - l._index) l.fn.out l.out (l.head ++ l.tail) (l.head_left ++ l.tail_left) l.count
