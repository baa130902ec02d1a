use Rattle.gfx_segment.specs.Framing.{prefixed}
use Rattle.gfx_segment.proofs.PutLemmas.{puts_piece, puts_after}
use Rattle.gfx_segment.proofs.writing.put_prefixed.Goals as goal

pub returns : goal.returns
unfolding prefixed
returns c = puts_after _ _ _ _ _ _ c.in_ok-put_length.ensures.ok (puts_piece _ _ _ _ c.append.ensures.ok c.append.ensures.err)
