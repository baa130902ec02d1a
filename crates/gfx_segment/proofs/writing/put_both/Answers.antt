use Rattle.gfx_segment.proofs.PutLemmas.{puts_piece, puts_after}
use Rattle.gfx_segment.proofs.writing.put_both.Goals as goal

pub returns : goal.returns
returns c = puts_after _ _ _ _ _ _ c.in_ok-append.ensures.ok (puts_piece _ _ _ _ c.append-2.ensures.ok c.append-2.ensures.err)
