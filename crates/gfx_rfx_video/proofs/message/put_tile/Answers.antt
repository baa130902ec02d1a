use Rattle.std.proofs.Common.{◌++◌, ◌∙◌, arith}
use Rattle.gfx_rfx_video.specs.Message.{coded_text}
use Rattle.gfx_rfx_video.proofs.Texts.{tile-put}
use Rattle.gfx_rfx_video.proofs.message.put_tile.Goals as goal

pub returns : goal.returns
returns c =
    tile-put c.args.head c.as_slice-y.result.now c.as_slice-cb.result.now c.as_slice-cr.result.now c.args.out.now c.put_frame.new.out c.put.new.out c.put_items.new.out c.put_bytes.new.out c.put_bytes-2.new.out
    c.put_bytes-3.new.out _ (omega arith) c.in_ok-put_frame.ensures c.in_ok-put.ensures.ok c.in_ok-put_items.ensures.ok c.in_ok-put_bytes.ensures.ok c.in_ok-put_bytes-2.ensures.ok c.in_ok-put_bytes-3.ensures.ok
    ∙ (λ i. c.args.out.now ++ coded_text c.args.head (record { y = c.as_slice-y.ensures i; cb = c.as_slice-cb.ensures i; cr = c.as_slice-cr.ensures i }))
