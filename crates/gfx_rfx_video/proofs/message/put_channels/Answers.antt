use Rattle.gfx_rfx_video.proofs.Texts.{channels-put}
use Rattle.gfx_rfx_video.proofs.message.put_channels.Goals as goal

pub returns : goal.returns
returns c =
    channels-put c.args.width c.args.height c.args.out.now c.put_frame.new.out c.append.new.self c.put.new.out c.put-2.new.out (rw c.number.ensures at c.in_ok-put_frame.ensures) c.in_ok-append.ensures.ok
    c.in_ok-put.ensures.ok c.in_ok-put-2.ensures.ok
