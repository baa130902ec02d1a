use Rattle.gfx_rfx_video.proofs.Texts.{begin-put}
use Rattle.gfx_rfx_video.proofs.message.put_begin.Goals as goal

pub returns : goal.returns
returns c =
    begin-put c.args.index c.args.out.now c.put_frame.new.out c.append.new.self c.put.new.out c.append-2.new.self (rw c.number.ensures at c.in_ok-put_frame.ensures) c.in_ok-append.ensures.ok
    c.in_ok-put.ensures.ok c.in_ok-append-2.ensures.ok
