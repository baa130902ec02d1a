use Rattle.std.proofs.Common.{arith}
use Rattle.gfx_rfx_video.proofs.Texts.{set-put}
use Rattle.gfx_rfx_video.proofs.message.put_set.Goals as goal

pub returns : goal.returns
returns c =
    set-put c.args.mode c.args.setting.now c.args.count c.args.texts.now c.args.out.now c.put_frame.new.out c.append.new.self c.put.new.out c.put_items.new.out c.put_bytes.new.out _ (omega arith)
    (rw c.number.ensures at c.in_ok-put_frame.ensures) c.in_ok-append.ensures.ok (rw c.set_properties.ensures at c.in_ok-put.ensures.ok)
    (rw (c.new.ensures, c.new-2.ensures, c.new-3.ensures) at c.in_ok-put_items.ensures.ok) c.in_ok-put_bytes.ensures.ok
