use Rattle.gfx_generator.specs.Script.{script_text, script}
use Rattle.gfx_generator.proofs.Joining.{five_joined}
use Rattle.gfx_generator.proofs.script.make_script.Goals as goal

pub returns : goal.returns
unfolding script_text script
returns c =
    let head = rw c.new-text.ensures at c.in_ok-put_head.ensures in
    let frames = rw c.new-generator.ensures at c.in_ok-put_frames.ensures.text in
    let rounds = rw (c.in_ok-put_frames.ensures.state, c.new-generator.ensures) at c.in_ok-put_rounds.ensures.text in
    five_joined _ _ _ _ _ _ _ _ _ _ head frames c.in_ok-append.ensures.ok rounds c.in_ok-append-2.ensures.ok
