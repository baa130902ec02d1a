use Rattle.gfx_generator.specs.Script.{head_text}
use Rattle.gfx_generator.proofs.Joining.{on_ok, three_joined}
use Rattle.gfx_generator.proofs.script.put_head.Goals as goal

pub returns : goal.returns
unfolding head_text
returns c =
    let line = rw (c.as_slice.ensures, c.noise_line.ensures) at c.in_ok-append-2.ensures.ok in
    on_ok c.append-3.result c.append-3.ensures.ok (three_joined _ _ _ _ _ _ _ c.in_ok-append.ensures.ok line)
