use Rattle.std.proofs.Common.{◌∙◌, arith}
use Rattle.gfx_prog_live.proofs.Taking.{none_to_keep, one_kept}
use Rattle.gfx_prog_live.proofs.live.LiveTiles.keep_all.Goals as goal

pub sends-preserved : goal.sends-preserved
sends-preserved c =
    one_kept c.args.id c.sends.send-iterator.rest.items c.next.new.self.rest.items c.in-Some.send c.sends.self c.keep.new.self _
    c.in-Some.ensures.steps.0 c.in_ok-keep.ensures c.sends.invariant

pub returns : goal.returns
returns c =
    none_to_keep c.args.id c.sends.send-iterator.rest.items c.sends.self (omega (arith, c.in-None.ensures.steps, c.sends.send-iterator.rest.ok)) ∙ c.sends.invariant
