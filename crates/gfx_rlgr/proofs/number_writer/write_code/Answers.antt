use Rattle.std.proofs.Common.{◌∙◌, ◌++◌, ap, replicate, true}
use Rattle.std.proofs.lemmas.Result.{on_ok_weaker}
use Rattle.gfx_rlgr.proofs.Encoding.{number-written}
use Rattle.gfx_rlgr.proofs.Codes.{short-written}
use Rattle.gfx_rlgr.proofs.number_writer.write_code.Goals as goal

pub returns-then-ones-lt-FEW_ONES : goal.returns-then-ones-lt-FEW_ONES
returns-then-ones-lt-FEW_ONES c =
    on_ok_weaker c.push.result
    (short-written c.args.bits.now c.push.new.self c.args.ones c.args.low c.args.number c.short_code.result c.requires.ones c.short_code.ensures.bits)
    c.push.ensures.ok

pub returns : goal.returns
returns c =
    on_ok_weaker c.push-3.result
    (number-written c.args.bits.now c.push_ones.new.self c.push-2.new.self c.push-3.new.self c.args.low c.args.number c.requires.low
    (c.in_ok-push_ones.ensures.ok ∙ ap (λ n. c.args.bits.now ++ replicate n true) c.requires.ones) c.in_ok-push.ensures.ok)
    c.push-3.ensures.ok
