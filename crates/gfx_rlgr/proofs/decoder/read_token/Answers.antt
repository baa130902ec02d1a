use Rattle.std.proofs.Common.{◌∙◌, ◌<◌, arith, sym}
use Rattle.gfx_rlgr.specs.Code.{k}
use Rattle.gfx_rlgr.proofs.Reading.{run-read, with-first-bit}
use Rattle.gfx_rlgr.proofs.decoder.read_token.Goals as goal

pub returns-then-read-eq0 : goal.returns-then-read-eq0
returns-then-read-eq0 c =
    let run : 0 < k c.args.params.now = omega (arith, c.k-k.ensures) in
    rw c.k-k.ensures
    (run-read c.args.mode c.args.bits.now c.read.new.self c.args.params.now c.after_run.new.self c.requires.within run
    (sym c.read.ensures.value ∙ c.if-read-eq0.true) c.read.ensures.rest c.after_run.ensures)

pub returns : goal.returns
returns c =
    let run : 0 < k c.args.params.now = omega (arith, c.k-k.ensures) in
    with-first-bit c.args.mode c.args.bits.now c.read.new.self c.read_last_run.new.bits c.args.params.now c.read_last_run.new.params _
    (λ e. c.if-read-eq0.false (c.read.ensures.value ∙ e)) c.read.ensures.rest run (c.read_last_run.ensures c.args.mode)
