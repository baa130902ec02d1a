use Rattle.std.proofs.Common.{sym, arith}
use Rattle.std.proofs.lemmas.Result.{IfOk-weaker}
use Rattle.gfx_bits.specs.Bits.{IsPadded}
use Rattle.gfx_rlgr.specs.Rlgr.{Encodes}
use Rattle.gfx_rlgr.proofs.Encoding.{begins, covers-more, written-bytes}
use Rattle.gfx_rlgr.proofs.encoder.write.Goals as goal

pub tokens-init : goal.tokens-init
tokens-init c = rw (c.new-bits.ensures, c.start-params.ensures) (begins c.args.mode 4096 c.args.values.now)

pub tokens-preserved : goal.tokens-preserved
tokens-preserved c =
    covers-more c.args.mode 4096 c.args.values.now c.tokens.bits c.write_token.new.bits c.tokens.params c.write_token.new.params c.tokens.at c.in_ok-at.at
    (sym c.requires.count) c.tokens-test.true c.tokens.invariant c.in_ok-at.ensures

pub tokens-smaller : goal.tokens-smaller
tokens-smaller c = let step = c.in_ok-at.ensures in omega (arith, step.on.0, c.tokens-test.true)

pub returns : goal.returns
returns c =
    IfOk-weaker c.finish.result (λ bytes. IsPadded c.tokens.bits bytes.items) (λ bytes. Encodes c.args.mode c.args.values.now bytes.items)
    (λ bytes. written-bytes c.args.mode c.args.values.now c.tokens.bits c.tokens.params c.tokens.at bytes.items (sym c.requires.count) c.tokens-test.false c.tokens.invariant)
    c.finish.ensures
