use Rattle.std.proofs.Common.{arith, ap, length, List, Bool, length-drop}
use Rattle.gfx_bits.specs.Bits.{bits_of}
use Rattle.gfx_bits.proofs.Laws.{spelled-drop, length-bits_of}
use Rattle.gfx_rlgr.specs.Code.{start}
use Rattle.gfx_rlgr.specs.Rlgr.{codes}
use Rattle.gfx_rlgr.proofs.Filling.{begun, goes-on, filled-reading, further}
use Rattle.gfx_rlgr.proofs.decoder.fill.Goals as goal

pub returns : goal.returns
returns c = filled-reading c.args.mode _ _ _ _ _ _ c.tokens.invariant c.tokens-test.false

pub tokens-init : goal.tokens-init
tokens-init c = rw (c.new-bits.ensures, c.start-params.ensures) (begun c.args.mode 4096 _ c.clear.new.out c.clear.ensures)

pub tokens-preserved : goal.tokens-preserved
tokens-preserved c = rw c.higher-most.ensures (goes-on c.args.mode 4096 _ _ _ _ _ _ _ _ _ _ _ _ c.tokens.invariant c.tokens-test.true c.read_token-terms.ensures c.place-next.ensures)

pub tokens-smaller : goal.tokens-smaller
tokens-smaller c =
    let on = further c.args.mode 4096 _ _ _ _ _ _ _ _ _ _ _ _ c.tokens.invariant c.tokens-test.true c.read_token-terms.ensures c.place-next.ensures in
    omega (arith, on.0, on.1)

pub read_token-terms-requires-clause-count : goal.read_token-terms-requires-clause-count
read_token-terms-requires-clause-count c =
    let so_far = c.tokens.invariant in
    let bits : List Bool = bits_of c.args.bytes.now in
    let code : List Bool = codes start so_far.tokens in
    omega (arith, ap length (spelled-drop bits code c.tokens.bits so_far.spelled), length-drop (length code) bits, length-bits_of c.args.bytes.now)
