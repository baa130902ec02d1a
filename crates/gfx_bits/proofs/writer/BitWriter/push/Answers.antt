use Rattle.std.proofs.Common.{◌+◌, ◌-◌, ◌*◌, ◌/◌, ◌%◌, ◌^◌, ◌<◌, ◌∙◌, ◌++◌, ap, arith, ℕ}
use Rattle.std.specs.Prelude.{bit_or, bit_and}
use Rattle.gfx_bits.specs.Bits.{digits, bits_of}
use Rattle.gfx_bits.proofs.Writing.{all_is, all_below, kept, pushed, word_high}
use Rattle.gfx_bits.proofs.writer.BitWriter.push.Goals as goal

pub invariant_of-self : goal.invariant_of-self
invariant_of-self c = (
  c.if-count-lt-WORD.true,
  rw (all_is c.self.inside.pending c.args.n c.args.value c.self.inside.count c.self.invariant.1 c.requires.below (omega arith))
      (all_below c.self.inside.pending c.args.n c.args.value c.self.inside.count c.self.invariant.1 c.requires.below),
  c.self.invariant.2,
)

pub returns-then-count-lt-WORD-clause-ok : goal.returns-then-count-lt-WORD-clause-ok
returns-then-count-lt-WORD-clause-ok c =
    kept c.self.inside.bytes.items c.args.self.now c.self.inside.pending c.args.n c.args.value c.self.inside.count c.self.invariant.1 c.requires.below (omega arith) c.self.view_is

pub overflow_cast-word-2 : goal.overflow_cast-word-2
overflow_cast-word-2 c =
    let fits : bit_or (c.self.inside.pending * 2 ^ c.args.n % 2 ^ 64) c.args.value / 2 ^ (c.self.inside.count + c.args.n - 32) < 2 ^ 32 =
    word_high c.self.inside.pending c.args.n c.args.value c.self.inside.count c.self.invariant.1 c.requires.below c.if-count-lt-WORD.false (omega arith) in
    omega arith

pub returns-clause-ok : goal.returns-clause-ok
returns-clause-ok c =
    let rest : ℕ = c.self.inside.count + c.args.n - 32 in
    let all : ℕ = bit_or (c.self.inside.pending * 2 ^ c.args.n % 2 ^ 64) c.args.value in
    ap (λ items. bits_of items ++ digits rest (bit_and all (1 * 2 ^ rest % 2 ^ 64 - 1)))
    (c.in_ok-extend_from_slice.ensures.items ∙ ap (λ bytes. c.self.inside.bytes.items ++ bytes) c.to_be_bytes.ensures)
    ∙ pushed c.self.inside.bytes.items c.args.self.now c.self.inside.pending c.args.n c.args.value c.self.inside.count
    c.self.invariant.1 c.requires.below c.if-count-lt-WORD.false (omega arith) c.self.view_is
