use Rattle.std.proofs.Common.{◌∙◌, ap, drop, suc, ◌*◌, ◌^◌, ◌%◌, ◌+◌}
use Rattle.gfx_bits.specs.Bits.{number, ones}
use Rattle.gfx_rlgr.proofs.Reading.{reads-number}
use Rattle.gfx_rlgr.proofs.number_reader.read_number.Goals as goal

pub returns : goal.returns
returns c =
    reads-number c.args.bits.now c.read_ones_then-ones.new.self c.args.params.now c.after_ones.new.self c.read_ones_then-ones.result.0 c.read_ones_then-ones.result.1 _
    c.requires
    c.read_ones_then-ones.ensures.count
    (c.read_ones_then-ones.ensures.value ∙ ap (λ n. number n (drop (suc (ones c.args.bits.now)) c.args.bits.now)) c.kr-kr.ensures)
    (c.read_ones_then-ones.ensures.rest ∙ ap (λ n. drop n (drop (suc (ones c.args.bits.now)) c.args.bits.now)) c.kr-kr.ensures)
    c.after_ones.ensures
    (ap (λ n. c.read_ones_then-ones.result.0 * 2 ^ n % 2 ^ 64 + c.read_ones_then-ones.result.1) c.kr-kr.ensures)
