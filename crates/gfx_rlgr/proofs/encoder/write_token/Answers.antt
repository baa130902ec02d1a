use Rattle.std.proofs.Common.{rules, ◌∙◌, ◌<◌, ◌+◌, ◌^◌, ap, arith, min, length, get_or, pos}
use Rattle.std.proofs.lemmas.Int.{to_z-of_z}
use Rattle.std.proofs.lemmas.Nat.{one_shl, pow_pos}
use Rattle.std.specs.Int.{w32}
use Rattle.std.specs.Prelude.{FitsSigned}
use Rattle.gfx_rlgr.specs.Code.{k}
use Rattle.gfx_rlgr.proofs.Encoding.{covers-run, covers-last-run, run-written}
use Rattle.gfx_rlgr.proofs.encoder.write_token.Goals as goal

pub returns-then-next-end : goal.returns-then-next-end
returns-then-next-end c =
    let run : 0 < k c.args.params.now = omega (arith, c.k-width.ensures) in
    covers-run c.args.mode c.args.values.now c.args.at c.zeros_to-next.result (2 ^ k c.args.params.now) c.args.bits.now c.push.new.self c.args.params.now c.after_run.new.self
    c.requires.within c.requires.place (pow_pos (k c.args.params.now))
    (c.if-next-end.true ∙ c.min-end.ensures
    ∙ ap (λ n. min (length c.args.values.now) (c.args.at + n)) (one_shl c.k-width.result 64 (omega (arith, c.k-width.ensures, c.requires.within.kp)) ∙ ap (λ n. 2 ^ n) c.k-width.ensures))
    c.zeros_to-next.ensures.zeros
    (run-written c.args.mode c.args.bits.now c.push.new.self c.args.params.now c.after_run.new.self run c.in_ok-push.ensures.ok c.after_run.ensures)

pub returns : goal.returns
returns c =
    let fits : FitsSigned w32 (get_or c.args.values.now c.zeros_to-next.result (pos 0)) = search rules in
    covers-last-run c.args.mode c.args.values.now c.args.at c.zeros_to-next.result _ c.args.bits.now c.write_last_run.new.bits c.args.params.now c.write_last_run.new.params
    c.requires.within c.zeros_to-next.ensures.from (omega (arith, c.zeros_to-next.ensures.within, c.if-next-end.false, c.min-end.ensures))
    (to_z-of_z w32 (get_or c.args.values.now c.zeros_to-next.result (pos 0)) fits) c.zeros_to-next.ensures.zeros (c.in_ok-write_last_run.ensures c.args.mode)
