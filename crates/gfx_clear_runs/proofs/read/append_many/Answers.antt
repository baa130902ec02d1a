-- What the blocks before have appended.
use Rattle.std.proofs.Common.{arith, refl, ◌∙◌, ◌-◌}
use Rattle.gfx_clear_runs.proofs.Appending.{on_err, copies_begun, copies_more}
use Rattle.gfx_clear_runs.proofs.read.append_many.Goals as goal

pub returns-in_err-append-clause-err : goal.returns-in_err-append-clause-err
returns-in_err-append-clause-err c =
    on_err c.from_residual.result _
    (copies_begun c.args.count (c.args.count - c.blocks-2.left) c.args.colour c.args.out.now c.append.new.self (omega arith) (c.in_err-append.ensures.err ∙ c.blocks-2.invariant.so_far))

pub blocks-2-preserved : goal.blocks-2-preserved
blocks-2-preserved c = record {
  so_far = copies_more c.args.count c.blocks-2.left c.min-size.result c.args.colour c.args.out.now c.blocks-2.out c.append.new.self _
      c.blocks-2.invariant.within (omega arith) (omega arith) refl c.blocks-2.invariant.so_far c.in_ok-append.ensures.ok;
  within = omega arith;
}
