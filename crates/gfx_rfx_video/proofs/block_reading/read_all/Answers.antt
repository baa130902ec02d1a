use Rattle.std.proofs.Common.{◌≡◌, ◌∙◌, ap, true, eqb, false, length, arith}
use Rattle.std.proofs.lemmas.Result.{err_from_is_err_and}
use Rattle.gfx_base.proofs.Wanting.{wants_any}
use Rattle.gfx_rfx_video.specs.BlockReading.{begins_block}
use Rattle.gfx_rfx_video.proofs.BlockLoops.{blocks-fail, blocks-next, block_at-takes, block_begins, with_rest}
use Rattle.gfx_rfx_video.proofs.block_reading.read_all.Goals as goal

pub returns-in_err-block-clause-value : goal.returns-in_err-block-clause-value
returns-in_err-block-clause-value c =
    let p = err_from_is_err_and c.from_residual.result c.from_residual.ensures.1 in
    let some : eqb (length c.blocks-2.fields) 0 ≡ false = cc in
    rw (p.1, p.2) (blocks-fail c.blocks-2.blocks c.blocks-2.fields c.in_err-block.field-0.0 _ some c.in_err-block.ensures.value c.blocks-2.invariant.0)

pub blocks-2-preserved : goal.blocks-2-preserved
blocks-2-preserved c =
    let some : eqb (length c.blocks-2.fields) 0 ≡ false = cc in
    let begins : begins_block c.args.bytes.now ≡ true = c.blocks-2.invariant.1 (block_begins c.blocks-2.fields _ c.in_ok-block.ensures.value) in (
      ap (λ all. with_rest all c.read_block.new.fields) c.in_ok-push.ensures.ok
          ∙ blocks-next c.blocks-2.blocks c.blocks-2.fields c.read_block.new.fields c.in_ok-block.block _ some c.in_ok-block.ensures.value c.blocks-2.invariant.0,
      λ more. begins,
    )

pub returns-in_err-push-clause-memory : goal.returns-in_err-push-clause-memory
returns-in_err-push-clause-memory c =
    wants_any c.from_residual-in_err-push.result _ (c.blocks-2.invariant.1 (block_begins c.blocks-2.fields _ c.in_ok-block.ensures.value))

pub blocks-2-smaller : goal.blocks-2-smaller
blocks-2-smaller c = omega (arith, block_at-takes c.blocks-2.fields (c.in_ok-block.block, c.read_block.new.fields) c.in_ok-block.ensures.value)
