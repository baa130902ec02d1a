use Rattle.std.proofs.Common.{◌++◌, ◌∙◌}
use Rattle.gfx_prog_block.specs.Spelling.{upgrade_text}
use Rattle.gfx_prog_block.proofs.WritingLaws.{upgrade-put}
use Rattle.gfx_prog_block.proofs.tile_writing.put_upgrade_pass.Goals as goal

pub returns : goal.returns
returns c =
    upgrade-put c.as_slice-y_srl.result.now c.as_slice-y_raw.result.now c.as_slice-cb_srl.result.now c.as_slice-cb_raw.result.now c.as_slice-cr_srl.result.now c.as_slice-cr_raw.result.now
    c.args.out.now c.put_items.new.out c.put_bytes.new.out c.put_bytes-2.new.out c.put_bytes-3.new.out c.put_bytes-4.new.out c.put_bytes-5.new.out c.put_bytes-6.new.out
    c.in_ok-put_items.ensures.ok c.in_ok-put_bytes.ensures.ok c.in_ok-put_bytes-2.ensures.ok c.in_ok-put_bytes-3.ensures.ok c.in_ok-put_bytes-4.ensures.ok c.in_ok-put_bytes-5.ensures.ok c.in_ok-put_bytes-6.ensures.ok
    ∙ (λ i. c.args.out.now ++ upgrade_text (record {
      y_srl = c.as_slice-y_srl.ensures i;
      y_raw = c.as_slice-y_raw.ensures i;
      cb_srl = c.as_slice-cb_srl.ensures i;
      cb_raw = c.as_slice-cb_raw.ensures i;
      cr_srl = c.as_slice-cr_srl.ensures i;
      cr_raw = c.as_slice-cr_raw.ensures i;
    }))
