use Rattle.std.proofs.Common.{◌∙◌, ap, subst}
use Rattle.gfx_base.specs.Field.{IsBytes}
use Rattle.gfx_dwt.specs.declared.layout.Transform.TheVariants.{Plain}
use Rattle.gfx_rlgr.specs.Writes.{encoded}
use Rattle.gfx_rlgr.proofs.Writes.{encodes-only}
use Rattle.gfx_tile_make.specs.Levels.{first_values, values_at}
use Rattle.gfx_rfx_video.proofs.coding.code_of.Goals as goal

pub returns-clause-value : goal.returns-clause-value
returns-clause-value c =
    encodes-only c.args.mode c.differ_low.new.values c.in_ok-code.code c.differ_low.array_long (subst IsBytes c.as_slice.ensures c.are_bytes.ensures) c.in_ok-code.ensures.written
    ∙ ap (encoded c.args.mode)
    (c.differ_low.ensures.value ∙ ap (first_values Plain) (c.level_values.ensures.value ∙ ap (values_at c.args.tile.now c.args.component) c.requires))
