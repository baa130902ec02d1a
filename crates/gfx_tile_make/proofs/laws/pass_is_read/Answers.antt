use Rattle.std.proofs.Common.{◌-◌}
use Rattle.gfx_quant.specs.Setting.{base_of, left_out}
use Rattle.gfx_tile_make.specs.Source.{planes_of, sent}
use Rattle.gfx_tile_make.proofs.ReadBack.{data-read}
use Rattle.gfx_tile_make.proofs.Sources.{falls-at, sent-whole}
use Rattle.gfx_tile_make.proofs.laws.pass_is_read.Goals as goal

pub returns : goal.returns
returns c source component level srl raw may some listed written =
    data-read source.setting.transform (base_of component source.setting) (left_out component source.setting.levels (level - 1)) (left_out component source.setting.levels level) (sent (planes_of source component)) srl raw
    (sent-whole source component may) (λ band. (falls-at source component level may some listed band).1) written
