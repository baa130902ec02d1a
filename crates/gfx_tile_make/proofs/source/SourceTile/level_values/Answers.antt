use Rattle.std.proofs.Common.{◌∙◌, ap, subst}
use Rattle.gfx_quant.specs.Setting.{left_out}
use Rattle.gfx_tile_make.specs.Source.{SourceTile}
use Rattle.gfx_tile_make.specs.Levels.{MayBeSent}
use Rattle.gfx_tile_make.proofs.Sources.{level-is, sent-small-all}
use Rattle.gfx_tile_make.proofs.source.SourceTile.level_values.Goals as goal

pub returns-clause-value : goal.returns-clause-value
returns-clause-value c =
    let levels = ap (λ (s : SourceTile). s.setting.levels) c.self.view_is in
    level-is c.args.self.now c.args.component c.args.level _ c.left_out-level.result.values c.part.result.now c.values.new.out c.truncate_plane.new.out (ap (λ (s : SourceTile). s.setting.transform) c.self.view_is)
    (c.left_out-level.ensures ∙ ap (left_out c.args.component c.as_slice.result.now) c.from.ensures ∙ ap (λ l. left_out c.args.component l c.args.level) (c.as_slice.ensures.value ∙ levels))
    c.part.ensures c.values.ensures.value c.values.array_long c.truncate_plane.array_long c.truncate_plane.ensures.exact

pub returns-clause-small : goal.returns-clause-small
returns-clause-small c =
    c.truncate_plane.ensures.kept 1024
    (sent-small-all c.args.self.now c.args.component c.part.result.now c.values.new.out (subst MayBeSent c.self.view_is c.self.invariant) c.part.ensures c.values.ensures.value c.values.array_long)
