use Rattle.std.proofs.Common.{◌≡◌, ◌∙◌, ◌-◌, ◌≤◌, [], ap, subst}
use Rattle.gfx_dwt.specs.declared.layout.Band.{Band}
use Rattle.gfx_quant.specs.Quant.{value_of}
use Rattle.gfx_quant.specs.Setting.{left_out}
use Rattle.gfx_tile_make.specs.Levels.{MayBeSent}
use Rattle.gfx_tile_make.specs.Source.{SourceTile}
use Rattle.gfx_tile_make.proofs.Places.{if-ok}
use Rattle.gfx_tile_make.proofs.ReadBack.{pass-short}
use Rattle.gfx_tile_make.proofs.Sources.{below-at, few-at}
use Rattle.gfx_tile_make.proofs.source.SourceTile.pass_values.Goals as goal

pub write_pass-requires-clause-falls : goal.write_pass-requires-clause-falls
write_pass-requires-clause-falls c =
    let levels = c.as_slice-levels.ensures.value ∙ ap (λ (s : SourceTile). s.setting.levels) c.self.view_is in
    let before : c.left_out-before.result.values ≡ left_out c.args.component c.args.self.now.setting.levels (c.args.level - 1) =
    c.left_out-before.ensures ∙ ap (λ n. left_out c.args.component c.as_slice-levels.result.now (n - 1)) c.from-level.ensures ∙ ap (λ l. left_out c.args.component l (c.args.level - 1)) levels in
    let behind : c.left_out-behind.result.values ≡ left_out c.args.component c.args.self.now.setting.levels c.args.level =
    c.left_out-behind.ensures ∙ ap (left_out c.args.component c.as_slice-levels.result.now) c.from-level.ensures ∙ ap (λ l. left_out c.args.component l c.args.level) levels in
    rw (before, behind) (below-at c.args.self.now c.args.component c.args.level (subst MayBeSent c.self.view_is c.self.invariant) c.requires.first c.requires.listed)

pub returns-clause-short : goal.returns-clause-short
returns-clause-short c =
    let levels = c.as_slice-levels.ensures.value ∙ ap (λ (s : SourceTile). s.setting.levels) c.self.view_is in
    let before : c.left_out-before.result.values ≡ left_out c.args.component c.args.self.now.setting.levels (c.args.level - 1) =
    c.left_out-before.ensures ∙ ap (λ n. left_out c.args.component c.as_slice-levels.result.now (n - 1)) c.from-level.ensures ∙ ap (λ l. left_out c.args.component l (c.args.level - 1)) levels in
    let behind : c.left_out-behind.result.values ≡ left_out c.args.component c.args.self.now.setting.levels c.args.level =
    c.left_out-behind.ensures ∙ ap (left_out c.args.component c.as_slice-levels.result.now) c.from-level.ensures ∙ ap (λ l. left_out c.args.component l c.args.level) levels in
    let few : (band : Band) → value_of c.left_out-before.result.values band - value_of c.left_out-behind.result.values band ≤ 6 =
    rw (before, behind) (λ band. few-at c.args.self.now c.args.component c.args.level band (subst MayBeSent c.self.view_is c.self.invariant) c.requires.first c.requires.listed) in
    if-ok _ _ _ c.write_pass.result (λ pass written. pass-short _ [] _ _ c.values.new.out pass.srl pass.raw c.values.array_long few (written [])) c.write_pass.ensures
