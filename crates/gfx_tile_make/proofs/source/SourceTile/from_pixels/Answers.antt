use Rattle.std.proofs.Common.{◌≡◌, ◌∙◌, false, ap, sym, subst, length, rules}
use Rattle.gfx_quant.specs.declared.quant.Component.TheVariants.{Y, Cb, Cr}
use Rattle.gfx_quant.specs.Colour.{luma, chroma_blue, chroma_red}
use Rattle.gfx_tile_make.specs.Levels.{MayBeSent}
use Rattle.gfx_tile_make.specs.Quantised.{quantised_samples}
use Rattle.gfx_tile_make.specs.Source.{plain}
use Rattle.gfx_tile_make.proofs.Quantising.{samples-are}
use Rattle.gfx_tile_make.proofs.Settings.{is-base}
use Rattle.gfx_tile_make.proofs.Sources.{each-ten, plain-may}
use Rattle.gfx_tile_make.proofs.source.SourceTile.from_pixels.Goals as goal

pub from_samples-requires-clause-base : goal.from_samples-requires-clause-base
from_samples-requires-clause-base c = is-base c.args.setting.now Y c.requires

pub from_samples-requires-2-clause-base : goal.from_samples-requires-2-clause-base
from_samples-requires-2-clause-base c = is-base c.args.setting.now Cb c.requires

pub from_samples-requires-3-clause-base : goal.from_samples-requires-3-clause-base
from_samples-requires-3-clause-base c = is-base c.args.setting.now Cr c.requires

pub returns : goal.returns
returns c =
    let y = c.in_ok-from_samples.ensures ∙ ap (λ s. plain (quantised_samples c.args.setting.now.rounding c.args.setting.now.transform c.args.setting.now.y.values s)) (samples-are luma c.args.pixels.now c.from_colours.new.y c.told-pixels c.from_colours.array_long c.from_colours.ensures.luma) in
    let cb = c.in_ok-from_samples-2.ensures ∙ ap (λ s. plain (quantised_samples c.args.setting.now.rounding c.args.setting.now.transform c.args.setting.now.cb.values s)) (samples-are chroma_blue c.args.pixels.now c.from_colours.new.cb c.told-pixels c.from_colours.array_long2 c.from_colours.ensures.blue) in
    let cr = c.in_ok-from_samples-3.ensures ∙ ap (λ s. plain (quantised_samples c.args.setting.now.rounding c.args.setting.now.transform c.args.setting.now.cr.values s)) (samples-are chroma_red c.args.pixels.now c.from_colours.new.cr c.told-pixels c.from_colours.array_long3 c.from_colours.ensures.red) in
    λ i. record { setting = c.copy_of.ensures i; y = y i; cb = cb i; cr = cr i; difference = false }

pub invariant_of-result : goal.invariant_of-result
invariant_of-result c =
    let y : length c.args.setting.now.y.values ≡ 10 = search rules in
    let cb : length c.args.setting.now.cb.values ≡ 10 = search rules in
    let cr : length c.args.setting.now.cr.values ≡ 10 = search rules in
    subst MayBeSent (sym (returns c)) (plain-may c.args.setting.now c.args.pixels.now c.requires (each-ten c.args.setting.now y cb cr))
