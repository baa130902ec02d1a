use Rattle.std.proofs.Common.{◌≡◌, ◌∙◌}
use Rattle.gfx_tile_state.specs.Passes.{blank}
use Rattle.gfx_tile_make.specs.Quantised.{quantised_samples}
use Rattle.gfx_tile_make.proofs.Quantising.{quantised-is}
use Rattle.gfx_tile_make.proofs.part.SourcePart.from_samples.Goals as goal

pub returns : goal.returns
returns c =
    let kept : c.in_ok-vec.field-0.items ≡ blank = c.in_ok-vec.ensures.items_if_clones_equal (λ y e. e) in
    let own : c.put.new.own.items ≡ quantised_samples c.args.rounding c.args.transform c.args.base.now.values c.args.samples.now =
    c.put.ensures
    ∙ quantised-is c.args.rounding c.args.transform c.args.base.now.values c.args.samples.now c.forward_with.new.plane c.cut_plane.new.plane c.quantise_plane.new.out c.forward_with.ensures.coefficients c.cut_plane.ensures.value c.quantise_plane.ensures.exact
    c.quantise_plane.array_long in
    λ i. record { own = own i; kept = kept i }
