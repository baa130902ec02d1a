use Rattle.std.proofs.Common.{◌≡◌}
use Rattle.gfx_tile_state.specs.Passes.{fresh, blank}
use Rattle.gfx_tile_state.proofs.Parts.{fresh-sound, no-positions}
use Rattle.gfx_tile_state.proofs.part.Part.new.Goals as goal

pub invariant_of-result : goal.invariant_of-result
invariant_of-result c =
    fresh-sound c.in_ok-new.field-0 c.in_ok-vec.field-0.items _ c.in_ok-new.ensures (c.in_ok-vec.ensures.items_if_clones_equal (λ y e. e)) no-positions

pub returns : goal.returns
returns c =
    let kept : c.in_ok-new.field-0 ≡ blank = c.in_ok-new.ensures in
    let sums : c.in_ok-vec.field-0.items ≡ blank = c.in_ok-vec.ensures.items_if_clones_equal (λ y e. e) in
    λ i. record { kept = kept i; sums = sums i; positions = fresh.positions }
