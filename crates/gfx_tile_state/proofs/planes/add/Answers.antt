use Rattle.std.proofs.Common.{◌≡◌, ◌<◌, ◌∙◌, ◌+ℤ◌, sym, length, length-set, FitsSigned, w16, w32, arith, rules}
use Rattle.std.proofs.lemmas.Int.{to_z-of_z}
use Rattle.gfx_dwt.specs.Ranges.{at}
use Rattle.gfx_quant.proofs.Steps.{written}
use Rattle.gfx_tile_state.specs.Passes.{added}
use Rattle.gfx_tile_state.proofs.Places.{same-plane, length-added, at-added}
use Rattle.gfx_tile_state.proofs.planes.add.Goals as goal

pub loop-place-preserved : goal.loop-place-preserved
loop-place-preserved c =
    let i = c.loop-place.place in
    let inside : i < length c.loop-place.out = omega (arith, c.loop-place.invariant.0) in
    let one : FitsSigned w16 (at c.args.kept.now i) = search rules in
    let other : FitsSigned w16 (at c.args.sums.now i) = search rules in
    let result : FitsSigned w32 c.both.result = record { sfits = c.both.type_inv } in (
      length-set _ _ _ ∙ c.loop-place.invariant.0,
      written (λ k z. z ≡ at c.args.kept.now k +ℤ at c.args.sums.now k) c.loop-place.out i _ inside
          (to_z-of_z w32 c.both.result result ∙ (simp to_z-of_z at c.both.ensures)) c.loop-place.invariant.1,
    )

pub returns : goal.returns
returns c =
    same-plane c.loop-place.out (added c.args.kept.now c.args.sums.now) 4096 c.loop-place.invariant.0
    (length-added c.args.kept.now c.args.sums.now (c.requires.kept ∙ sym c.requires.sums) ∙ c.requires.kept)
    (λ k h. c.loop-place.invariant.1 k (omega arith) ∙ sym (at-added c.args.kept.now c.args.sums.now k (c.requires.kept ∙ sym c.requires.sums) (omega (arith, c.requires.kept))))
