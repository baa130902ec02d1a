use Rattle.std.proofs.Common.{◌≡◌, ◌<◌, ◌∙◌, ◌-ℤ◌, sym, length, length-set, FitsSigned, w16, w32, arith, rules}
use Rattle.std.proofs.lemmas.Int.{to_z-of_z}
use Rattle.gfx_dwt.specs.Ranges.{Within, at}
use Rattle.gfx_quant.proofs.Steps.{written}
use Rattle.gfx_tile_make.specs.Planes.{less}
use Rattle.gfx_tile_make.proofs.ByBand.{at-less, length-less, same-planes}
use Rattle.gfx_tile_make.proofs.planes.subtract.Goals as goal

pub loop-place-preserved : goal.loop-place-preserved
loop-place-preserved c =
    let i = c.loop-place.place in
    let inside : i < length c.loop-place.out = omega (arith, c.loop-place.invariant.0) in
    let one : FitsSigned w16 (at c.args.own.now i) = search rules in
    let other : FitsSigned w16 (at c.args.kept.now i) = search rules in
    let result : FitsSigned w32 c.between.result = record { sfits = c.between.type_inv } in (
      length-set _ _ _ ∙ c.loop-place.invariant.0,
      written (λ k z. z ≡ at c.args.own.now k -ℤ at c.args.kept.now k) c.loop-place.out i _ inside
          (to_z-of_z w32 c.between.result result ∙ (simp to_z-of_z at c.between.ensures.value)) c.loop-place.invariant.1,
      written (λ k z. Within 65535 z) c.loop-place.out i _ inside (rw (to_z-of_z w32 c.between.result result) c.between.ensures.small) c.loop-place.invariant.2,
    )

pub returns-clause-value : goal.returns-clause-value
returns-clause-value c =
    same-planes c.loop-place.out (less c.args.own.now c.args.kept.now) 4096 c.loop-place.invariant.0
    (length-less c.args.own.now c.args.kept.now (c.requires.own ∙ sym c.requires.kept) ∙ c.requires.own)
    (λ k h. c.loop-place.invariant.1 k (omega arith) ∙ sym (at-less c.args.own.now c.args.kept.now k (c.requires.own ∙ sym c.requires.kept) (omega (arith, c.requires.own))))

pub returns-clause-small : goal.returns-clause-small
returns-clause-small c = λ k h. c.loop-place.invariant.2 k (omega (arith, c.loop-place.invariant.0))
