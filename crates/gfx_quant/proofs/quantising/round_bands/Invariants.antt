use Rattle.gfx_quant.specs.declared.rounding.Rounding.TheVariants.{Nearest}
use Rattle.gfx_quant.specs.Coefficient.{quantised}
use Rattle.gfx_quant.specs.Quant.{value_of}
use Rattle.gfx_quant.proofs.InBands.{MapsFirst}
use Rattle.gfx_quant.proofs.quantising.round_bands.Given as goal

abbrev pub invariant-loop-index : goal.invariant-loop-index
invariant-loop-index l = MapsFirst l.index l.transform (λ band c. quantised Nearest band c (value_of l.base band)) l.coefficients l.initial.out l.out
