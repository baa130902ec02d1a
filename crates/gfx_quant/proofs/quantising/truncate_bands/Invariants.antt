use Rattle.std.proofs.Common.{◌-◌}
use Rattle.gfx_quant.specs.Coefficient.{truncated}
use Rattle.gfx_quant.specs.Quant.{value_of}
use Rattle.gfx_quant.proofs.InBands.{MapsFirst}
use Rattle.gfx_quant.proofs.quantising.truncate_bands.Given as goal

abbrev pub invariant-loop-index : goal.invariant-loop-index
invariant-loop-index l = MapsFirst l.index l.transform (λ band v. truncated band v (value_of l.numbers band - l.fewer)) l.values l.initial.out l.out
