-- The positions of a pass's components.
use Rattle.std.specs.Prelude.{ℕ, List}
use Rattle.gfx_quant.specs.declared.quant.Component.{Component}
use Rattle.gfx_quant.specs.declared.quant.Component.TheVariants.{Y, Cb, Cr}
use Rattle.gfx_tile_state.specs.declared.shape.PassShape.{PassShape}

-- the bit positions of a component
abbrev pub positions_of : PassShape → Component → List ℕ
positions_of shape Y = shape.y
positions_of shape Cb = shape.cb
positions_of shape Cr = shape.cr
