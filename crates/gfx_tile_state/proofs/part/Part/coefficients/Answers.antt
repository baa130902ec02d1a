use Rattle.std.proofs.Common.{◌∙◌, ap}
use Rattle.gfx_tile_state.specs.Passes.{added}
use Rattle.gfx_tile_state.proofs.Parts.{coefficients-small}
use Rattle.gfx_tile_state.proofs.part.Part.coefficients.Goals as goal

pub returns-clause-coefficients : goal.returns-clause-coefficients
returns-clause-coefficients c =
    coefficients-small c.self.inside.kept c.self.inside.sums.items c.add.new.out c.self.inside.positions c.self.invariant
    (c.add.ensures ∙ ap (added c.self.inside.kept) c.deref.ensures.value)
