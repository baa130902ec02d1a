-- What the messages of a history have written.
use Rattle.std.specs.Prelude.{List, [], ◌∷◌}
use Rattle.gfx_state.specs.History.{Effect}
use Rattle.gfx_state.specs.State.{State}
use Rattle.gfx_damage.specs.Damage.{Damage, noted}

-- damage after these effects, of which the first was in this state
abbrev pub damaged : Damage → State → List Effect → Damage
damaged before state [] = before
damaged before state (effect ∷ effects) = damaged (noted before state effect.pdu) effect.state effects
