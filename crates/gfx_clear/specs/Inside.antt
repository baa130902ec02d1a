-- What the state's type shows.
use Rattle.gfx_clear.specs.declared.clear_state.ClearState.TheInside.{Inside}
use Rattle.gfx_clear.specs.State.{ClearState, state}

abbrev pub state_of : Inside → ClearState
state_of a = state a.store.held a.glyphs a.expected
