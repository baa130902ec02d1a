-- The frames that messages end: this project's own words.
use Rattle.std.specs.Prelude.{ℕ, List, [], ◌∷◌}
use Rattle.gfx_pdu.specs.declared.pdu.Pdu.{Pdu}
use Rattle.gfx_pdu.specs.declared.pdu.Pdu.TheVariants.{EndFrame}
use Rattle.gfx_state.specs.History.{Effect}
use Rattle.gfx_state.specs.State.{State}

-- a frame that a message ends, before others, with the state right after it
unfoldable pub frame_before : Pdu → State → List (ℕ × State) → List (ℕ × State)
frame_before (EndFrame frame) state others = (frame, state) ∷ others
frame_before other state others = others

-- the frames that were ended, each with the state right after it
abbrev pub frames_of : List Effect → List (ℕ × State)
frames_of [] = []
frames_of (effect ∷ effects) = frame_before effect.pdu effect.state (frames_of effects)
