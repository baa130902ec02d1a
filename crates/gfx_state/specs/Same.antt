-- Which states count as the same, and which accept more: this project's own rule.
use Rattle.std.specs.Prelude.{◌≡◌, true, Ok}
use Rattle.gfx_pdu.specs.declared.pdu.Pdu.{Pdu}
use Rattle.gfx_state.specs.State.{State}
use Rattle.gfx_state.specs.Step.{step}

-- two states with equal surfaces, equal slots, and equal ClearCodec stores: the rings with their cursors, and the
-- glyphs. The output and what is mapped to it, the sequence number that is expected, the records of tiles, the open
-- frame, the count of frames and the word small are not in it
pub record Same (s t : State) : Type 0 where
  pub surfaces : s.shown.surfaces ≡ t.shown.surfaces
  pub slots : s.cache.slots ≡ t.cache.slots
  pub rings : s.clear.rings ≡ t.clear.rings
  pub glyphs : s.clear.glyphs ≡ t.clear.glyphs

-- two states that are equal but for the word small, which the second has only where the first has it
pub record Wider (s t : State) : Type 0 where
  pub shown : s.shown ≡ t.shown
  pub slots : s.cache.slots ≡ t.cache.slots
  pub clear : s.clear ≡ t.clear
  pub records : s.records ≡ t.records
  pub frame : s.frame ≡ t.frame
  pub decoded : s.decoded ≡ t.decoded
  pub only_small : t.cache.small ≡ true → s.cache.small ≡ true

-- a relation of two states that each message keeps: what the first accepts the second accepts, and it holds of the two
-- after it. Both have decoded as many frames
pub record StepsAlike (R : State → State → Type 0) : Type 0 where
  pub steps : (s after t : State) (pdu : Pdu) → step s pdu ≡ Ok after → R s t → (then : State) × (step t pdu ≡ Ok then) × R after then
  pub decoded : (s t : State) → R s t → s.decoded ≡ t.decoded
