-- What the client of a session does: it takes bytes, and draws each message that is whole among them. No public clause
-- names these words.
use Rattle.std.specs.Prelude.{◌≡◌, ℕ, List, ◌++◌, map, Option, None}
use Rattle.gfx_client.specs.Client.{closed_by, offers_of}
use Rattle.gfx_client.specs.Replies.{replies}
use Rattle.gfx_client.specs.Standing.{StandsFrom, HasBroughtFrom}
use Rattle.gfx_client.specs.declared.client.Client.{Client}
use Rattle.gfx_client.specs.declared.stepped.Stepped.{Stepped}
use Rattle.gfx_client.specs.declared.stepped.Stepped.TheVariants.{Applied, Ended, Need}
use Rattle.gfx_state.specs.State.{State}
use Rattle.gfx_state.specs.History.{Effect, end_states}
use Rattle.gfx_session.specs.Kept.{noted}
use Rattle.gfx_session.specs.declared.digests.Digests.{Digests}
use Rattle.gfx_session.specs.declared.drawing.Drawn.{Drawn}
use Rattle.gfx_session.specs.declared.drawing.Drawn.TheVariants.{Nothing, Message, Frame}

-- what a step of the client is to its session; the message itself is let go
abbrev pub drawn_by : Stepped → Drawn
drawn_by Need = Nothing
drawn_by (Applied id size) = Message
drawn_by (Ended frame size reply) = Frame reply

-- a client takes bytes: it stands for these behind all that it stood for, and has brought no further effects about
pub record TakesBytes (old new : Client) (piece : List ℕ) : Type 0 where
  pub not_closed : closed_by new ≡ None
  pub offers : offers_of new ≡ offers_of old
  pub stands : (start : State) (bytes : List ℕ) → StandsFrom start old bytes → StandsFrom start new (bytes ++ piece)
  pub brought : (start : State) (bytes : List ℕ) (all : List Effect) → StandsFrom start old bytes → HasBroughtFrom start old bytes all → HasBroughtFrom start new (bytes ++ piece) all

-- behind these effects a client has brought about more: what it says of them was put up, and what is kept of its states
-- at the ends of their frames was noted
pub record Drew (digests : Digests) (start : State) (client : Client) (bytes : List ℕ) (all : List Effect) (up_before up : List ℕ) (drawn_before drawn : List (Option (List ℕ))) : Type 0 where
  pub more : List Effect
  pub brought : HasBroughtFrom start client bytes (all ++ more)
  pub replied : up ≡ up_before ++ replies more
  pub shown : drawn ≡ drawn_before ++ map (noted digests) (end_states more)

-- so it did behind whatever effects it had brought about
abbrev pub Draws : Digests → Client → Client → List ℕ → List ℕ → List (Option (List ℕ)) → List (Option (List ℕ)) → Type 0
Draws digests old new up_before up drawn_before drawn =
    (start : State) (bytes : List ℕ) (all : List Effect) → HasBroughtFrom start old bytes all → Drew digests start new bytes all up_before up drawn_before drawn
