-- What a whole channel message of any stream comes to ([MS-RDPEGFX] 2.2.5): this project's own promise.
use Rattle.std.specs.Prelude.{◌≡◌, ℕ, List, [], None, Ok, Err}
use Rattle.gfx_base.specs.declared.refusal.Refusal.{Refusal}
use Rattle.gfx_segment.specs.Framing.{Whole, front, payload}
use Rattle.gfx_state.specs.Payload.{messages_of}
use Rattle.gfx_state.specs.Run.{Run, deliver, eats, refuse}

-- a run that stands between two channel messages, and in which nothing was refused
pub record IsBetween (run : Run) : Type 0 where
  pub open_run : run.refusal ≡ None
  pub nothing_held : run.rest ≡ []

-- the bytes of a channel message, then others: the messages of its payload are applied, however it is cut into blocks,
-- and then come the others; where it has no payload it is refused
abbrev pub WholeMessagesAreDelivered : Type 0
WholeMessagesAreDelivered =
    (run : Run) (bytes message others : List ℕ) → IsBetween run → front bytes ≡ Whole message others
    → ((content : List ℕ) → payload message ≡ Ok content → eats run bytes ≡ eats (deliver run (messages_of content)) others)
    × ((r : Refusal) → payload message ≡ Err r → eats run bytes ≡ eats (refuse run r) others)
