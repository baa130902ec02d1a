-- What a client writes to the server ([MS-RDPEGFX] 2.2.2.13, 2.2.2.18 and 2.2.5): each message of its own is
-- alone in a channel message, behind its length and without blocks. That nothing ever waits at this
-- client is this project's own rule: it applies each message before it takes the next.
use Rattle.std.specs.Prelude.{◌≡◌, ℕ, Bool, ◌&&◌, List, [], ◌++◌, Option, Some, None, Ok, if◌then◌else◌}
use Rattle.std.specs.List.{flat_map}
use Rattle.std.specs.Str.{bytes_eq}
use Rattle.gfx_caps.specs.declared.message.ClientPdu.{ClientPdu}
use Rattle.gfx_caps.specs.declared.message.ClientPdu.TheVariants.{Ack}
use Rattle.gfx_caps.specs.declared.offer.Offer.{Offer}
use Rattle.gfx_caps.specs.Offers.{advertised}
use Rattle.gfx_caps.specs.Reading.{client_of}
use Rattle.gfx_caps.specs.Spelling.{spelling}
use Rattle.gfx_pdu.specs.declared.pdu.Pdu.{Pdu}
use Rattle.gfx_pdu.specs.declared.pdu.Pdu.TheVariants.{EndFrame}
use Rattle.gfx_pdu.specs.Spelling.{id_of}
use Rattle.gfx_segment.specs.Framing.{prefixed, front, Whole}
use Rattle.gfx_segment.specs.Whole.{streamed}
use Rattle.gfx_state.specs.History.{Effect}
use Rattle.gfx_client.specs.declared.replies.Reply.{Reply}
use Rattle.gfx_client.specs.declared.replies.TheConstants.{EMPTY_REPLY}
use Rattle.gfx_client.specs.declared.stepped.Stepped.{Stepped}
use Rattle.gfx_client.specs.declared.stepped.Stepped.TheVariants.{Applied, Ended, Need}

-- a message of a client as it is sent
abbrev pub alone : ClientPdu → List ℕ
alone pdu = prefixed (spelling pdu)

-- whatever follows, that is one whole channel message, and is read as what it is
pub record IsRead (pdu : ClientPdu) (more : List ℕ) : Type 0 where
  pub whole : front (alone pdu ++ more) ≡ Whole (spelling pdu) more
  pub same : client_of (spelling pdu) ≡ Ok pdu

-- what a client says first: the versions that it offers
abbrev pub hello : List Offer → List ℕ
hello offers = alone (advertised offers)

-- what a client says of a frame, where so many are decoded with it
abbrev pub acknowledgement : ℕ → ℕ → List ℕ
acknowledgement frame decoded = alone (Ack 0 frame decoded)

-- the reply to a message, where so many frames are decoded after it
abbrev pub reply_to : Pdu → ℕ → Option Reply
reply_to (EndFrame frame) decoded = Some (record { frame = frame; bytes = acknowledgement frame decoded })
reply_to other decoded = None

-- what a step says of the message of this size that it applied, where so many frames are decoded after it
abbrev pub stepped_of : Pdu → ℕ → ℕ → Stepped
stepped_of (EndFrame frame) size decoded = Ended frame size (acknowledgement frame decoded)
stepped_of other size decoded = Applied (id_of other) size

-- what a step says of an effect
abbrev pub stepped_by : Effect → Stepped
stepped_by effect = stepped_of effect.pdu effect.size effect.state.decoded

-- the bytes for the server in what a step says
abbrev pub reply_in : Stepped → List ℕ
reply_in (Ended frame size reply) = reply
reply_in (Applied id size) = []
reply_in Need = []

-- the acknowledgements of the frames that these effects end, in their order
abbrev pub replies : List Effect → List ℕ
replies all = flat_map (λ effect. reply_in (stepped_by effect)) all

-- what a server says first that takes none of the bitmaps which were offered to it
abbrev pub is_empty_reply : List ℕ → Bool
is_empty_reply message = bytes_eq message EMPTY_REPLY

-- what a channel message is in the stream: nothing, where a living client passes over it
abbrev pub stream_of : Bool → List ℕ → List ℕ
stream_of living message = if living && is_empty_reply message then [] else streamed message
