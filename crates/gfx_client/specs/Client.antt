-- A client as the steps of a cursor, and what each of its calls answers.
use Rattle.std.specs.Prelude.{◌≡◌, ℕ, ◌<◌, List, [], ◌∷◌, length, Bool, true, false, ◌==◌, if◌then◌else◌, Option, Some, None, Result, Ok, Err}
use Rattle.gfx_base.specs.Memory.{next_count}
use Rattle.gfx_base.specs.declared.refusal.Refusal.{Refusal}
use Rattle.gfx_base.specs.declared.refusal.Refusal.TheVariants.{ChannelTruncated}
use Rattle.gfx_base.specs.declared.answer.Cause.{Cause}
use Rattle.gfx_base.specs.declared.answer.Cause.TheVariants as fault
use Rattle.gfx_caps.specs.declared.offer.Offer.{Offer}
use Rattle.gfx_pdu.specs.declared.pdu.Pdu.{Pdu}
use Rattle.gfx_pdu.specs.Reading.{message_at}
use Rattle.gfx_state.specs.Cursor.{Cursor, before_all, given, Opens, Needs, Refuses, what_next, Reaches, settled}
use Rattle.gfx_state.specs.Cursor as cursor
use Rattle.gfx_state.specs.History.{coming}
use Rattle.gfx_client.specs.declared.client.Client.{Client}
use Rattle.gfx_client.specs.declared.fault.ClientFault.{ClientFault}
use Rattle.gfx_client.specs.declared.fault.ClientFault.TheVariants.{Refused, Memory, ClosedRefused, ClosedMemory}
use Rattle.gfx_client.specs.declared.stepped.Stepped.{Stepped}
use Rattle.gfx_client.specs.declared.stepped.Stepped.TheVariants.{Applied, Ended, Need}
use Rattle.gfx_client.specs.Replies.{stepped_of}
use Rattle.gfx_damage.specs.Damage.{Damage, noted}

-- where a client is in its stream
abbrev pub cursor_of : Client → Cursor
cursor_of client = record {
  splitter = client.payloads.splitter;
  left = client.payloads.left;
  state = client.state;
  applied = client.applied;
}

-- what a closed client answers
abbrev pub closed_by : Client → Option ClientFault
closed_by client = client.closed

-- the versions that a client offers
abbrev pub offers_of : Client → List Offer
offers_of client = client.offered

-- what the messages since the end of a frame have written
abbrev pub damage_of : Client → Damage
damage_of client = client.damage

-- it passes over a reply of no slot
abbrev pub is_living : Client → Bool
is_living client = client.living

-- a client at the start of a stream that has taken nothing
pub record IsUntouched (client : Client) : Type 0 where
  pub at_start : cursor_of client ≡ before_all
  pub not_closed : closed_by client ≡ None

-- a message was refused or memory ran out: it has closed the client
abbrev pub closed_form : ClientFault → ClientFault
closed_form (Refused number r) = ClosedRefused number r
closed_form Memory = ClosedMemory
closed_form other = other

-- the client has moved, and is not closed
pub record Moves (old new : Client) (pdus : List Pdu) : Type 0 where
  pub reaches : Reaches (cursor_of old) pdus (cursor_of new)
  pub closed : closed_by new ≡ closed_by old

-- the message after this client's is refused. What the splitter holds may have changed, but not the run
pub record Ends (old new : Client) (r : Refusal) : Type 0 where
  pub at : Cursor
  pub reaches : Reaches (cursor_of old) [] at
  pub refuses : what_next at ≡ Refuses r
  pub run : settled (cursor_of new) ≡ settled (cursor_of old)
  pub state : (cursor_of new).state ≡ (cursor_of old).state
  pub applied : (cursor_of new).applied ≡ (cursor_of old).applied
  pub damage : damage_of new ≡ damage_of old

-- a message of this size was applied, the first of what was to come, and this was said of it
pub record MovesBy (old new : Client) (stepped : Stepped) : Type 0 where
  pub pdu : Pdu
  pub size : ℕ
  pub says : stepped ≡ stepped_of pdu size (cursor_of new).state.decoded
  pub moves : Moves old new (pdu ∷ [])
  pub first : coming (cursor_of old) ≡ record { pdu = pdu; size = size; state = (cursor_of new).state } ∷ coming (cursor_of new)
  pub damage : damage_of new ≡ noted (damage_of old) (cursor_of old).state pdu

-- all messages are applied that the bytes taken hold whole
pub record Waits (old new : Client) : Type 0 where
  pub moves : Moves old new []
  pub needs : what_next (cursor_of new) ≡ Needs
  pub damage : damage_of new ≡ damage_of old

-- what a step did that wasn't closed off before
abbrev pub Advances : Result Stepped (Cause Refusal) → Client → Client → Type 0
Advances (Ok Need) old new = Waits old new
Advances (Ok (Applied id size)) old new = MovesBy old new (Applied id size)
Advances (Ok (Ended frame size reply)) old new = MovesBy old new (Ended frame size reply)
Advances (Err fault.Memory) old new = Moves old new [] × (damage_of new ≡ damage_of old)
Advances (Err (fault.Refused r)) old new = Ends old new r × (closed_by new ≡ closed_by old)

-- what a step of a client answers. A closed client answers its fault, and stays as it is
abbrev pub StepsOpen : Result Stepped ClientFault → Client → Client → Type 0
StepsOpen (Ok Need) old new = Waits old new
StepsOpen (Ok (Applied id size)) old new = MovesBy old new (Applied id size)
StepsOpen (Ok (Ended frame size reply)) old new = MovesBy old new (Ended frame size reply)
StepsOpen (Err (Refused number r)) old new =
    Ends old new r × (number ≡ next_count (cursor_of old).applied) × (closed_by new ≡ Some (ClosedRefused number r))
StepsOpen (Err Memory) old new =
    Reaches (cursor_of old) [] (cursor_of new) × (closed_by new ≡ Some ClosedMemory) × (damage_of new ≡ damage_of old)
StepsOpen (Err (ClosedRefused number r)) old new = ⊥
StepsOpen (Err ClosedMemory) old new = ⊥

abbrev pub Steps : Option ClientFault → Result Stepped ClientFault → Client → Client → Type 0
Steps (Some fault) result old new = (result ≡ Err fault) × (new ≡ old)
Steps None result old new = StepsOpen result old new

-- what taking bytes answers
abbrev pub TakesOpen : Result (Unit {0}) ClientFault → Client → Client → List ℕ → Type 0
TakesOpen (Ok done) old new piece = (cursor_of new ≡ given (cursor_of old) piece) × (closed_by new ≡ None)
TakesOpen (Err Memory) old new piece = (cursor_of new ≡ cursor_of old) × (closed_by new ≡ Some ClosedMemory)
TakesOpen (Err (Refused number r)) old new piece = ⊥
TakesOpen (Err (ClosedRefused number r)) old new piece = ⊥
TakesOpen (Err ClosedMemory) old new piece = ⊥

abbrev pub Takes : Option ClientFault → Result (Unit {0}) ClientFault → Client → Client → List ℕ → Type 0
Takes (Some fault) result old new piece = (result ≡ Err fault) × (new ≡ old)
Takes None result old new piece = TakesOpen result old new piece

-- the stream has ended: an open client needs more bytes
abbrev pub IsAtEnd : Client → Type 0
IsAtEnd client = closed_by client ≡ None → what_next (cursor_of client) ≡ Needs

-- what is said at the end: part of a channel message may not be left
abbrev pub end_of : Option ClientFault → Cursor → Result (Unit {0}) ClientFault
end_of (Some fault) at = Err fault
end_of None at =
    if length at.splitter.rest == 0 then Ok tt else Err (Refused (next_count at.applied) ChannelTruncated)

-- one message of the present payload -------------------------------------------------------------

-- the payload is at its end
abbrev pub IsAtPayloadEnd : Client → Type 0
IsAtPayloadEnd client = message_at (cursor_of client).left ≡ Ok None

-- the message of this size at the front was taken, and this was said of it
pub record TakesOne (old new : Client) (stepped : Stepped) : Type 0 where
  pub pdu : Pdu
  pub size : ℕ
  pub read : message_at (cursor_of old).left ≡ Ok (Some (pdu, size))
  pub says : stepped ≡ stepped_of pdu size (cursor_of new).state.decoded
  pub takes : what_next (cursor_of old) ≡ cursor.Takes pdu (cursor_of new)
  pub closed : closed_by new ≡ closed_by old
  pub damage : damage_of new ≡ noted (damage_of old) (cursor_of old).state pdu

abbrev pub TakesMessage : Result (Option Stepped) (Cause Refusal) → Client → Client → Type 0
TakesMessage (Ok (Some stepped)) old new = TakesOne old new stepped
TakesMessage (Ok None) old new = IsAtPayloadEnd old × (new ≡ old)
TakesMessage (Err fault.Memory) old new = new ≡ old
TakesMessage (Err (fault.Refused r)) old new = (what_next (cursor_of old) ≡ Refuses r) × (new ≡ old)

-- a channel message was opened: fewer bytes are left
pub record OpensOne (old new : Client) : Type 0 where
  pub opens : what_next (cursor_of old) ≡ Opens (cursor_of new)
  pub fewer : length (cursor_of new).splitter.rest < length (cursor_of old).splitter.rest
  pub closed : closed_by new ≡ closed_by old
  pub damage : damage_of new ≡ damage_of old

-- the client is as it was, but for the bytes that it has not used
pub record Stays (old new : Client) : Type 0 where
  pub run : settled (cursor_of new) ≡ settled (cursor_of old)
  pub state : (cursor_of new).state ≡ (cursor_of old).state
  pub applied : (cursor_of new).applied ≡ (cursor_of old).applied
  pub closed : closed_by new ≡ closed_by old
  pub damage : damage_of new ≡ damage_of old

abbrev pub OpensMessage : Result Bool (Cause Refusal) → Client → Client → Type 0
OpensMessage (Ok true) old new = OpensOne old new
OpensMessage (Ok false) old new = (what_next (cursor_of old) ≡ Needs) × (new ≡ old)
OpensMessage (Err fault.Memory) old new = new ≡ old
OpensMessage (Err (fault.Refused r)) old new = (what_next (cursor_of old) ≡ Refuses r) × Stays old new
