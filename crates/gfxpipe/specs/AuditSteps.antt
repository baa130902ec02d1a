-- How an auditor goes on by one message: it applies the next one, counts it, and writes its line. No clause of `run`
-- names these words.
use Rattle.std.specs.Prelude.{◌≡◌, ℕ, List, [], ◌∷◌, Option, Some, None, Result, Ok, Err}
use Rattle.gfx_base.specs.Memory.{next_count}
use Rattle.gfx_base.specs.Stream.{Change, Gains, FailsAfter}
use Rattle.gfx_client.specs.Client.{closed_by}
use Rattle.gfx_client.specs.declared.stepped.Stepped.{Stepped}
use Rattle.gfx_client.specs.declared.stepped.Stepped.TheVariants.{Applied, Ended, Need}
use Rattle.gfx_input.specs.declared.fault.TakeFault.{TakeFault}
use Rattle.gfx_input.specs.declared.fault.TakeFault.TheVariants as broke
use Rattle.gfx_input.specs.declared.taker.Taken.{Taken}
use Rattle.gfx_input.specs.declared.taker.Taken.TheVariants.{More}
use Rattle.gfx_pdu.specs.declared.id.Id.{Id}
use Rattle.gfx_pdu.specs.declared.id.Id.TheVariants.{EndFrame}
use Rattle.gfx_pdu.specs.Spelling.{id_of}
use Rattle.gfx_report.specs.Audit.{audit_line}
use Rattle.gfx_state.specs.History.{Effect}
use Rattle.gfxpipe.specs.Auditing.{due_of, StandsAsBefore, Rests}
use Rattle.gfxpipe.specs.declared.audit.Auditor.{Auditor}

-- the message that a step applied, and its length on the wire
abbrev pub message_in : Stepped → Option (Id × ℕ)
message_in (Applied id size) = Some (id, size)
message_in (Ended frame size reply) = Some (EndFrame, size)
message_in Need = None

-- what writing the line of a message comes to: it is written, and there may be more messages, or the sink fails
abbrev pub WritesLine : Result (Option Taken) TakeFault → Change → List ℕ → Type 0
WritesLine (Ok None) o line = Gains o line
WritesLine (Err broke.Write) o line = FailsAfter o line
WritesLine other o line = ⊥

-- what telling of a step comes to: its message is counted and its line written; nothing is told where no message was
-- there
abbrev pub TellsMessage : Option (Id × ℕ) → Result (Option Taken) TakeFault → Auditor → Auditor → Change → Type 0
TellsMessage None answer old new o = (answer ≡ Ok (Some More)) × (new.number ≡ old.number) × Gains o []
TellsMessage (Some message) answer old new o =
    (new.number ≡ next_count old.number) × WritesLine answer o (audit_line (next_count old.number) message.0 message.1)

-- the next message that was due was applied and counted
pub record TakesNext (old new : Auditor) : Type 0 where
  pub next : Effect
  pub first : due_of old ≡ next ∷ due_of new
  pub number : new.number ≡ next_count old.number
  pub alike : StandsAsBefore old.client new.client
  pub not_closed : closed_by new.client ≡ None

-- and its line was written, or could not be
pub record TellsNext (answer : Result (Option Taken) TakeFault) (old new : Auditor) (o : Change) : Type 0 where
  pub takes : TakesNext old new
  pub writes : WritesLine answer o (audit_line new.number (id_of takes.next.pdu) takes.next.size)

-- no message is due, and nothing is told
pub record TellsNone (old new : Auditor) (o : Change) : Type 0 where
  pub none : due_of old ≡ []
  pub number : new.number ≡ old.number
  pub gains : Gains o []

-- what going on by one message comes to: the next is told of, or none is left, or memory runs out before it is told of
abbrev pub GoesOnByOne : Result (Option Taken) TakeFault → Auditor → Auditor → Change → Type 0
GoesOnByOne (Ok None) old new o = TellsNext (Ok None) old new o
GoesOnByOne (Ok (Some rest)) old new o = TellsNone old new o × Rests rest old.client new.client
GoesOnByOne (Err broke.Write) old new o = TellsNext (Err broke.Write) old new o
GoesOnByOne (Err broke.Memory) old new o = Gains o []
