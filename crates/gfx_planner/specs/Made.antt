-- What a step is made into: its messages in their order, and which keys have which slots after it. A step that can't be put
-- is made into nothing; no step that passes its checks is such a step. This project's own rule.
use Rattle.std.specs.Prelude.{List, [], ◌∷◌, Option, Some, None}
use Rattle.gfx_pdu.specs.declared.pdu.Pdu.{Pdu}
use Rattle.gfx_slot_plan.specs.Plan.{Plan}

pub record Made : Type 0 where
  pub pdus : List Pdu
  pub plan : Plan

-- a step is made into these messages, and this choice of slots
abbrev pub made : List Pdu → Plan → Option Made
made pdus next = Some record { pdus = pdus; plan = next }

-- a step is made into one message alone; where there is none for it, it can't be put
abbrev pub alone : Option Pdu → Plan → Option Made
alone None next = None
alone (Some pdu) next = made (pdu ∷ []) next

-- the messages that a step is made into: no message where it can't be put
abbrev pub pdus_of : Option Made → List Pdu
pdus_of None = []
pdus_of (Some found) = found.pdus
