-- Where a client may want memory: this project's own rule.
use Rattle.std.specs.Prelude.{◌≡◌, ◌==◌, Bool, true, Result, Ok, Err, if◌then◌else◌, length}
use Rattle.gfx_client.specs.declared.fault.ClientFault.{ClientFault}
use Rattle.gfx_client.specs.declared.fault.ClientFault.TheVariants.{Refused, Memory, ClosedRefused, ClosedMemory}
use Rattle.gfx_layout.specs.Header.{is_headed}
use Rattle.gfx_pdu.specs.Id.{id_of_number}
use Rattle.gfx_segment.specs.Framing.{may_give}
use Rattle.gfx_state.specs.Cursor.{Cursor}

-- what comes next here may want memory: a message whose header is accepted, or, where none is left of the payload, a whole
-- channel message that begins with a known descriptor
abbrev pub may_want : Cursor → Bool
may_want at = if length at.left == 0 then may_give at.splitter else is_headed id_of_number at.left

-- memory was wanting only where this holds
abbrev pub LacksOnlyIf : {X : Type 0} → Result X ClientFault → Bool → Type 0
LacksOnlyIf (Ok x) may = Unit {0}
LacksOnlyIf (Err Memory) may = may ≡ true
LacksOnlyIf (Err (Refused number r)) may = Unit {0}
LacksOnlyIf (Err (ClosedRefused number r)) may = Unit {0}
LacksOnlyIf (Err ClosedMemory) may = Unit {0}
