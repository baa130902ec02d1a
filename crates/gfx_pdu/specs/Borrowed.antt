-- A message with borrowed data, as the message that it is.
use Rattle.std.specs.Prelude.{ℕ, Option}
use Rattle.std.specs.Option.{option_map}
use Rattle.gfx_pdu.specs.declared.pdu.Pdu.{Pdu}
use Rattle.gfx_pdu.specs.declared.pdu.Pdu.TheVariants as pdus
use Rattle.gfx_pdu.specs.declared.pdu.PduRef.{PduRef}
use Rattle.gfx_pdu.specs.declared.pdu.PduRef.TheVariants.{WireToSurface1, WireToSurface2, CapsConfirm, Other}

abbrev pub pdu_of : PduRef → Pdu
pdu_of (WireToSurface1 surface codec format rect payload) = pdus.WireToSurface1 surface codec format rect payload.now
pdu_of (WireToSurface2 surface codec context format payload) = pdus.WireToSurface2 surface codec context format payload.now
pdu_of (CapsConfirm version payload) = pdus.CapsConfirm version payload.now
pdu_of (Other pdu) = pdu

-- such a message, and a number with it
abbrev pub message_in : PduRef × ℕ → Pdu × ℕ
message_in found = (pdu_of found.0, found.1)

abbrev pub found_in : Option (PduRef × ℕ) → Option (Pdu × ℕ)
found_in found = option_map message_in found
