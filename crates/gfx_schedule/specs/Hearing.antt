-- What the server's end makes of its client's bytes, one after another ([MS-RDPEGFX] 3.2.5.18 and
-- 3.2.5.13): a message of theirs is a channel message without blocks. That an offer of kept bitmaps is always answered
-- by a reply that takes none is this project's own rule.
use Rattle.std.specs.Prelude.{ℕ, Bool, true, false, ◌&&◌, not, List, [], ◌∷◌, ◌++◌, take, drop, fold, Option, Some, None, is_some, Result, Ok, Err, if◌then◌else◌}
use Rattle.gfx_base.specs.declared.refusal.Refusal.{Refusal}
use Rattle.gfx_base.specs.declared.refusal.Refusal.TheVariants.{ChannelLength, PduUnknown, CapsVersion}
use Rattle.gfx_caps.specs.Choice.{binds_small, choice}
use Rattle.gfx_caps.specs.declared.choice.Chosen.{Chosen}
use Rattle.gfx_caps.specs.declared.message.ClientPdu.{ClientPdu}
use Rattle.gfx_caps.specs.declared.message.ClientPdu.TheVariants.{Advertise, Ack, ImportOffer, QoeAck}
use Rattle.gfx_caps.specs.Reading.{client_of}
use Rattle.gfx_import.specs.Messages.{reply_text}
use Rattle.gfx_layout.specs.Shape.{digits, u32}
use Rattle.gfx_pdu.specs.declared.pdu.Pdu.{Pdu}
use Rattle.gfx_pdu.specs.declared.pdu.Pdu.TheVariants.{CapsConfirm}
use Rattle.gfx_script.specs.Scripted.{Script}
use Rattle.gfx_segment.specs.Framing.{Front, Whole, Short, Bad, front, wrapped}
use Rattle.gfx_state.specs.Sending.{sent}
use Rattle.gfx_state.specs.State.{State}
use Rattle.gfx_window.specs.declared.window.AckUnknown.{AckUnknown}
use Rattle.gfx_window.specs.declared.window.Sent.{Sent}
use Rattle.gfx_window.specs.Window.{Window, acknowledged, watched}
use Rattle.gfx_schedule.specs.ServerEnd.{ScheduledEnd, Stop, Refused, Unknown}

-- a server's end that has listened: what it answered, the frames in flight whose acknowledgements it took, and its
-- states right after them
pub record Heard : Type 0 where
  pub end : ScheduledEnd
  pub out : List ℕ
  pub taken : List Sent
  pub states : List State

abbrev pub listening : ScheduledEnd → Heard
listening end = record { end = end; out = []; taken = []; states = [] }

-- it listens no more
abbrev pub stop : Heard → Stop → Heard
stop heard why = record heard { end = record heard.end { heard = []; stopped = Some why } }

-- the confirmation of a version
abbrev pub confirm : Chosen → Pdu
confirm chosen = CapsConfirm chosen.version (digits u32 chosen.flags)

-- a version is confirmed. The small cache may be chosen only where the script's own client has it
unfoldable pub confirms : Script → Heard → Result Chosen Refusal → Heard
confirms script heard (Err r) = stop heard (Refused r)
confirms script heard (Ok chosen) =
    if binds_small chosen.flags && not script.small then stop heard (Refused CapsVersion)
    else record heard { end = record heard.end { confirmed = true }; out = heard.out ++ sent (confirm chosen ∷ []) }

-- a frame is acknowledged: the oldest in flight, with this recorded step, or one that isn't watched. What leaves the
-- flight takes its state with it
unfoldable pub acknowledges : Heard → ℕ → Result (Option ℕ × Window) AckUnknown → Heard
acknowledges heard frame (Err unknown) = stop heard (Unknown unknown)
acknowledges heard frame (Ok (None, window)) =
    record heard { end = record heard.end { window = window; ends = watched window.suspended heard.end.ends } }
acknowledges heard frame (Ok (Some step, window)) = record heard {
  end = record heard.end { window = window; ends = watched window.suspended (drop 1 heard.end.ends) };
  taken = heard.taken ++ record { frame = frame; step = step } ∷ [];
  states = heard.states ++ take 1 heard.end.ends;
}

-- kept bitmaps are offered: none is taken. Where no version is confirmed yet the offer is refused
unfoldable pub declines : Heard → Bool → Heard
declines heard true = record heard { out = heard.out ++ wrapped (reply_text 0) }
declines heard false = stop heard (Refused PduUnknown)

-- a message, or why there is none
unfoldable pub told : Script → Heard → Result ClientPdu Refusal → Heard
told script heard (Err r) = stop heard (Refused r)
told script heard (Ok (Advertise sets)) = confirms script heard (choice sets)
told script heard (Ok (Ack depth frame total)) = acknowledges heard frame (acknowledged heard.end.window heard.end.window.flying depth frame)
told script heard (Ok (ImportOffer entries)) = declines heard heard.end.confirmed
told script heard (Ok (QoeAck frame timestamp decoding rendering)) = heard

-- what the bytes that are held come to
unfoldable pub judge : Script → Heard → List ℕ → Front → Heard
judge script heard bytes (Whole message after) = told script (record heard { end = record heard.end { heard = after } }) (client_of message)
judge script heard bytes Short = record heard { end = record heard.end { heard = bytes } }
judge script heard bytes Bad = stop heard (Refused ChannelLength)

-- what goes on only where nothing has stopped it
abbrev pub unless_stopped : Heard → Heard → Heard
unless_stopped heard next = if is_some heard.end.stopped then heard else next

-- one byte; behind a stop there is none
unfoldable pub hear : Script → Heard → ℕ → Heard
hear script heard byte =
    unless_stopped heard (judge script heard (heard.end.heard ++ byte ∷ []) (front (heard.end.heard ++ byte ∷ [])))

-- one byte after another
unfoldable pub hears : Script → Heard → List ℕ → Heard
hears script heard bytes = fold (hear script) heard bytes
