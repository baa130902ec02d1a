-- Two states that differ in pixels alone, and are bound by the same limits, accept the same messages and refuse the same: this
-- project's own law. The ends of a session that begins with kept bitmaps are such states ([MS-RDPEGFX] 3.2.5.13).
use Rattle.std.specs.Prelude.{◌≡◌, List}
use Rattle.std.specs.Result.{is_ok}
use Rattle.gfx_bitmap_cache.specs.Slots.{Entry}
use Rattle.gfx_pdu.specs.declared.pdu.Pdu.{Pdu}
use Rattle.gfx_schedule.specs.Starts.{from_kept}
use Rattle.gfx_script.specs.Scripted.{Script}
use Rattle.gfx_state.specs.Alike.{Alike}
use Rattle.gfx_state.specs.State.{State}
use Rattle.gfx_state.specs.Step.{step}

-- whatever the message is
abbrev pub AlikeRefuseTogether : Type 0
AlikeRefuseTogether = (s t : State) (pdu : Pdu) → Alike s t → s.cache.small ≡ t.cache.small → is_ok (step s pdu) ≡ is_ok (step t pdu)

-- the two ends of a session that begins with kept bitmaps are bound by the same limits
abbrev pub KeptLimitsAreTheSame : Type 0
KeptLimitsAreTheSame =
    (script : Script) (server client : List Entry)
    → (from_kept script server client).server.state.cache.small ≡ (from_kept script server client).client.cache.small
