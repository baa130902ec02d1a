-- A server's end whose script grows while it goes on: what is pushed, and for what it stands then. This project's own rule.
use Rattle.std.specs.Prelude.{◌≡◌, ℕ, ◌+◌, ◌-◌, Bool, true, false, ◌&&◌, not, nat_le, List, length, drop, if◌then◌else◌, Option, Result, Ok, Err}
use Rattle.std.specs.List.{AllByRecursion}
use Rattle.gfx_base.specs.Results.{◌>>=◌}
use Rattle.gfx_base.specs.declared.answer.Cause.{Cause}
use Rattle.gfx_base.specs.declared.answer.Cause.TheVariants as cause
use Rattle.gfx_base.specs.declared.geometry.Point.{Point}
use Rattle.gfx_bitmap_cache.specs.Slots.{Entry}
use Rattle.gfx_caps.specs.Offers.{small_of}
use Rattle.gfx_import.specs.Imported.{imported}
use Rattle.gfx_schedule.specs.ServerEnd.{is_none}
use Rattle.gfx_script.specs.declared.TheConstants.{MOST_STEPS}
use Rattle.gfx_script.specs.declared.error.ScriptKind.{ScriptKind}
use Rattle.gfx_script.specs.declared.error.ScriptKind.TheVariants.{Name}
use Rattle.gfx_script.specs.declared.head.HeadParts.{HeadParts}
use Rattle.gfx_script.specs.declared.picture.Picture.{Picture}
use Rattle.gfx_script.specs.declared.step.Kind.{Kind}
use Rattle.gfx_script.specs.declared.step.Step.{Step}
use Rattle.gfx_script.specs.Checks.{Held, sides_of_all}
use Rattle.gfx_script.specs.Drafts.{Draft, GoesOn, frame_ended, painted, pushed, steps_so_far}
use Rattle.gfx_script.specs.Forgetting.{PaintsFrom}
use Rattle.gfx_script.specs.Heads.{script_from}
use Rattle.gfx_script.specs.Script.{frames_in, is_frame, is_paint}
use Rattle.gfx_script.specs.Scripted.{Script}
use Rattle.gfx_script.specs.Starting.{starts_of}
use Rattle.gfx_window.specs.Window.{has_room}
use Rattle.gfx_session.specs.Kept.{IsServerEndFrom}
use Rattle.gfx_session.specs.declared.server_end.ServerEnd.{ServerEnd}
use Rattle.gfx_session.specs.declared.live_end.KeptFault.{KeptFault}
use Rattle.gfx_session.specs.declared.live_end.KeptFault.TheVariants as kept
use Rattle.gfx_session.specs.declared.live_end.LiveEnd.{LiveEnd}
use Rattle.gfx_session.specs.declared.live_end.LiveFault.{LiveFault}
use Rattle.gfx_session.specs.declared.live_end.LiveFault.TheVariants.{Wrong, Full, Memory}

-- what is wrong with a picture or a step, as a live end tells it
abbrev pub fault_of_flaw : Cause ScriptKind → LiveFault
fault_of_flaw (cause.Refused kind) = Wrong kind
fault_of_flaw cause.Memory = Memory

-- a script has no room for a step: the last place is that of the frame which ends the steps before it
abbrev pub is_full : Draft → Step → Bool
is_full draft step = nat_le MOST_STEPS (if is_frame step then steps_so_far draft else steps_so_far draft + 1)

-- `frame` is pushed: it takes all that was pushed since the last one into the script
unfoldable pub frame_fed : LiveEnd → Result LiveEnd ScriptKind
frame_fed live = do
  ended ← frame_ended live.end.script live.draft
  Ok (record live { end = record live.end { script = ended.0 }; draft = ended.1 })

-- any other step waits for that
unfoldable pub step_fed : LiveEnd → Step → Result LiveEnd ScriptKind
step_fed live step = do
  draft ← pushed live.draft step
  Ok (record live { draft = draft })

-- a paint is pushed with its picture alone, by another call
abbrev pub fed : LiveEnd → Step → Result LiveEnd ScriptKind
fed live step = if is_paint step then Err Name else (if is_frame step then frame_fed live else step_fed live step)

-- a picture is pushed with its paint
unfoldable pub paint_fed : LiveEnd → Picture → ℕ → Point → Option Kind → Option ℕ → Result LiveEnd ScriptKind
paint_fed live picture id at kind glyph = do
  draft ← painted live.draft picture id at kind glyph
  Ok (record live { draft = draft })

-- what is answered to what is pushed: Full first, and then what is due. An error leaves all as it was
abbrev pub Feeds : Result (Unit {0}) LiveFault → Bool → Result LiveEnd ScriptKind → LiveEnd → LiveEnd → Type 0
Feeds (Ok done) full due old new = (full ≡ false) × (due ≡ Ok new)
Feeds (Err Full) full due old new = (full ≡ true) × (new ≡ old)
Feeds (Err (Wrong kind)) full due old new = (full ≡ false) × (due ≡ Err kind) × (new ≡ old)
Feeds (Err Memory) full due old new = new ≡ old

-- what holds of every live end that is made, and stays through each of its calls: it is a server's end, what was pushed
-- since the last frame passes the checks behind the script, and paints pictures of its own
pub record IsLive (live : LiveEnd) : Type 0 where
  pub held : Held
  pub sides : held.pictures ≡ sides_of_all live.end.script.pictures
  pub end : IsServerEndFrom held live.end
  pub draft : GoesOn end.good.held (length live.end.script.steps) live.draft
  pub own : AllByRecursion (PaintsFrom (length live.end.script.pictures)) live.draft.steps

-- ---- beginning with kept bitmaps

-- the script of a live end that begins with what is imported of these two files
abbrev pub script_kept : HeadParts → List Entry → List Entry → Script
script_kept head server client = script_from head (starts_of (imported server client (small_of head.offers)))

-- how it begins, where the bitmaps that are imported have the same sides at both ends, or don't
abbrev pub BeginsKept : Result LiveEnd KeptFault → Bool → Type 0
BeginsKept (Ok live) same = same ≡ true
BeginsKept (Err kept.Sides) same = same ≡ false
BeginsKept (Err kept.Memory) same = same ≡ true

-- ---- what a caller asks

-- all of the script was sent, and nothing waits
abbrev pub has_sent_all : ServerEnd → Bool
has_sent_all end = is_none end.window.pending && is_none (drop end.last end.script.steps)

-- all that was pushed in whole frames was sent, and a frame that were pushed now could go at once
abbrev pub wants_frame : LiveEnd → Bool
wants_frame live = not live.end.spent && (live.end.confirmed && (has_room live.end.window && has_sent_all live.end))

-- how many of the frames that were pushed weren't sent; none will be of one that is spent
abbrev pub frames_behind : LiveEnd → ℕ
frames_behind live =
    if live.end.spent then 0 else frames_in (drop (live.end.last - length live.end.window.pending) live.end.script.steps)

-- how many of the steps that were pushed weren't sent; none will be of one that is spent
abbrev pub steps_behind : LiveEnd → ℕ
steps_behind live =
    if live.end.spent then 0
    else length live.end.window.pending + (length live.end.script.steps - live.end.last) + length live.draft.steps
