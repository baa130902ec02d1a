-- Listening looks at neither the pictures and steps of a script nor the items that wait.
use Rattle.std.proofs.Common.{◌≡◌, ℕ, ◌==◌, Bool, true, false, ◌&&◌, not, cond, List, [], ◌∷◌, ◌++◌, fold, is_some, Option, Some, None, Result, Ok, Err, refl, ap, ◌∙◌}
use Rattle.gfx_base.specs.declared.refusal.Refusal.{Refusal}
use Rattle.gfx_base.specs.declared.refusal.Refusal.TheVariants.{CapsVersion}
use Rattle.gfx_caps.specs.Choice.{binds_small, choice}
use Rattle.gfx_caps.specs.Reading.{client_of}
use Rattle.gfx_caps.specs.declared.choice.Chosen.{Chosen}
use Rattle.gfx_caps.specs.declared.message.ClientPdu.{ClientPdu}
use Rattle.gfx_caps.specs.declared.message.ClientPdu.TheVariants.{Advertise, Ack, ImportOffer, QoeAck}
use Rattle.gfx_caps.specs.declared.message.TheConstants.{SUSPENDS}
use Rattle.gfx_script.specs.Scripted.{Script}
use Rattle.gfx_script.specs.declared.picture.Picture.{Picture}
use Rattle.gfx_script.specs.declared.step.Step.{Step}
use Rattle.gfx_segment.specs.Framing.{Front, Whole, Short, Bad, front}
use Rattle.gfx_state.specs.Sending.{sent}
use Rattle.gfx_window.specs.Window.{Window, with_pending, is_unwatched, left_flying, acknowledged, acknowledged_late}
use Rattle.gfx_window.specs.declared.window.AckUnknown.{AckUnknown}
use Rattle.gfx_window.specs.declared.window.Queued.{Queued}
use Rattle.gfx_window.specs.declared.window.Sent.{Sent}
use Rattle.gfx_schedule.specs.Hearing.{Heard, stop, confirm, confirms, acknowledges, declines, told, judge, hear, hears}
use Rattle.gfx_schedule.specs.ServerEnd.{ScheduledEnd, Refused}
use Rattle.gfx_schedule.proofs.FeedingScripts.{other}

-- of a script it looks at the limits alone -------------------------------------------------------------------------

module _ (script : Script) (pictures : List Picture) (steps : List Step) where
  abbrev longer : Script
  longer = other script pictures steps

  confirms_by : (heard : Heard) (chosen : Result Chosen Refusal) → confirms longer heard chosen ≡ confirms script heard chosen
  unfolding confirms
  confirms_by heard (Err r) = refl
  confirms_by heard (Ok chosen) = refl

  told_by : (heard : Heard) (word : Result ClientPdu Refusal) → told longer heard word ≡ told script heard word
  unfolding told
  told_by heard (Err r) = refl
  told_by heard (Ok (Advertise sets)) = confirms_by heard (choice sets)
  told_by heard (Ok (Ack depth frame total)) = refl
  told_by heard (Ok (ImportOffer entries)) = refl
  told_by heard (Ok (QoeAck frame timestamp decoding rendering)) = refl

  judge_by : (heard : Heard) (bytes : List ℕ) (found : Front) → judge longer heard bytes found ≡ judge script heard bytes found
  unfolding judge
  judge_by heard bytes (Whole message after) = told_by (record heard { end = record heard.end { heard = after } }) (client_of message)
  judge_by heard bytes Short = refl
  judge_by heard bytes Bad = refl

  hear_by : (heard : Heard) (byte : ℕ) → hear longer heard byte ≡ hear script heard byte
  unfolding hear
  hear_by heard byte =
      let bytes : List ℕ = heard.end.heard ++ byte ∷ [] in
      ap (cond (is_some heard.end.stopped) heard) (judge_by heard bytes (front bytes))

  pub hears_by : (heard : Heard) (bytes : List ℕ) → hears longer heard bytes ≡ hears script heard bytes
  unfolding hears
  hears_by heard [] = refl
  hears_by heard (byte ∷ bytes) = ap (λ z. fold (hear longer) z bytes) (hear_by heard byte) ∙ hears_by (hear script heard byte) bytes

-- and of a window at what is in flight alone -----------------------------------------------------------------------

-- the same server's end, with other items that wait
abbrev pub waits : List Queued → ScheduledEnd → ScheduledEnd
waits items end = record end { window = with_pending end.window items }

abbrev pub heard_waits : List Queued → Heard → Heard
heard_waits items heard = record heard { end = waits items heard.end }

either_waits : (items : List Queued) (b : Bool) (x y : Heard) → cond b (heard_waits items x) (heard_waits items y) ≡ heard_waits items (cond b x y)
either_waits items true x y = refl
either_waits items false x y = refl

confirms_waits : (script : Script) (items : List Queued) (heard : Heard) (chosen : Result Chosen Refusal) → confirms script (heard_waits items heard) chosen ≡ heard_waits items (confirms script heard chosen)
unfolding confirms
confirms_waits script items heard (Err r) = refl
confirms_waits script items heard (Ok chosen) =
    either_waits items (binds_small chosen.flags && not script.small) (stop heard (Refused CapsVersion)) (record heard { end = record heard.end { confirmed = true }; out = heard.out ++ sent (confirm chosen ∷ []) })

-- what is found among the frames in flight
abbrev found_waits : List Queued → Result (Option ℕ × Window) AckUnknown → Result (Option ℕ × Window) AckUnknown
found_waits items (Err unknown) = Err unknown
found_waits items (Ok found) = Ok (found.0, with_pending found.1 items)

either_found : (items : List Queued) (b : Bool) (x y : Result (Option ℕ × Window) AckUnknown) → cond b (found_waits items x) (found_waits items y) ≡ found_waits items (cond b x y)
either_found items true x y = refl
either_found items false x y = refl

left_waits : (items : List Queued) (suspends : Bool) (window : Window) (flying : List Sent) → left_flying suspends (with_pending window items) flying ≡ with_pending (left_flying suspends window flying) items
left_waits items true window flying = refl
left_waits items false window flying = refl

late_waits : (items : List Queued) (window : Window) (oldest : Option ℕ) (depth frame : ℕ) → acknowledged_late (with_pending window items) oldest depth frame ≡ found_waits items (acknowledged_late window oldest depth frame)
late_waits items window oldest depth frame =
    ap (λ z. cond (is_unwatched window.unwatched frame) (Ok (None, z)) (Err (record { id = frame; oldest = oldest }))) (left_waits items (depth == SUSPENDS) window window.flying)
    ∙ either_found items (is_unwatched window.unwatched frame) (Ok (None, left_flying (depth == SUSPENDS) window window.flying)) (Err (record { id = frame; oldest = oldest }))

acknowledged_waits : (items : List Queued) (window : Window) (flying : List Sent) (depth frame : ℕ) → acknowledged (with_pending window items) flying depth frame ≡ found_waits items (acknowledged window flying depth frame)
unfolding acknowledged
acknowledged_waits items window [] depth frame = late_waits items window None depth frame
acknowledged_waits items window (first ∷ others) depth frame =
    (λ i. cond (first.frame == frame) (Ok (Some first.step, left_waits items (depth == SUSPENDS) window others i)) (late_waits items window (Some first.frame) depth frame i))
    ∙ either_found items (first.frame == frame) (Ok (Some first.step, left_flying (depth == SUSPENDS) window others)) (acknowledged_late window (Some first.frame) depth frame)

acknowledges_waits : (items : List Queued) (heard : Heard) (frame : ℕ) (found : Result (Option ℕ × Window) AckUnknown) → acknowledges (heard_waits items heard) frame (found_waits items found) ≡ heard_waits items (acknowledges heard frame found)
unfolding acknowledges
acknowledges_waits items heard frame (Err unknown) = refl
acknowledges_waits items heard frame (Ok (None, window)) = refl
acknowledges_waits items heard frame (Ok (Some step, window)) = refl

declines_waits : (items : List Queued) (heard : Heard) (confirmed : Bool) → declines (heard_waits items heard) confirmed ≡ heard_waits items (declines heard confirmed)
unfolding declines
declines_waits items heard true = refl
declines_waits items heard false = refl

told_waits : (script : Script) (items : List Queued) (heard : Heard) (word : Result ClientPdu Refusal) → told script (heard_waits items heard) word ≡ heard_waits items (told script heard word)
unfolding told
told_waits script items heard (Err r) = refl
told_waits script items heard (Ok (Advertise sets)) = confirms_waits script items heard (choice sets)
told_waits script items heard (Ok (Ack depth frame total)) =
    ap (acknowledges (heard_waits items heard) frame) (acknowledged_waits items heard.end.window heard.end.window.flying depth frame)
    ∙ acknowledges_waits items heard frame (acknowledged heard.end.window heard.end.window.flying depth frame)
told_waits script items heard (Ok (ImportOffer entries)) = declines_waits items heard heard.end.confirmed
told_waits script items heard (Ok (QoeAck frame timestamp decoding rendering)) = refl

judge_waits : (script : Script) (items : List Queued) (heard : Heard) (bytes : List ℕ) (found : Front) → judge script (heard_waits items heard) bytes found ≡ heard_waits items (judge script heard bytes found)
unfolding judge
judge_waits script items heard bytes (Whole message after) = told_waits script items (record heard { end = record heard.end { heard = after } }) (client_of message)
judge_waits script items heard bytes Short = refl
judge_waits script items heard bytes Bad = refl

hear_waits : (script : Script) (items : List Queued) (heard : Heard) (byte : ℕ) → hear script (heard_waits items heard) byte ≡ heard_waits items (hear script heard byte)
unfolding hear
hear_waits script items heard byte =
    let bytes : List ℕ = heard.end.heard ++ byte ∷ [] in
    ap (cond (is_some heard.end.stopped) (heard_waits items heard)) (judge_waits script items heard bytes (front bytes))
    ∙ either_waits items (is_some heard.end.stopped) heard (judge script heard bytes (front bytes))

pub hears_waits : (script : Script) (items : List Queued) (heard : Heard) (bytes : List ℕ) → hears script (heard_waits items heard) bytes ≡ heard_waits items (hears script heard bytes)
unfolding hears
hears_waits script items heard [] = refl
hears_waits script items heard (byte ∷ bytes) = ap (λ z. fold (hear script) z bytes) (hear_waits script items heard byte) ∙ hears_waits script items (hear script heard byte) bytes

-- so what waits still waits
pub hears_pending : (script : Script) (heard : Heard) (bytes : List ℕ) → (hears script heard bytes).end.window.pending ≡ heard.end.window.pending
hears_pending script heard bytes = ap (λ z. z.end.window.pending) (hears_waits script heard.end.window.pending heard bytes)
