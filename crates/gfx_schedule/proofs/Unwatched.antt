-- A client that suspends its acknowledgements, and goes on with them.
use Rattle.std.proofs.Common.{◌≡◌, ℕ, ◌<◌, ◌≤◌, ◌^◌, ◌==◌, Bool, true, false, ◌&&◌, not, cond, List, [], ◌∷◌, ◌++◌, fold, length, take, is_some, Option, Some, None, Result, Ok, Err, refl, sym, ap, ◌∙◌, subst, append_assoc, arith, inl, inr}
use Rattle.std.proofs.lemmas.Bool.{cases_Bool, le-leb}
use Rattle.std.proofs.lemmas.List.{append-nil}
use Rattle.gfx_base.specs.declared.TheConstants.{MOST_MESSAGE}
use Rattle.gfx_base.specs.declared.refusal.Refusal.{Refusal}
use Rattle.gfx_base.specs.declared.refusal.Refusal.TheVariants.{CapsVersion}
use Rattle.gfx_caps.proofs.Laws.{client_of-spells, spelling-spells}
use Rattle.gfx_caps.proofs.SizeLaws.{length-spelling, size-ack}
use Rattle.gfx_caps.specs.Choice.{binds_small, choice}
use Rattle.gfx_caps.specs.Reading.{client_of}
use Rattle.gfx_caps.specs.Spelling.{spelling, Fits}
use Rattle.gfx_caps.specs.declared.choice.Chosen.{Chosen}
use Rattle.gfx_caps.specs.declared.message.ClientPdu.{ClientPdu}
use Rattle.gfx_caps.specs.declared.message.ClientPdu.TheVariants.{Advertise, Ack, ImportOffer, QoeAck}
use Rattle.gfx_caps.specs.declared.message.TheConstants.{SUSPENDS}
use Rattle.gfx_client.specs.Replies.{alone, IsRead}
use Rattle.gfx_script.specs.Scripted.{Script}
use Rattle.gfx_segment.specs.Framing.{Front, Whole, Short, Bad, front}
use Rattle.gfx_segment.proofs.FrontLemmas.{front-nil}
use Rattle.gfx_segment.proofs.ReadBackLemmas.{front-prefixed}
use Rattle.gfx_state.specs.Sending.{sent}
use Rattle.gfx_window.specs.declared.window.AckUnknown.{AckUnknown}
use Rattle.gfx_window.specs.declared.window.Sent.{Sent}
use Rattle.gfx_window.specs.Window.{Window, is_unwatched, left_flying, acknowledged, acknowledged_late}
use Rattle.gfx_schedule.specs.Hearing.{Heard, listening, stop, confirm, confirms, acknowledges, declines, told, judge, unless_stopped, hear, hears}
use Rattle.gfx_schedule.specs.ServerEnd.{ScheduledEnd, Stop, Refused}
use Rattle.gfx_schedule.specs.Suspending.{Unwatches, is_oldest, IsTakenBy, UnwatchedIsTaken, ToldStaysTold}
use Rattle.gfx_schedule.specs.Words.{holding, tell}
use Rattle.gfx_schedule.proofs.Listening.{hears-nil, hears_more, hears_whole}

-- one message, whole -----------------------------------------------------------------------------------------------

pub ack_read : (depth frame total : ℕ) → Fits (Ack depth frame total) → IsRead (Ack depth frame total) []
ack_read depth frame total fits =
    let word = Ack depth frame total in
    let long = length-spelling word ∙ size-ack depth frame total in
    record { whole = front-prefixed (spelling word) [] (record { some = omega (arith, long); most = omega (arith, long) }); same = client_of-spells (spelling word) word fits (spelling-spells word) }

pub one_word : (script : Script) (heard : Heard) (word : ClientPdu) → heard.end.stopped ≡ None → heard.end.heard ≡ [] → IsRead word [] → hears script heard (alone word) ≡ tell script heard word
one_word script heard word goes none is =
    let whole : front (heard.end.heard ++ alone word) ≡ Whole (spelling word) [] = ap (λ z. front (z ++ alone word)) none ∙ ap front (sym (append-nil (alone word))) ∙ is.whole in
    hears_whole script heard (alone word) (spelling word) [] goes (ap front none ∙ front-nil) whole
    ∙ ap (λ z. hears script (told script (holding heard []) z) []) is.same
    ∙ hears-nil script (tell script heard word)

-- of a frame that isn't watched ------------------------------------------------------------------------------------

-- what is found of it
pub record IsFound (flying : List Sent) (frame : ℕ) (due : Result (Option ℕ × Window) AckUnknown) : Type 0 where
  pub step : Option ℕ
  pub after : Window
  pub is : due ≡ Ok (step, after)
  pub untold : is_oldest flying frame ≡ false → step ≡ None

pub late_found : (window : Window) (oldest : Option ℕ) (last depth frame : ℕ) → window.unwatched ≡ Some last → frame ≤ last
    → acknowledged_late window oldest depth frame ≡ Ok (None, left_flying (depth == SUSPENDS) window window.flying)
late_found window oldest last depth frame is within =
    let known : is_unwatched window.unwatched frame ≡ true = ap (λ z. is_unwatched z frame) is ∙ le-leb frame last within in
    ap (λ b. cond b (Ok (None, left_flying (depth == SUSPENDS) window window.flying)) (Err (record { id = frame; oldest = oldest }))) known

found : (window : Window) (flying : List Sent) (last depth frame : ℕ) → window.unwatched ≡ Some last → frame ≤ last → IsFound flying frame (acknowledged window flying depth frame)
unfolding acknowledged
found window [] last depth frame is within =
    record { step = None; after = left_flying (depth == SUSPENDS) window window.flying; is = late_found window None last depth frame is within; untold = λ other. refl }
found window (first ∷ others) last depth frame is within =
    elim (cases_Bool (first.frame == frame)) [
      | inl same ↦ record {
        step = Some first.step;
        after = left_flying (depth == SUSPENDS) window others;
        is = ap (λ b. cond b (Ok (Some first.step, left_flying (depth == SUSPENDS) window others)) (acknowledged_late window (Some first.frame) depth frame)) same;
        untold = λ other. absurd cc;
      }
      | inr other ↦ record {
        step = None;
        after = left_flying (depth == SUSPENDS) window window.flying;
        is =
            ap (λ b. cond b (Ok (Some first.step, left_flying (depth == SUSPENDS) window others)) (acknowledged_late window (Some first.frame) depth frame)) other
            ∙ late_found window (Some first.frame) last depth frame is within;
        untold = λ _. refl;
      }
    ]

taken_by : (end : ScheduledEnd) (frame : ℕ) (heard : Heard) (step : Option ℕ) (after : Window) → heard.end.stopped ≡ None → heard.end.heard ≡ [] → heard.out ≡ [] → heard.taken ≡ []
    → (is_oldest end.window.flying frame ≡ false → step ≡ None) → IsTakenBy end frame (acknowledges heard frame (Ok (step, after)))
unfolding acknowledges
taken_by end frame heard None after goes between silent none untold = record { goes_on = goes; between = between; silent = silent; untold = λ other. none }
taken_by end frame heard (Some step) after goes between silent none untold = record { goes_on = goes; between = between; silent = silent; untold = λ other. absurd (let wrong = untold other in cc) }

pub unwatched_is_taken : UnwatchedIsTaken
unfolding told
unwatched_is_taken script end last depth frame total is within fits =
    let f = found end.window end.window.flying last depth frame is.unwatched within in
    let says : hears script (listening end) (alone (Ack depth frame total)) ≡ acknowledges (holding (listening end) []) frame (Ok (f.step, f.after)) =
    one_word script (listening end) (Ack depth frame total) is.goes_on is.between (ack_read depth frame total fits) ∙ ap (acknowledges (holding (listening end) []) frame) f.is in
    subst (IsTakenBy end frame) (sym says) (taken_by end frame (holding (listening end) []) f.step f.after is.goes_on refl refl refl f.untold)

-- what was told of stays ---------------------------------------------------------------------------------------------

abbrev Adds : List Sent → List Sent → Type 0
Adds before after = (more : List Sent) × (after ≡ before ++ more)

adds_none : (taken : List Sent) → Adds taken taken
adds_none taken = ([], sym (append-nil taken))

adds_either : (b : Bool) (before : List Sent) (one other : Heard) → Adds before one.taken → Adds before other.taken → Adds before (cond b one other).taken
adds_either true before one other first second = first
adds_either false before one other first second = second

adds_both : (one two three : List Sent) → Adds one two → Adds two three → Adds one three
adds_both one two three first second = (first.0 ++ second.0, second.1 ∙ ap (λ z. z ++ second.0) first.1 ∙ append_assoc one first.0 second.0)

confirms_adds : (script : Script) (heard : Heard) (chosen : Result Chosen Refusal) → Adds heard.taken (confirms script heard chosen).taken
unfolding confirms
confirms_adds script heard (Err r) = adds_none heard.taken
confirms_adds script heard (Ok chosen) =
    adds_either (binds_small chosen.flags && not script.small) heard.taken (stop heard (Refused CapsVersion)) (record heard { end = record heard.end { confirmed = true }; out = heard.out ++ sent (confirm chosen ∷ []) })
    (adds_none heard.taken) (adds_none heard.taken)

acknowledges_adds : (heard : Heard) (frame : ℕ) (due : Result (Option ℕ × Window) AckUnknown) → Adds heard.taken (acknowledges heard frame due).taken
unfolding acknowledges
acknowledges_adds heard frame (Err unknown) = adds_none heard.taken
acknowledges_adds heard frame (Ok (None, window)) = adds_none heard.taken
acknowledges_adds heard frame (Ok (Some step, window)) = (record { frame = frame; step = step } ∷ [], refl)

declines_adds : (heard : Heard) (confirmed : Bool) → Adds heard.taken (declines heard confirmed).taken
unfolding declines
declines_adds heard true = adds_none heard.taken
declines_adds heard false = adds_none heard.taken

told_adds : (script : Script) (heard : Heard) (word : Result ClientPdu Refusal) → Adds heard.taken (told script heard word).taken
unfolding told
told_adds script heard (Err r) = adds_none heard.taken
told_adds script heard (Ok (Advertise sets)) = confirms_adds script heard (choice sets)
told_adds script heard (Ok (Ack depth frame total)) = acknowledges_adds heard frame (acknowledged heard.end.window heard.end.window.flying depth frame)
told_adds script heard (Ok (ImportOffer entries)) = declines_adds heard heard.end.confirmed
told_adds script heard (Ok (QoeAck frame timestamp decoding rendering)) = adds_none heard.taken

judge_adds : (script : Script) (heard : Heard) (bytes : List ℕ) (found : Front) → Adds heard.taken (judge script heard bytes found).taken
unfolding judge
judge_adds script heard bytes (Whole message after) = told_adds script (holding heard after) (client_of message)
judge_adds script heard bytes Short = adds_none heard.taken
judge_adds script heard bytes Bad = adds_none heard.taken

hear_adds : (script : Script) (heard : Heard) (byte : ℕ) → Adds heard.taken (hear script heard byte).taken
unfolding hear
hear_adds script heard byte =
    let bytes : List ℕ = heard.end.heard ++ byte ∷ [] in
    adds_either (is_some heard.end.stopped) heard.taken heard (judge script heard bytes (front bytes)) (adds_none heard.taken) (judge_adds script heard bytes (front bytes))

pub told_stays_told : ToldStaysTold
told_stays_told script heard [] = subst (λ z. Adds heard.taken z.taken) (sym (hears-nil script heard)) (adds_none heard.taken)
told_stays_told script heard (byte ∷ bytes) =
    subst (λ z. Adds heard.taken z.taken) (sym (hears_more script heard byte bytes))
    (adds_both heard.taken (hear script heard byte).taken (hears script (hear script heard byte) bytes).taken (hear_adds script heard byte) (told_stays_told script (hear script heard byte) bytes))
