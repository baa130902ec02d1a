-- What a server's end plans is left alone by its client's messages.
use Rattle.std.proofs.Common.{◌≡◌, ℕ, Bool, true, false, cond, List, [], ◌∷◌, ◌++◌, drop, map, is_some, Option, Some, None, Result, Ok, Err, refl, sym, ap, ◌∙◌}
use Rattle.gfx_base.specs.declared.refusal.Refusal.{Refusal}
use Rattle.gfx_caps.specs.Choice.{choice}
use Rattle.gfx_caps.specs.Reading.{client_of}
use Rattle.gfx_caps.specs.declared.choice.Chosen.{Chosen}
use Rattle.gfx_caps.specs.declared.message.ClientPdu.{ClientPdu}
use Rattle.gfx_caps.specs.declared.message.ClientPdu.TheVariants.{Advertise, Ack, ImportOffer, QoeAck}
use Rattle.gfx_schedule.proofs.Listening.{hears-nil, hears_more}
use Rattle.gfx_planner.specs.Server.{Server}
use Rattle.gfx_planner.specs.Planned.{ready}
use Rattle.gfx_schedule.specs.Hearing.{Heard, listening, confirms, acknowledges, declines, told, judge, hear, hears}
use Rattle.gfx_schedule.specs.ServerEnd.{ScheduledEnd}
use Rattle.gfx_script.specs.Kinds.{KindedStep}
use Rattle.gfx_script.specs.Scripted.{Script}
use Rattle.gfx_segment.specs.Framing.{Front, Whole, Short, Bad, front}
use Rattle.gfx_window.specs.Window.{Window, acknowledged}
use Rattle.gfx_window.specs.declared.window.AckUnknown.{AckUnknown}
use Rattle.gfx_session.specs.Kept.{ListensAs, PlansAsBefore, Stands}
use Rattle.gfx_session.specs.declared.server_end.ServerEnd.{ServerEnd}

-- the steps that are left, the number of the last that was queued, and what was planned
abbrev pub plan_of : Heard → ℕ × (List KindedStep × Server)
plan_of heard = (heard.end.last, (heard.end.left, heard.end.server))

one_plan : (test : Bool) (one other : Heard) (plan : ℕ × (List KindedStep × Server)) → plan_of one ≡ plan → plan_of other ≡ plan → plan_of (cond test one other) ≡ plan
one_plan true one other plan one_is other_is = one_is
one_plan false one other plan one_is other_is = other_is

confirms_plan : (script : Script) (heard : Heard) (found : Result Chosen Refusal) → plan_of (confirms script heard found) ≡ plan_of heard
unfolding confirms
confirms_plan script heard (Err r) = refl
confirms_plan script heard (Ok chosen) = one_plan _ _ _ (plan_of heard) refl refl

acknowledges_plan : (heard : Heard) (frame : ℕ) (found : Result (Option ℕ × Window) AckUnknown) → plan_of (acknowledges heard frame found) ≡ plan_of heard
unfolding acknowledges
acknowledges_plan heard frame (Err unknown) = refl
acknowledges_plan heard frame (Ok (None, window)) = refl
acknowledges_plan heard frame (Ok (Some step, window)) = refl

declines_plan : (heard : Heard) (confirmed : Bool) → plan_of (declines heard confirmed) ≡ plan_of heard
unfolding declines
declines_plan heard true = refl
declines_plan heard false = refl

told_plan : (script : Script) (heard : Heard) (message : Result ClientPdu Refusal) → plan_of (told script heard message) ≡ plan_of heard
unfolding told
told_plan script heard (Err r) = refl
told_plan script heard (Ok (Advertise sets)) = confirms_plan script heard (choice sets)
told_plan script heard (Ok (Ack depth frame total)) = acknowledges_plan heard frame (acknowledged heard.end.window heard.end.window.flying depth frame)
told_plan script heard (Ok (ImportOffer entries)) = declines_plan heard heard.end.confirmed
told_plan script heard (Ok (QoeAck frame timestamp decoding rendering)) = refl

judge_plan : (script : Script) (heard : Heard) (bytes : List ℕ) (found : Front) → plan_of (judge script heard bytes found) ≡ plan_of heard
unfolding judge
judge_plan script heard bytes (Whole message after) = told_plan script _ (client_of message)
judge_plan script heard bytes Short = refl
judge_plan script heard bytes Bad = refl

hear_plan : (script : Script) (heard : Heard) (byte : ℕ) → plan_of (hear script heard byte) ≡ plan_of heard
unfolding hear
hear_plan script heard byte =
    one_plan (is_some heard.end.stopped) heard (judge script heard (heard.end.heard ++ byte ∷ []) (front (heard.end.heard ++ byte ∷ []))) (plan_of heard) refl
    (judge_plan script heard (heard.end.heard ++ byte ∷ []) (front (heard.end.heard ++ byte ∷ [])))

pub hears_plan : (script : Script) (heard : Heard) (bytes : List ℕ) → plan_of (hears script heard bytes) ≡ plan_of heard
hears_plan script heard [] = ap plan_of (hears-nil script heard)
hears_plan script heard (byte ∷ bytes) = ap plan_of (hears_more script heard byte bytes) ∙ hears_plan script (hear script heard byte) bytes ∙ hear_plan script heard byte

-- a server's end that isn't spent stands for one of the schedule's again behind what it hears
pub stands_again : (script : Script) (old new : ServerEnd) (at : ScheduledEnd) (piece : List ℕ) → Stands old at → PlansAsBefore old new → ListensAs new (hears script (listening at) piece).end → Stands new (hears script (listening at) piece).end
stands_again script old new at piece s p l =
    let plan = hears_plan script (listening at) piece in
    let last = ap (λ (z : ℕ × (List KindedStep × Server)). z.0) plan in
    record {
      fresh = p.spent ∙ s.fresh;
      left = ap (λ (z : ℕ × (List KindedStep × Server)). map (λ (one : KindedStep). one.step) z.1.0) plan ∙ s.left ∙ (λ i. drop (sym last i) (sym p.script i).steps);
      last = p.last ∙ s.last ∙ sym last;
      listens = l;
      planned = p.planner ∙ s.planned ∙ ap (λ (z : ℕ × (List KindedStep × Server)). ready z.1.1) (sym plan);
    }
