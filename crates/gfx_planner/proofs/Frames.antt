-- What putting out a step in its frame comes to.
use Rattle.std.proofs.Common.{◌≡◌, ℕ, ◌+◌, ◌<◌, ◌^◌, true, false, cond, List, [], ◌∷◌, ◌++◌, Option, Some, None, is_some, Result, Ok, Err, refl, sym, ap, ◌∙◌, subst, append_assoc}
use Rattle.gfx_base.specs.declared.answer.NoMemory.{NoMemory}
use Rattle.gfx_pdu.specs.declared.pdu.Pdu.{Pdu}
use Rattle.gfx_script.specs.Kinds.{KindedStep}
use Rattle.gfx_script.specs.Scripted.{Script}
use Rattle.gfx_script.specs.declared.step.Step.{Step}
use Rattle.gfx_script.specs.declared.step.Step.TheVariants.{Frame}
use Rattle.gfx_state.specs.Sending.{sent}
use Rattle.gfx_state.proofs.Sent.{sent-append}
use Rattle.gfx_planner.specs.Server.{Server}
use Rattle.gfx_planner.specs.Wire.{messages, frame_start, frame_end}
use Rattle.gfx_planner.specs.After.{after_put, after_open, after_close}
use Rattle.gfx_planner.specs.Allowed.{IsAllowed, IsAllowedStep, IsInFrame, KeepsFrame}
use Rattle.gfx_planner.specs.Planned.{Planned, ready, PutsFront, Sends, PutsStep, AllSent, PartSent, SendsOn}
use Rattle.gfx_planner.specs.Stream.{opening, opened, closing, closed, sends, served, PutsInFrame}
use Rattle.gfx_planner.proofs.Calls.{same_out}
use Rattle.gfx_planner.proofs.Streams.{opened_fine, allowed_opened, put_in_frame}

-- a planner that isn't spent goes on from its server's end
pub is_ready : (planned : Planned) → planned.spent ≡ false → planned ≡ ready planned.server
is_ready planned fresh = λ i. record { server = planned.server; spent = fresh i }

-- more messages behind those that were put out
pub all_both : (new : Planned) (before mid now : List ℕ) (xs ys : List Pdu) (server : Server) → mid ≡ before ++ sent xs → AllSent new mid now ys server → AllSent new before now (xs ++ ys) server
all_both new before mid now xs ys server first second =
    (second.0, second.1 ∙ ap (λ z. z ++ sent ys) first ∙ append_assoc before (sent xs) (sent ys) ∙ ap (λ z. before ++ z) (sym (sent-append xs ys)))

pub part_both : (new : Planned) (before mid now : List ℕ) (xs ys : List Pdu) → mid ≡ before ++ sent xs → PartSent new mid now ys → PartSent new before now (xs ++ ys)
part_both new before mid now xs ys first second = (
  second.0,
  record {
    part = sent xs ++ second.1.part;
    rest = second.1.rest;
    cut = sent-append xs ys ∙ ap (λ z. sent xs ++ z) second.1.cut ∙ sym (append_assoc (sent xs) second.1.part second.1.rest);
    gained = second.1.gained ∙ ap (λ z. z ++ second.1.part) first ∙ append_assoc before (sent xs) second.1.part;
  },
)

-- a front was put out of what was due
pub part_front : (new : Planned) (before now : List ℕ) (xs ys : List Pdu) → PartSent new before now xs → PartSent new before now (xs ++ ys)
part_front new before now xs ys p = (
  p.0,
  record {
    part = p.1.part;
    rest = p.1.rest ++ sent ys;
    cut = sent-append xs ys ∙ ap (λ z. z ++ sent ys) p.1.cut ∙ append_assoc p.1.part p.1.rest (sent ys);
    gained = p.1.gained;
  },
)

-- frames ------------------------------------------------------------------------------------------

pub already_open : (planned : Planned) (out : List ℕ) → planned.spent ≡ false → is_some planned.server.state.frame ≡ true
    → (planned ≡ ready (opened planned.server)) × (out ≡ out ++ sent (opening planned.server))
unfolding opened opening sent
already_open planned out fresh within =
    let server : Server = planned.server in (
      is_ready planned fresh ∙ ap (λ b. ready (cond b server (after_open server))) (sym within),
      same_out out ∙ ap (λ b. out ++ sent (cond b [] (frame_start server ∷ []))) (sym within),
    )

pub opening_is : (server : Server) → is_some server.state.frame ≡ false → (opening server ≡ frame_start server ∷ []) × (opened server ≡ after_open server)
unfolding opened opening
opening_is server between = (ap (λ b. cond b [] (frame_start server ∷ [])) between, ap (λ b. cond b server (after_open server)) between)

pub opened_now : (new : Planned) (before now : List ℕ) (server : Server) → is_some server.state.frame ≡ false
    → AllSent new before now (frame_start server ∷ []) (after_open server) → AllSent new before now (opening server) (opened server)
opened_now new before now server between s =
    let is = opening_is server between in
    (s.0 ∙ ap (λ z. ready z) (sym is.1), s.1 ∙ ap (λ z. before ++ sent z) (sym is.0))

pub not_opened : (new : Planned) (before now : List ℕ) (server : Server) → is_some server.state.frame ≡ false
    → PartSent new before now (frame_start server ∷ []) → PartSent new before now (opening server)
not_opened new before now server between s = (s.0, subst (λ z. PutsFront before now (sent z)) (sym (opening_is server between).0) s.1)

pub closed_now : (result : Result (Unit {0}) NoMemory) (old new : Planned) (before now : List ℕ) (step : Step) → step ≡ Frame
    → Sends result old new before now (frame_end old.server ∷ []) (after_close old.server) → SendsOn result new before now (closing old.server step) (closed old.server step)
unfolding closing closed
closed_now (Ok done) old new before now step is s = rw is s.1
closed_now (Err e) old new before now step is s = rw is s.0

-- a step of another word leaves the frame open
pub left_open : (planned : Planned) (out : List ℕ) (step : Step) → planned.spent ≡ false → (step ≡ Frame → ⊥)
    → (planned ≡ ready (closed planned.server step)) × (out ≡ out ++ sent (closing planned.server step))
unfolding closing closed sent
left_open planned out Frame fresh other = absurd (other refl)
left_open planned out step fresh other = (is_ready planned fresh, same_out out)

-- the whole ---------------------------------------------------------------------------------------

pub front_fails : (script : Script) (e : NoMemory) (server : Server) (new : Planned) (before now : List ℕ) (one : Option KindedStep) → IsAllowedStep script server one
    → PartSent new before now (opening server) → PutsInFrame script (Err e) server new before now one
unfolding sends
front_fails script e server new before now None allowed s = absurd allowed
front_fails script e server new before now (Some one) allowed s = part_front new before now (opening server) _ s

pub put_fails : (script : Script) (e f : NoMemory) (server : Server) (old new : Planned) (before mid now : List ℕ) (one : Option KindedStep) → AllSent old before mid (opening server) (opened server)
    → PutsStep script (Err f) old new mid now one → PutsInFrame script (Err e) server new before now one
unfolding sends
put_fails script e f server old new before mid now None first s = absurd (let fresh : old.spent ≡ false = ap (λ p. p.spent) first.0 in let was = s.0 in cc)
put_fails script e f server old new before mid now (Some one) first s =
    let put = opened server in
    let due = subst (λ (p : Planned). PartSent new mid now (messages script p.server one)) first.0 s.0 in
    part_both new before mid now (opening server) _ first.1 (part_front new mid now (messages script put one) (closing (after_put script put one) one.step) due)

pub put_and_closed : (script : Script) (result : Result (Unit {0}) NoMemory) (server : Server) (old via new : Planned) (before mid late now : List ℕ) (one : KindedStep) → AllSent old before mid (opening server) (opened server)
    → PutsStep script (Ok tt) old via mid late (Some one) → SendsOn result new late now (closing via.server one.step) (closed via.server one.step) → PutsInFrame script result server new before now (Some one)
unfolding sends served
put_and_closed script result server old via new before mid late now one first put close =
    let is = first.0 in
    let ready_is : via ≡ ready (after_put script (opened server) one) = put.0.1.0 ∙ ap (λ (p : Planned). ready (after_put script p.server one)) is in
    let wrote : late ≡ mid ++ sent (messages script (opened server) one) = put.0.1.1 ∙ ap (λ (p : Planned). mid ++ sent (messages script p.server one)) is in
    let ended = subst (λ (p : Planned). SendsOn result new late now (closing p.server one.step) (closed p.server one.step)) ready_is close in
    by result ended wrote
  where
    by : (r : Result (Unit {0}) NoMemory) → SendsOn r new late now (closing (after_put script (opened server) one) one.step) (closed (after_put script (opened server) one) one.step)
        → late ≡ mid ++ sent (messages script (opened server) one) → PutsInFrame script r server new before now (Some one)
    by (Ok done) ended wrote = all_both new before mid now (opening server) _ _ first.1 (all_both new mid late now (messages script (opened server) one) _ _ wrote ended)
    by (Err e) ended wrote = part_both new before mid now (opening server) _ first.1 (part_both new mid late now (messages script (opened server) one) _ wrote ended)

-- a planner whose frame was opened is in its frame
pub in_frame : (server : Server) (planned : Planned) → server.frames + 1 < 2 ^ 32 → KeepsFrame server → planned ≡ ready (opened server) → IsInFrame planned.server
in_frame server planned few keeps is = subst (λ (p : Planned). IsInFrame p.server) (sym is) (opened_fine server few keeps).1

-- a step that may be put still may once its frame is open
pub allowed_in_frame : (script : Script) (server : Server) (planned : Planned) (one : Option KindedStep) → server.frames + 1 < 2 ^ 32 → KeepsFrame server → planned ≡ ready (opened server) → IsAllowedStep script server one
    → IsAllowedStep script planned.server one
allowed_in_frame script server planned None few keeps is allowed = absurd allowed
allowed_in_frame script server planned (Some one) few keeps is allowed = subst (λ (p : Planned). IsAllowed script p.server one) (sym is) (allowed_opened script server one few keeps allowed)

-- and leaves it open
pub still_in_frame : (script : Script) (old new : Planned) (mid now : List ℕ) (one : Option KindedStep) → IsInFrame old.server → IsAllowedStep script old.server one → PutsStep script (Ok tt) old new mid now one → IsInFrame new.server
still_in_frame script old new mid now None within allowed put = absurd allowed
still_in_frame script old new mid now (Some one) within allowed put = subst (λ (p : Planned). IsInFrame p.server) (sym put.0.1.0) (put_in_frame script old.server one within allowed)
