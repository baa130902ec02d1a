-- What the planner's calls answer.
use Rattle.std.proofs.Common.{◌≡◌, ℕ, ◌+◌, ◌<◌, ◌^◌, Bool, true, false, List, [], ◌∷◌, ◌++◌, Option, Some, None, Ok, Err, refl, sym, ap, ◌∙◌, subst, arith}
use Rattle.std.specs.Result.{IsOk, is_ok}
use Rattle.std.specs.Option.{option_map}
use Rattle.std.proofs.lemmas.List.{append-nil}
use Rattle.gfx_base.specs.declared.answer.NoMemory.{NoMemory}
use Rattle.gfx_pdu.specs.declared.pdu.Pdu.{Pdu}
use Rattle.gfx_script.specs.Checks.{Held}
use Rattle.gfx_script.specs.Kinds.{KindedStep, as_kind}
use Rattle.gfx_script.specs.Script.{step_at}
use Rattle.gfx_script.specs.Scripted.{Script}
use Rattle.gfx_script.specs.declared.step.Kind.{Kind}
use Rattle.gfx_script.specs.declared.step.Step.{Step}
use Rattle.gfx_prog_live.specs.Live.{Passes}
use Rattle.gfx_slot_plan.specs.Plan.{Plan}
use Rattle.gfx_state.specs.State.{State}
use Rattle.gfx_state.specs.Step as message
use Rattle.gfx_state.specs.Sending.{all_steps, sent, IsCarried}
use Rattle.gfx_planner.specs.Want.{wanted_after}
use Rattle.gfx_planner.specs.Server.{Server}
use Rattle.gfx_planner.specs.Made.{Made, made}
use Rattle.gfx_planner.specs.Wire.{made_by, frame_start, frame_end}
use Rattle.gfx_planner.specs.After.{passes_by, after_put, after_open, after_close}
use Rattle.gfx_planner.specs.Agree.{Agree}
use Rattle.gfx_planner.specs.Holds.{Holds}
use Rattle.gfx_planner.specs.Allowed.{IsInFrame, IsAllowed, IsAllowedStep, kinded_at}
use Rattle.gfx_planner.specs.Planned.{Planned, PutsFront, SendsMade, SendsMessages, Sends, ShowsStep, PutsStep}
use Rattle.gfx_planner.specs.declared.planner.TheConstants.{MOST_FRAMES}
use Rattle.gfx_planner.proofs.Effects.{after_messages-is}
use Rattle.gfx_planner.proofs.SurfaceSteps.{starts, ends}
use Rattle.gfx_planner.proofs.Whole.{FineStep, gone}
use Rattle.gfx_planner.proofs.Steps.{step_fine, allowed_fine, same_made, messages-is, after_put-is}

-- a planner whose fields are these
abbrev pub planned : State → Plan → Passes → ℕ → Bool → Planned
planned state plan passes frames spent = record { server = record { state = state; plan = plan; passes = passes; frames = frames }; spent = spent }

-- a planner that isn't spent
unspent : {X : Type 0} (a : Bool) → a ≡ false → a ≡ true → X
unspent a fresh was = absurd cc

-- nothing more is put out
pub same_out : (out : List ℕ) → out ≡ out ++ []
same_out out = sym (append-nil out)

-- frames --------------------------------------------------------------------------------------------

-- the message can be sent that opens the next frame
pub may_open : (server : Server) → server.frames < MOST_FRAMES → server.state.frame ≡ None → IsCarried (frame_start server) × IsOk (message.step server.state (frame_start server))
may_open server few none =
    let accepts = starts server.state (server.frames + 1) (omega arith) none in (accepts.carried, ap is_ok accepts.stepped)

-- and that which ends the open one
pub may_close : (server : Server) → server.frames < 2 ^ 32 → IsInFrame server → IsCarried (frame_end server) × IsOk (message.step server.state (frame_end server))
may_close server few within = let accepts = ends server.state server.frames few within in (accepts.carried, ap is_ok accepts.stepped)

pub opens : (id : ℕ) (state new : State) (plan : Plan) (passes : Passes) (frames : ℕ) (spent : Bool) (before now : List ℕ) → spent ≡ false
    → SendsMessages {X = Unit {0}} (Ok tt) state new before now (frame_start (planned state plan passes frames spent).server ∷ [])
    → Sends {X = ℕ} (Ok id) (planned state plan passes frames spent) (planned new plan passes (frames + 1) false) before now (frame_start (planned state plan passes frames spent).server ∷ []) (after_open (planned state plan passes frames spent).server)
opens id state new plan passes frames spent before now fresh done =
    let server : Server = record { state = state; plan = plan; passes = passes; frames = frames } in
    let after = after_messages-is server (frame_start server ∷ []) new done.0 in
    (fresh, ((λ i. planned (sym after i).state (sym after i).plan (sym after i).passes (frames + 1) false), done.1))

pub closes : (state new : State) (plan : Plan) (passes : Passes) (frames : ℕ) (spent : Bool) (before now : List ℕ) → spent ≡ false
    → SendsMessages {X = Unit {0}} (Ok tt) state new before now (frame_end (planned state plan passes frames spent).server ∷ [])
    → Sends {X = Unit {0}} (Ok tt) (planned state plan passes frames spent) (planned new plan passes frames false) before now (frame_end (planned state plan passes frames spent).server ∷ []) (after_close (planned state plan passes frames spent).server)
closes state new plan passes frames spent before now fresh done =
    let server : Server = record { state = state; plan = plan; passes = passes; frames = frames } in
    let after = after_messages-is server (frame_end server ∷ []) new done.0 in
    (fresh, ((λ i. record { server = sym after i; spent = false }), done.1))

-- steps ---------------------------------------------------------------------------------------------

-- the step of a number that is there
pub is_kinded : (steps : List Step) (number : ℕ) (kind : Option Kind) (step : Step) → Some step ≡ step_at steps number → kinded_at steps number kind ≡ Some (as_kind kind step)
is_kinded steps number kind step found = ap (option_map (as_kind kind)) (sym found)

pub is_allowed : (script : Script) (server : Server) (number : ℕ) (kind : Option Kind) (step : Step) → Some step ≡ step_at script.steps number → IsAllowedStep script server (kinded_at script.steps number kind)
    → IsAllowed script server (as_kind kind step)
is_allowed script server number kind step found allowed = subst (IsAllowedStep script server) (is_kinded script.steps number kind step found) allowed

-- what an allowed step comes to is what it was made into and what its messages gave
same_state : (a b : State) (pdus : List Pdu) (state : State) → all_steps state pdus ≡ Ok a → all_steps state pdus ≡ Ok b → a ≡ b
same_state a b pdus state first second = cc

came_to : (script : Script) (server : Server) (one : KindedStep) (after : Held) (into : Made) (new : State) (fine : FineStep script server one after) → made_by script server one ≡ Some into
    → all_steps server.state into.pdus ≡ Ok new → gone script server one fine.next fine.into.plan ≡ gone script server one new into.plan
came_to script server one after into new fine is accepted =
    let same = same_made _ fine.into into fine.is is in
    let reached : fine.next ≡ new = same_state fine.next new into.pdus server.state (ap (λ (z : Made). all_steps server.state z.pdus) (sym same) ∙ fine.accepted) accepted in
    λ i. gone script server one (reached i) (same i).plan

shows_step : (script : Script) (server : Server) (one : KindedStep) (into : Made) (new : State) → IsAllowed script server one → made_by script server one ≡ Some into → all_steps server.state into.pdus ≡ Ok new
    → ShowsStep script server (gone script server one new into.plan) one
shows_step script server one into new allowed is accepted =
    let due = messages-is script server one into is in
    let fine = allowed_fine script server one allowed in
    let same = came_to script server one allowed.after into new fine is accepted in
    record {
      possible = is ∙ ap (λ z. made z into.plan) (sym due);
      accepted = ap (all_steps server.state) due ∙ accepted;
      frame = ap (λ z. z.state.frame) (sym same) ∙ fine.frame;
      holds = λ held after holds checked.
          let other = step_fine script server one.kind held after one.step holds allowed.numbers allowed.kind checked in
          subst (Holds script after) (came_to script server one after into new other is accepted) other.holds;
      agrees = λ wanted agree. subst (λ z. Agree z (wanted_after script wanted one)) same (fine.agrees wanted agree);
    }

-- the step is put out, and the server's end has gone on
pub puts : (script : Script) (state new : State) (plan next : Plan) (passes later : Passes) (frames : ℕ) (spent : Bool) (one : KindedStep) (pdus : List Pdu) (before now : List ℕ) → spent ≡ false
    → IsAllowed script (planned state plan passes frames spent).server one → made_by script (planned state plan passes frames spent).server one ≡ made pdus next
    → later ≡ passes_by script (planned state plan passes frames spent).server one
    → SendsMessages {X = Unit {0}} (Ok tt) state new before now pdus → PutsStep script (Ok tt) (planned state plan passes frames spent) (planned new next later frames false) before now (Some one)
puts script state new plan next passes later frames spent one pdus before now fresh allowed is live done =
    let server : Server = record { state = state; plan = plan; passes = passes; frames = frames } in
    let into : Made = record { pdus = pdus; plan = next } in
    let due = messages-is script server one into is in
    let came : planned new next later frames false ≡ record { server = gone script server one new next; spent = false } = λ i. planned new next (live i) frames false in
    let after : gone script server one new next ≡ after_put script server one = sym (after_put-is script server one into new is done.0) in (
      (fresh, (came ∙ (λ i. record { server = after i; spent = false }), done.1 ∙ ap (λ z. before ++ sent z) (sym due))),
      subst (λ (p : Planned). ShowsStep script server p.server one) (sym came) (shows_step script server one into new allowed is done.0),
    )

-- what it is made into is put out
pub puts_made : (script : Script) (state new : State) (plan next : Plan) (passes later : Passes) (frames : ℕ) (spent : Bool) (one : KindedStep) (before now : List ℕ) → spent ≡ false
    → IsAllowed script (planned state plan passes frames spent).server one
    → SendsMade {X = Unit {0}} (Ok tt) state new next before now (made_by script (planned state plan passes frames spent).server one)
    → later ≡ passes_by script (planned state plan passes frames spent).server one
    → PutsStep script (Ok tt) (planned state plan passes frames spent) (planned new next later frames false) before now (Some one)
puts_made script state new plan next passes later frames spent one before now fresh allowed done live = by (made_by script (planned state plan passes frames spent).server one) refl done
  where
    by : (o : Option Made) → made_by script (planned state plan passes frames spent).server one ≡ o → SendsMade {X = Unit {0}} (Ok tt) state new next before now o
        → PutsStep script (Ok tt) (planned state plan passes frames spent) (planned new next later frames false) before now (Some one)
    by None is sends = absurd sends
    by (Some into) is sends =
        puts script state new plan next passes later frames spent one into.pdus before now fresh allowed (is ∙ ap (made into.pdus) (sym sends.1)) live sends.0

-- a front of it is
pub puts_made_front : (script : Script) (e : NoMemory) (state new : State) (plan next : Plan) (passes later : Passes) (frames : ℕ) (spent : Bool) (one : KindedStep) (before now : List ℕ) → spent ≡ false
    → SendsMade {X = Unit {0}} (Err e) state new next before now (made_by script (planned state plan passes frames spent).server one)
    → PutsStep script (Err e) (planned state plan passes frames spent) (planned new next later frames true) before now (Some one)
puts_made_front script e state new plan next passes later frames spent one before now fresh done = by (made_by script (planned state plan passes frames spent).server one) refl done
  where
    by : (o : Option Made) → made_by script (planned state plan passes frames spent).server one ≡ o → SendsMade {X = Unit {0}} (Err e) state new next before now o
        → PutsStep script (Err e) (planned state plan passes frames spent) (planned new next later frames true) before now (Some one)
    by None is sends = absurd sends
    by (Some into) is sends =
        let due = messages-is script (planned state plan passes frames spent).server one into is in
        ((refl, subst (λ z. PutsFront before now (sent z)) (sym due) sends), λ was. unspent spent fresh was)
