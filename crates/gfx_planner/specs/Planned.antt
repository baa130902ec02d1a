-- What a planner is seen as, the server's end and whether memory ran out, and what its calls answer: this project's own
-- rule.
use Rattle.std.specs.Prelude.{◌≡◌, ℕ, Bool, true, false, List, ◌++◌, Result, Ok, Err, IsOk, Option, Some, None}
use Rattle.std.specs.List.{AllByRecursion}
use Rattle.gfx_base.specs.declared.answer.NoMemory.{NoMemory}
use Rattle.gfx_pdu.specs.declared.pdu.Pdu.{Pdu}
use Rattle.gfx_script.specs.Checks.{Held, held_after}
use Rattle.gfx_script.specs.Kinds.{KindedStep}
use Rattle.gfx_script.specs.Scripted.{Script}
use Rattle.gfx_slot_plan.specs.Plan.{Plan}
use Rattle.gfx_state.specs.State.{State}
use Rattle.gfx_state.specs.Sending.{all_steps, sent, IsCarried}
use Rattle.gfx_planner.specs.Wanted.{Wanted}
use Rattle.gfx_planner.specs.Want.{wanted_after}
use Rattle.gfx_planner.specs.Server.{Server}
use Rattle.gfx_planner.specs.Made.{Made, made}
use Rattle.gfx_planner.specs.Wire.{made_by, messages}
use Rattle.gfx_planner.specs.After.{after_put}
use Rattle.gfx_planner.specs.Agree.{Agree}
use Rattle.gfx_planner.specs.Holds.{Holds}

-- the server's end, and whether memory ran out: such a planner is spent
pub record Planned : Type 0 where
  pub server : Server
  pub spent : Bool

-- a planner that goes on from here
abbrev pub ready : Server → Planned
ready server = record { server = server; spent = false }

-- the bytes went on with a front of what was due
pub record PutsFront (before now due : List ℕ) : Type 0 where
  pub part : List ℕ
  pub rest : List ℕ
  pub cut : due ≡ part ++ rest
  pub gained : now ≡ before ++ part

-- these messages fit their channel messages, and the state accepts them
pub record MaySend (state : State) (pdus : List Pdu) : Type 0 where
  pub carried : AllByRecursion IsCarried pdus
  pub accepted : IsOk (all_steps state pdus)

-- what sending messages from a state does: all of them are accepted and put out, or a front of them is
abbrev pub SendsMessages : {X : Type 0} → Result X NoMemory → State → State → List ℕ → List ℕ → List Pdu → Type 0
SendsMessages (Ok x) old new before now pdus = (all_steps old pdus ≡ Ok new) × (now ≡ before ++ sent pdus)
SendsMessages (Err e) old new before now pdus = PutsFront before now (sent pdus)

-- what sending what a step is made into does: all of it is accepted and put out, and the choice of slots goes on; or a
-- front of it is put out
abbrev pub SendsMade : {X : Type 0} → Result X NoMemory → State → State → Plan → List ℕ → List ℕ → Option Made → Type 0
SendsMade (Ok x) old new plan before now (Some into) = SendsMessages (Ok x) old new before now into.pdus × (plan ≡ into.plan)
SendsMade (Err e) old new plan before now (Some into) = PutsFront before now (sent into.pdus)
SendsMade result old new plan before now None = ⊥

-- all of these messages were put out, and the server's end has gone on
abbrev pub AllSent : Planned → List ℕ → List ℕ → List Pdu → Server → Type 0
AllSent new before now pdus server = (new ≡ ready server) × (now ≡ before ++ sent pdus)

-- a front of these messages was put out, and the planner is spent
abbrev pub PartSent : Planned → List ℕ → List ℕ → List Pdu → Type 0
PartSent new before now pdus = (new.spent ≡ true) × PutsFront before now (sent pdus)

-- what a planner that isn't spent answers when it sends these messages
abbrev pub SendsOn : {X : Type 0} → Result X NoMemory → Planned → List ℕ → List ℕ → List Pdu → Server → Type 0
SendsOn (Ok x) new before now pdus server = AllSent new before now pdus server
SendsOn (Err e) new before now pdus server = PartSent new before now pdus

-- the same of any planner: one that was spent before puts nothing out
abbrev pub Sends : {X : Type 0} → Result X NoMemory → Planned → Planned → List ℕ → List ℕ → List Pdu → Server → Type 0
Sends (Ok x) old new before now pdus server = (old.spent ≡ false) × AllSent new before now pdus server
Sends (Err e) old new before now pdus server = PartSent new before now pdus × (old.spent ≡ true → now ≡ before)

-- a step is made into its messages, which the server's own state accepts, in the same frame; the server's
-- end then shows what is wanted, and what a script's checks hold of it is in step with them as before
pub record ShowsStep (script : Script) (old new : Server) (one : KindedStep) : Type 0 where
  pub possible : made_by script old one ≡ made (messages script old one) new.plan
  pub accepted : all_steps old.state (messages script old one) ≡ Ok new.state
  pub frame : new.state.frame ≡ old.state.frame
  pub holds : (held after : Held) → Holds script held old → held_after held one.step ≡ Ok after → Holds script after new
  pub agrees : (wanted : Wanted) → Agree old wanted → Agree new (wanted_after script wanted one)

-- what putting a step does; it may be missing only where the planner was spent before
abbrev pub PutsStep : Script → Result (Unit {0}) NoMemory → Planned → Planned → List ℕ → List ℕ → Option KindedStep → Type 0
PutsStep script (Ok done) old new before now (Some one) =
    Sends (Ok done) old new before now (messages script old.server one) (after_put script old.server one)
    × ShowsStep script old.server new.server one
PutsStep script (Ok done) old new before now None = ⊥
PutsStep script (Err e) old new before now (Some one) =
    Sends {X = Unit {0}} (Err e) old new before now (messages script old.server one) (after_put script old.server one)
PutsStep script (Err e) old new before now None = (old.spent ≡ true) × (new.spent ≡ true) × (now ≡ before)
