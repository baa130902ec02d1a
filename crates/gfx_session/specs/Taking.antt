-- What a server's end does with bytes of its client: what the schedule's end does that hears as it hears (`hears` in
-- gfx_schedule/specs/Hearing). The bytes may be cut anywhere.
use Rattle.std.specs.Prelude.{◌≡◌, ℕ, Bool, true, false, List, [], ◌++◌, length, Option, Some, None, Result, Ok, Err}
use Rattle.gfx_base.specs.declared.refusal.Refusal.{Refusal}
use Rattle.gfx_base.specs.declared.answer.Cause.{Cause}
use Rattle.gfx_base.specs.declared.answer.Cause.TheVariants as cause
use Rattle.gfx_schedule.specs.Hearing.{Heard, listening, hears}
use Rattle.gfx_schedule.specs.ServerEnd.{ScheduledEnd, Stop}
use Rattle.gfx_schedule.specs.ServerEnd.{Refused as refuses, Unknown as unknown}
use Rattle.gfx_script.specs.Scripted.{Script}
use Rattle.gfx_session.specs.Kept.{ListensAs, PlansAsBefore}
use Rattle.gfx_session.specs.declared.server_end.ServerEnd.{ServerEnd}
use Rattle.gfx_session.specs.declared.server_end.ServerFault.{ServerFault}
use Rattle.gfx_session.specs.declared.server_end.ServerFault.TheVariants.{Refused, Ack, Memory, Closed}

-- a fault of a lower crate, as a server's end tells it
abbrev pub fault_of : Cause Refusal → ServerFault
fault_of (cause.Refused r) = Refused r
fault_of cause.Memory = Memory

-- this holds of what is heard in a piece, by whichever of the schedule's ends hears as the server's end does
abbrev pub WhenHeard : ServerEnd → List ℕ → (Heard → Type 0) → Type 0
WhenHeard end piece holds = (at : ScheduledEnd) → ListensAs end at → holds (hears end.script (listening at) piece)

-- a server's end has done what was heard: it hears on as the schedule's end does then, and has put out just what that
-- one answered
abbrev pub AnswersAs : ServerEnd → List ℕ → List ℕ → Heard → Type 0
AnswersAs new before now heard = ListensAs new heard.end × (now ≡ before ++ heard.out)

-- this fault is why the schedule's end has stopped; it stops neither for want of memory nor by an earlier fault
abbrev pub IsWhyStopped : ServerFault → Option Stop → Type 0
IsWhyStopped (Refused r) stopped = stopped ≡ Some (refuses r)
IsWhyStopped (Ack u) stopped = stopped ≡ Some (unknown u)
IsWhyStopped Memory stopped = ⊥
IsWhyStopped Closed stopped = ⊥

-- what the schedule's end hears in bytes, if it holds none before them
abbrev pub heard_afresh : Script → ScheduledEnd → List ℕ → Heard
heard_afresh script at bytes = hears script (listening (record at { heard = [] })) bytes

-- of the bytes that were held and of a piece a whole number of messages was taken, and just what is answered to them was
-- put out
pub record AnswersWhole (script : Script) (at : ScheduledEnd) (piece before now : List ℕ) : Type 0 where
  pub taken : List ℕ
  pub rest : List ℕ
  pub cut : at.heard ++ piece ≡ taken ++ rest
  pub whole : (heard_afresh script at taken).end.heard ≡ []
  pub gained : now ≡ before ++ (heard_afresh script at taken).out

-- what a server's end answered that ran out of memory, by whichever of the schedule's ends hears as it did
abbrev pub AnswersSome : ServerEnd → List ℕ → List ℕ → List ℕ → Type 0
AnswersSome old before now piece = (at : ScheduledEnd) → ListensAs old at → AnswersWhole old.script at piece before now

-- what an open server's end does with a piece, be it spent or not. It answers how many frames were acknowledged, or why
-- it is closed from then on: by what it refuses, by an acknowledgement that isn't due, or by want of memory
abbrev pub TakesOpen : Result ℕ ServerFault → ServerEnd → ServerEnd → List ℕ → List ℕ → List ℕ → Type 0
TakesOpen (Ok count) old new before now piece =
    WhenHeard old piece (λ heard. AnswersAs new before now heard × (heard.end.stopped ≡ None) × (count ≡ length heard.taken))
TakesOpen (Err Memory) old new before now piece = (new.closed ≡ true) × AnswersSome old before now piece
TakesOpen (Err Closed) old new before now piece = ⊥
TakesOpen (Err fault) old new before now piece =
    WhenHeard old piece (λ heard. AnswersAs new before now heard × IsWhyStopped fault heard.end.stopped)

-- a fault is want of memory
abbrev pub is_want_of_memory : ServerFault → Bool
is_want_of_memory Memory = true
is_want_of_memory fault = false

-- what is planned behind a fault: as before. Without memory it is spent besides, and sends nothing more
abbrev pub PlansBehind : ServerFault → ServerEnd → ServerEnd → Type 0
PlansBehind Memory old new = PlansAsBefore old (record new { spent = old.spent }) × (new.spent ≡ true)
PlansBehind fault old new = PlansAsBefore old new

-- and behind any answer
abbrev pub PlansOn : {X : Type 0} → Result X ServerFault → ServerEnd → ServerEnd → Type 0
PlansOn (Ok done) old new = PlansAsBefore old new
PlansOn (Err fault) old new = PlansBehind fault old new

-- what any server's end does with a piece: one that is closed takes nothing, and an open one plans on
abbrev pub Takes : Bool → Result ℕ ServerFault → ServerEnd → ServerEnd → List ℕ → List ℕ → List ℕ → Type 0
Takes true result old new before now piece = (result ≡ Err Closed) × (new ≡ old) × (now ≡ before)
Takes false result old new before now piece = PlansOn result old new × TakesOpen result old new before now piece
