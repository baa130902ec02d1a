-- Which bytes a client has taken from its start on, and what it has come to by them. The start is the state before the
-- first of them: the names that say none are of a client that began with nothing.
use Rattle.std.specs.Prelude.{◌≡◌, ℕ, List, [], ◌∷◌, ◌++◌, ◌⊎◌, Option, Some, None, Result, Ok, Err}
use Rattle.gfx_base.specs.Memory.{next_count}
use Rattle.gfx_base.specs.declared.answer.Cause.{Cause}
use Rattle.gfx_base.specs.declared.answer.Cause.TheVariants as fault
use Rattle.gfx_base.specs.declared.refusal.Refusal.{Refusal}
use Rattle.gfx_bitmap_cache.specs.Slots.{Cached}
use Rattle.gfx_client.specs.Client.{cursor_of, closed_by}
use Rattle.gfx_client.specs.declared.client.Client.{Client}
use Rattle.gfx_client.specs.declared.fault.ClientFault.{ClientFault}
use Rattle.gfx_client.specs.declared.fault.ClientFault.TheVariants.{Refused, Memory, ClosedRefused, ClosedMemory}
use Rattle.gfx_client.specs.declared.stepped.Stepped.{Stepped}
use Rattle.gfx_client.specs.declared.stepped.Stepped.TheVariants.{Applied, Ended, Need}
use Rattle.gfx_client.specs.Replies.{stepped_by}
use Rattle.gfx_state.specs.History.{Effect, history_from, coming}
use Rattle.gfx_state.specs.Cursor.{Needs, what_next, settled}
use Rattle.gfx_state.specs.Run.{run_from, end}
use Rattle.gfx_state.specs.State.{State, fresh, started_with}

-- a client that has taken these bytes from a start on, and is anywhere in them: with no more it will come to their run
pub record StandsFrom (start : State) (client : Client) (bytes : List ℕ) : Type 0 where
  pub run : settled (cursor_of client) ≡ run_from start bytes

abbrev pub StandsFor : Client → List ℕ → Type 0
StandsFor client bytes = StandsFrom fresh client bytes

-- a client that goes on, has applied all messages that it holds whole, and needs more bytes
pub record IsDrained (client : Client) : Type 0 where
  pub needs : what_next (cursor_of client) ≡ Needs
  pub not_closed : closed_by client ≡ None

-- a client that has refused its bytes: at the message and for the reason of their run, in the state before it
pub record IsRefusedFrom (start : State) (client : Client) (bytes : List ℕ) (number : ℕ) (r : Refusal) : Type 0 where
  pub refusal : (run_from start bytes).refusal ≡ Some r
  pub number_is : number ≡ next_count (run_from start bytes).applied
  pub state : (cursor_of client).state ≡ (run_from start bytes).state
  pub closed : closed_by client ≡ Some (ClosedRefused number r)

abbrev pub IsRefused : Client → List ℕ → ℕ → Refusal → Type 0
IsRefused client bytes number r = IsRefusedFrom fresh client bytes number r

-- what a client answers that has taken all of these bytes, the first of them before: it is drained, or they
-- are refused, or memory ran out
abbrev pub PlaysFrom : State → Result (Unit {0}) ClientFault → Client → List ℕ → List ℕ → Type 0
PlaysFrom start (Ok done) new first all = StandsFrom start new all × IsDrained new
PlaysFrom start (Err (Refused number r)) new first all = StandsFrom start new all × IsRefusedFrom start new all number r
PlaysFrom start (Err Memory) new first all = (StandsFrom start new first ⊎ StandsFrom start new all) × (closed_by new ≡ Some ClosedMemory)
PlaysFrom start (Err (ClosedRefused number r)) new first all = ⊥
PlaysFrom start (Err ClosedMemory) new first all = ⊥

-- what playing a piece answers, whatever the client stood for. A closed client answers its fault, and stays
abbrev pub Plays : Option ClientFault → Result (Unit {0}) ClientFault → Client → Client → List ℕ → Type 0
Plays (Some fault) result old new piece = (result ≡ Err fault) × (new ≡ old)
Plays None result old new piece = (start : State) (bytes : List ℕ) → StandsFrom start old bytes → PlaysFrom start result new bytes (bytes ++ piece)

-- a client that has brought this about, of the history of these bytes from a start on, and has the rest to come
pub record HasBroughtFrom (start : State) (client : Client) (bytes : List ℕ) (all : List Effect) : Type 0 where
  pub is : history_from start bytes ≡ all ++ coming (cursor_of client)

abbrev pub HasBrought : Client → List ℕ → List Effect → Type 0
HasBrought client bytes all = HasBroughtFrom fresh client bytes all

-- a message was applied, the next of the history: its effect is the client's state, and this is said of it
pub record BringsNext (start : State) (new : Client) (bytes : List ℕ) (all : List Effect) (said : Stepped) : Type 0 where
  pub next : Effect
  pub says : said ≡ stepped_by next
  pub state : (cursor_of new).state ≡ next.state
  pub brought : HasBroughtFrom start new bytes (all ++ next ∷ [])

-- what a step of an open client does of the history: nothing more comes where it needs bytes or refuses
abbrev pub BringsOpen : State → Result Stepped ClientFault → Client → List ℕ → List Effect → Type 0
BringsOpen start (Ok Need) new bytes all = HasBroughtFrom start new bytes all × (history_from start bytes ≡ all)
BringsOpen start (Ok (Applied pdu size)) new bytes all = BringsNext start new bytes all (Applied pdu size)
BringsOpen start (Ok (Ended frame size reply)) new bytes all = BringsNext start new bytes all (Ended frame size reply)
BringsOpen start (Err (Refused number r)) new bytes all = history_from start bytes ≡ all
BringsOpen start (Err Memory) new bytes all = HasBroughtFrom start new bytes all
BringsOpen start (Err (ClosedRefused number r)) new bytes all = ⊥
BringsOpen start (Err ClosedMemory) new bytes all = ⊥

-- what a step does of the history. A closed client does nothing
abbrev pub Brings : State → Option ClientFault → Result Stepped ClientFault → Client → List ℕ → List Effect → Type 0
Brings start (Some fault) result new bytes all = HasBroughtFrom start new bytes all
Brings start None result new bytes all = BringsOpen start result new bytes all

-- the answer for a run: its refusal, with the number of that message
abbrev pub answer_by : Option Refusal → ℕ → Result (Unit {0}) ClientFault
answer_by None applied = Ok tt
answer_by (Some r) applied = Err (Refused (next_count applied) r)

-- what is said at the end of these bytes
abbrev pub ends_from : State → Option ClientFault → List ℕ → Result (Unit {0}) ClientFault
ends_from start (Some fault) bytes = Err fault
ends_from start None bytes = answer_by (end (run_from start bytes)).refusal (end (run_from start bytes)).applied

abbrev pub ends_by : Option ClientFault → List ℕ → Result (Unit {0}) ClientFault
ends_by closed bytes = ends_from fresh closed bytes

-- a client that begins with the bitmaps of a cache in place of none, has taken nothing, and is as before in all else
pub record BeginsWith (cache : Cached) (old new : Client) : Type 0 where
  pub stands : StandsFrom (started_with cache.slots cache.small) new []
  pub brought : HasBroughtFrom (started_with cache.slots cache.small) new [] []
  pub drained : IsDrained new
  pub rest : cursor_of new ≡ record (cursor_of old) { state = record (cursor_of old).state { cache = cache } }

-- what an import answers where this cache is due, or a refusal: any fault leaves the client as it was
abbrev pub Imports : Result (Unit {0}) (Cause Refusal) → Client → Client → Result Cached Refusal → Type 0
Imports (Ok done) old new due = (cache : Cached) × (due ≡ Ok cache) × BeginsWith cache old new
Imports (Err fault.Memory) old new due = new ≡ old
Imports (Err (fault.Refused r)) old new due = (due ≡ Err r) × (new ≡ old)
