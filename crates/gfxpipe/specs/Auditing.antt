-- What an auditor does with bytes that it is given: it applies all messages that are whole among them, tells of each,
-- and at the end of what its client holds. No clause of `run` names these words.
use Rattle.std.specs.Prelude.{◌≡◌, ℕ, List, fold, Result, Ok, Err}
use Rattle.gfx_base.specs.Memory.{next_count}
use Rattle.gfx_base.specs.Stream.{Change, Gains, FailsAfter}
use Rattle.gfx_client.specs.Client.{cursor_of}
use Rattle.gfx_client.specs.Standing.{StandsFor, IsDrained}
use Rattle.gfx_client.specs.declared.client.Client.{Client}
use Rattle.gfx_input.specs.declared.fault.TakeFault.{TakeFault}
use Rattle.gfx_input.specs.declared.fault.TakeFault.TheVariants as broke
use Rattle.gfx_input.specs.declared.taker.Taken.{Taken}
use Rattle.gfx_input.specs.declared.taker.Taken.TheVariants.{More, Stopped}
use Rattle.gfx_state.specs.History.{Effect, coming, history_of}
use Rattle.gfxpipe.specs.Audit.{lines, held_lines}
use Rattle.gfxpipe.specs.Did.{WritesPart}
use Rattle.gfxpipe.specs.Recording.{HasPlayed, HasRefused}
use Rattle.gfxpipe.specs.declared.audit.Auditor.{Auditor}
use Rattle.gfxpipe.specs.declared.trouble.Trouble.{Trouble}
use Rattle.gfxpipe.specs.declared.trouble.Trouble.TheVariants as trouble

-- the number of the last of these messages, where so many were applied before them
abbrev pub number_after : ℕ → List Effect → ℕ
number_after applied all = fold (λ number message. next_count number) applied all

-- a client has played these bytes, and this is the number of its last message
abbrev pub HasHeard : Client → ℕ → List ℕ → Type 0
HasHeard client number bytes = HasPlayed client bytes × (number ≡ number_after 0 (history_of bytes))

-- the messages that an auditor has yet to apply of the bytes that it was given
abbrev pub due_of : Auditor → List Effect
due_of auditor = coming (cursor_of auditor.client)

-- their lines
abbrev pub due_lines : Auditor → List ℕ
due_lines auditor = lines auditor.number (due_of auditor)

-- a client stands for whatever bytes it stood for before
abbrev pub StandsAsBefore : Client → Client → Type 0
StandsAsBefore old new = (bytes : List ℕ) → StandsFor old bytes → StandsFor new bytes

-- a client has refused whatever bytes it stood for before
abbrev pub RefusesThose : Client → Client → Type 0
RefusesThose old new = (bytes : List ℕ) → StandsFor old bytes → HasRefused new bytes

-- a client rests: it waits for more bytes, or has refused those that it has
abbrev pub Rests : Taken → Client → Client → Type 0
Rests More old new = StandsAsBefore old new × IsDrained new
Rests Stopped old new = RefusesThose old new

-- all messages that were due were counted, and their lines written
pub record TellsAll (old new : Auditor) (o : Change) : Type 0 where
  pub number : new.number ≡ number_after old.number (due_of old)
  pub gains : Gains o (due_lines old)

-- what going on as far as the bytes are whole comes to: all that was due is told, or a part of it from its front
abbrev pub GoesOnByAll : Result Taken TakeFault → Auditor → Auditor → Change → Type 0
GoesOnByAll (Ok rest) old new o = TellsAll old new o × Rests rest old.client new.client
GoesOnByAll (Err broke.Write) old new o = FailsAfter o (due_lines old)
GoesOnByAll (Err broke.Memory) old new o = WritesPart o (due_lines old)

-- what telling of what a client holds comes to: the lines are written, or the sink fails
abbrev pub TellsHeld : Result (Unit {0}) Trouble → Client → Change → Type 0
TellsHeld (Ok done) client o = Gains o (held_lines (cursor_of client).state)
TellsHeld (Err trouble.Write) client o = FailsAfter o (held_lines (cursor_of client).state)
TellsHeld (Err trouble.Read) client o = ⊥
TellsHeld (Err trouble.Memory) client o = ⊥
