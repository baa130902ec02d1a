-- What a command did with its input and its output, against what is due: this project's own rule.
use Rattle.std.specs.Prelude.{◌≡◌, ℕ, ◌≤◌, List, [], None, Result, Ok, Err}
use Rattle.gfx_base.specs.Stream.{Change, Gains, GainsPart, FailsAfter, Keeps, Rose}
use Rattle.gfx_input.specs.Reading.{rest_of}
use Rattle.gfx_input.specs.declared.fault.InputFault.{InputFault}
use Rattle.gfx_input.specs.declared.fault.InputFault.TheVariants as fault
use Rattle.gfx_state.specs.Run.{run_of}
use Rattle.gfxpipe.specs.declared.ending.Ending.{Ending}
use Rattle.gfxpipe.specs.declared.ending.Ending.TheVariants.{Done, Faulty}
use Rattle.gfxpipe.specs.declared.trouble.Trouble.{Trouble}
use Rattle.gfxpipe.specs.declared.trouble.Trouble.TheVariants as trouble
use Rattle.gfxpipe.specs.Due.{Due}

-- why a command went no further than its input
abbrev pub trouble_of : InputFault → Trouble
trouble_of fault.Read = trouble.Read
trouble_of fault.Write = trouble.Write
trouble_of fault.Memory = trouble.Memory

-- a recording of these bytes is not refused
abbrev pub IsNotRefused : List ℕ → Type 0
IsNotRefused bytes = (run_of bytes).refusal ≡ None

-- nothing is known of these bytes
abbrev pub IsAny : List ℕ → Type 0
IsAny bytes = Unit {0}

-- no read failed
abbrev pub NoFault : Change → Type 0
NoFault i = i.now ≡ i.before

-- an input that ends so was read to its end
abbrev pub IsReadWhole : Ending → Change → Type 0
IsReadWhole Done i = rest_of i.new ≡ []
IsReadWhole (Faulty step kind) i = rest_of i.new ≡ []
IsReadWhole other i = Unit {0}

-- nothing was written
abbrev pub WritesNothing : Change → List ℕ → Type 0
WritesNothing o text = Gains o []

-- a part of the text was written, from its front
abbrev pub WritesPart : Change → List ℕ → Type 0
WritesPart o text = (o.now ≡ o.before) × GainsPart o text

-- how a command ended, of whose input this is due, and which has written so much where a read fails, and where
-- memory runs out
abbrev pub Ends : Result Ending Trouble → (Change → List ℕ → Type 0) → (Change → List ℕ → Type 0) → Due → Change → Change → Type 0
Ends (Ok ending) writes_unread writes_on d i o = (ending ≡ d.ending) × NoFault i × IsReadWhole ending i × Gains o d.text
Ends (Err trouble.Read) writes_unread writes_on d i o = (i.before ≤ i.now) × Rose i.before i.now × writes_unread o d.text
Ends (Err trouble.Write) writes_unread writes_on d i o = NoFault i × FailsAfter o d.text
Ends (Err trouble.Memory) writes_unread writes_on d i o = NoFault i × writes_on o d.text

-- nothing is read
pub record IsUnread (i : Change) : Type 0 where
  pub count : NoFault i
  pub left : Keeps i.old i.new

-- how a command ended that reads no input, of which this is due
abbrev pub EndsUnread : Result Ending Trouble → (Change → List ℕ → Type 0) → Due → Change → Type 0
EndsUnread (Ok ending) writes_on d o = (ending ≡ d.ending) × Gains o d.text
EndsUnread (Err trouble.Read) writes_on d o = ⊥
EndsUnread (Err trouble.Write) writes_on d o = FailsAfter o d.text
EndsUnread (Err trouble.Memory) writes_on d o = writes_on o d.text
