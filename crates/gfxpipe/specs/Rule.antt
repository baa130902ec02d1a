-- What a command is: its rule. What it reads, what is due of that, and how far it goes where a call fails. This
-- project's own form.
use Rattle.std.specs.Prelude.{ℕ, List, [], Option, Result}
use Rattle.gfx_base.specs.Stream.{Change}
use Rattle.gfx_chooser.specs.Choosing.{Chooser}
use Rattle.gfx_input.specs.Reading.{Reads, input_of}
use Rattle.gfx_session.specs.declared.session.Session.{Session}
use Rattle.gfxpipe.specs.declared.ending.Ending.{Ending}
use Rattle.gfxpipe.specs.declared.trouble.Trouble.{Trouble}
use Rattle.gfxpipe.specs.Did.{Ends, EndsUnread, IsUnread}
use Rattle.gfxpipe.specs.Due.{Due}

-- no input is read further than one byte past its limit: that of a recording, that of a script
pub record Limits : Type 0 where
  pub stream : ℕ
  pub script : ℕ

abbrev pub limits : ℕ → ℕ → Limits
limits stream script = record { stream = stream; script = script }

-- an input that a command reads
pub record Input : Type 1 where
  -- how many of its bytes count at most
  pub limit : Limits → ℕ
  -- how many are taken of one that begins with these, of which so many count
  pub allowed : ℕ → List ℕ → ℕ
  -- what is known of bytes behind which it is read on
  pub is_fine : List ℕ → Type 0

-- what a command reads
pub data Source : Type 1 where
  Nothing : Source
  From : Input → Source

-- what a command is
pub record Rule : Type 1 where
  pub reads : Source
  -- the text and the ending that are due of its whole input, of which so many bytes count, where these choosers
  -- are asked
  pub due : List Chooser → ℕ → List ℕ → Due
  -- what it has written of that text where a read fails, and where memory runs out
  pub writes_unread : Change → List ℕ → Type 0
  pub writes_on : Change → List ℕ → Type 0
  -- what session it answers that ended so, of its input, of which so many bytes count
  pub answers : Result Ending Trouble → List Chooser → Option Session → ℕ → List ℕ → Type 0
  -- what it leaves of the choosers, the second of these, of its input and by what it has written
  pub leaves : Result Ending Trouble → List Chooser → List Chooser → ℕ → List ℕ → Change → Type 0

-- there is an input, the one that is told where it is told, of which this is the right end
abbrev pub Did : Result Ending Trouble → Rule → Input → List Chooser → ℕ → Change → Change → Type 0
Did ended rule input choosers limit i o =
    (reads : Reads input.is_fine (input.allowed limit) i) × Ends ended rule.writes_unread rule.writes_on (rule.due choosers limit (input_of reads)) i o

-- what a command did that reads an input, what session it answered, and what it left of the choosers, of one and
-- the same input
abbrev pub DidAll : Result Ending Trouble → Option Session → Rule → Input → List Chooser → List Chooser → ℕ → Change → Change → Type 0
DidAll ended answered rule input choosers left limit i o =
    (did : Did ended rule input choosers limit i o) × rule.answers ended choosers answered limit (input_of did.0)
    × rule.leaves ended choosers left limit (input_of did.0) o

-- what a command did that reads none, what session it answered, and what it left of the choosers
pub record DidUnread (ended : Result Ending Trouble) (answered : Option Session) (rule : Rule) (choosers left : List Chooser) (i o : Change) : Type 0 where
  pub unread : IsUnread i
  pub ends : EndsUnread ended rule.writes_on (rule.due choosers 0 []) o
  pub answers : rule.answers ended choosers answered 0 []
  pub leaves : rule.leaves ended choosers left 0 [] o

-- what a command did, by what it reads
abbrev pub DoesBy : Source → Result Ending Trouble → Option Session → Rule → List Chooser → List Chooser → Limits → Change → Change → Type 0
DoesBy Nothing ended answered rule choosers left limits i o = DidUnread ended answered rule choosers left i o
DoesBy (From input) ended answered rule choosers left limits i o = DidAll ended answered rule input choosers left (input.limit limits) i o

abbrev pub Does : Result Ending Trouble → Option Session → Rule → List Chooser → List Chooser → Limits → Change → Change → Type 0
Does ended answered rule choosers left limits i o = DoesBy rule.reads ended answered rule choosers left limits i o
