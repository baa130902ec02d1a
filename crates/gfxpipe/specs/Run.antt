-- What a run of the program does: this project's own rule.
use Rattle.std.specs.Prelude.{◌≡◌, List, [], Option, Some, None, Result, Ok, Err}
use Rattle.gfx_base.specs.Stream.{Change, Gains}
use Rattle.gfx_chooser.specs.Choosing.{Chooser}
use Rattle.gfx_session.specs.declared.session.Session.{Session}
use Rattle.gfx_words.specs.declared.table.Command.{Command}
use Rattle.gfxpipe.specs.declared.ending.Ending.{Ending}
use Rattle.gfxpipe.specs.declared.ending.Ending.TheVariants.{Usage}
use Rattle.gfxpipe.specs.declared.program.Ran.{Ran}
use Rattle.gfxpipe.specs.declared.trouble.Trouble.{Trouble}
use Rattle.gfxpipe.specs.declared.trouble.Trouble.TheVariants as trouble
use Rattle.gfxpipe.specs.Did.{IsUnread}
use Rattle.gfxpipe.specs.Ending.{Closes}
use Rattle.gfxpipe.specs.Rule.{Limits, Does}
use Rattle.gfxpipe.specs.Rules.{rule_of}

-- nothing is read, and nothing is written
abbrev pub IsUntouched : Change → Change → Type 0
IsUntouched i o = IsUnread i × Gains o []

-- words that are no command
abbrev pub Refuses : Result Ending Trouble → Change → Change → Type 0
Refuses (Ok Usage) i o = IsUntouched i o
Refuses (Err trouble.Memory) i o = IsUntouched i o
Refuses ended i o = ⊥

-- how the command of the words ended, what session was answered, and what is left of the choosers
abbrev pub Executes : Result Ending Trouble → Option Session → Option Command → List Chooser → List Chooser → Limits → Change → Change → Type 0
Executes ended answered None choosers left limits i o = Refuses ended i o × (answered ≡ None) × (left ≡ choosers)
Executes ended answered (Some command) choosers left limits i o = Does ended answered (rule_of command) choosers left limits i o

-- what a run did: how its command ended, what session it answered, what is left of the choosers, and what it said
-- of the ending
pub record Runs (answer : Ran) (command : Option Command) (choosers left : List Chooser) (limits : Limits) (i o e : Change) : Type 0 where
  pub ended : Result Ending Trouble
  pub executes : Executes ended answer.session command choosers left limits i o
  pub closes : Closes answer.status ended e
