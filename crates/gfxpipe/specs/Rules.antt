-- The rules of the commands, one row for each: this project's own rule.
use Rattle.std.specs.Prelude.{◌≡◌, ℕ, List, [], None, Result}
use Rattle.gfx_base.specs.Stream.{Change}
use Rattle.gfx_fragments.specs.Due.{IsFine}
use Rattle.gfx_fragments.specs.Found.{Found, fragmented, joined}
use Rattle.gfx_generator.specs.Script.{script_text}
use Rattle.gfx_input.specs.Taking.{fixed}
use Rattle.gfx_kept_input.specs.Allowed.{allowed}
use Rattle.gfx_kept_input.specs.Due.{IsFine as IsNotWrong}
use Rattle.gfx_words.specs.declared.table.Command.{Command}
use Rattle.gfx_words.specs.declared.table.Command.TheVariants as command
use Rattle.gfxpipe.specs.declared.ending.Ending.{Ending}
use Rattle.gfxpipe.specs.declared.ending.Ending.TheVariants.{Done}
use Rattle.gfxpipe.specs.declared.render.Dump.{Dump}
use Rattle.gfxpipe.specs.declared.render.Dump.TheVariants.{Surfaces, Output}
use Rattle.gfxpipe.specs.declared.trouble.Trouble.{Trouble}
use Rattle.gfxpipe.specs.Did.{IsNotRefused, IsAny, WritesNothing, WritesPart}
use Rattle.gfxpipe.specs.Due.{shown, audited, scripted, found_in, found_for, from_scratch_or, scratch_in, stream_text}
use Rattle.gfxpipe.specs.Dump.{dump_of}
use Rattle.gfxpipe.specs.Fragments.{worked}
use Rattle.gfxpipe.specs.Imports.{kept_in}
use Rattle.gfxpipe.specs.Leaves.{LeavesStream, LeavesSession}
use Rattle.gfxpipe.specs.Rule.{Input, Nothing, From, Rule, Did}
use Rattle.gfxpipe.specs.Sessions.{AnswersOf, Beginning, session_text, trial_text}

-- a recording is read on as long as it isn't refused, and a script to its end
abbrev pub recording_input : Input
recording_input = record { limit = λ limits. limits.stream; allowed = fixed; is_fine = IsNotRefused }

abbrev pub script_input : Input
script_input = record { limit = λ limits. limits.script; allowed = fixed; is_fine = IsAny }

-- two files of kept bitmaps and a script, which alone counts, are read on as long as they aren't refused
abbrev pub kept_input : Input
kept_input = record { limit = λ limits. limits.script; allowed = allowed; is_fine = IsNotWrong }

-- what is found in such an input, a stream or a recording of fragments, isn't refused
abbrev pub item_input : (List ℕ → Found) → Input
item_input find = record { limit = λ limits. limits.stream; allowed = fixed; is_fine = IsFine find }

-- `render`: a recording is played, and then this is printed of what a client shows
abbrev pub rendering : Dump → Rule
rendering dump = record {
  reads = From recording_input;
  due = λ choosers limit bytes. shown (dump_of dump) limit bytes;
  writes_unread = WritesNothing;
  writes_on = WritesNothing;
  answers = λ ended choosers answered limit bytes. answered ≡ None;
  leaves = λ ended choosers left limit bytes o. left ≡ choosers;
}

-- `audit`: a recording is played, and its lines are written message by message
abbrev pub auditing : Rule
auditing = record {
  reads = From recording_input;
  due = λ choosers limit bytes. audited limit bytes;
  writes_unread = WritesPart;
  writes_on = WritesPart;
  answers = λ ended choosers answered limit bytes. answered ≡ None;
  leaves = λ ended choosers left limit bytes o. left ≡ choosers;
}

-- `encode`: a script is read whole, and its stream is written frame by frame
abbrev pub encoding : Rule
encoding = record {
  reads = From script_input;
  due = λ choosers limit bytes. scripted (stream_text choosers) (found_in limit bytes);
  writes_unread = WritesNothing;
  writes_on = WritesPart;
  answers = λ ended choosers answered limit bytes. answered ≡ None;
  leaves = λ ended choosers left limit bytes o. LeavesStream ended (found_in limit bytes) choosers left o;
}

-- a session is found in an input that is read whole, it is played, and then its lines are written
abbrev pub playing_by : Input → (ℕ → List ℕ → Result Beginning Ending) → Rule
playing_by input find = record {
  reads = From input;
  due = λ choosers limit bytes. scripted (session_text choosers) (find limit bytes);
  writes_unread = WritesNothing;
  writes_on = WritesNothing;
  answers = λ ended choosers answered limit bytes. AnswersOf (find limit bytes) ended choosers answered;
  leaves = λ ended choosers left limit bytes o. LeavesSession ended (find limit bytes) choosers left;
}

-- `session`: that of a script, from nothing
abbrev pub playing : Rule
playing = playing_by script_input scratch_in

-- `import`: that of a script, from what is imported of two files of kept bitmaps
abbrev pub importing : Rule
importing = playing_by kept_input kept_in

-- `make`: the script of a number is written once it is known whole
abbrev pub making : ℕ → Rule
making number = record {
  reads = Nothing;
  due = λ choosers limit bytes. record { text = script_text number; ending = Done };
  writes_unread = WritesNothing;
  writes_on = WritesNothing;
  answers = λ ended choosers answered limit bytes. answered ≡ None;
  leaves = λ ended choosers left limit bytes o. left ≡ choosers;
}

-- `trial`: the session of the script of a number is played, and then its line is written
abbrev pub trying : ℕ → Rule
trying number = record {
  reads = Nothing;
  due = λ choosers limit bytes. scripted (trial_text number choosers) (from_scratch_or (found_for number));
  writes_unread = WritesNothing;
  writes_on = WritesNothing;
  answers = λ ended choosers answered limit bytes. AnswersOf (from_scratch_or (found_for number)) ended choosers answered;
  leaves = λ ended choosers left limit bytes o. LeavesSession ended (from_scratch_or (found_for number)) choosers left;
}

-- `fragment` and `join`: a stream, or a recording of fragments, is worked off message by message while it is read
abbrev pub working : (List ℕ → Found) → Rule
working find = record {
  reads = From (item_input find);
  due = λ choosers limit bytes. worked find limit bytes;
  writes_unread = WritesPart;
  writes_on = WritesPart;
  answers = λ ended choosers answered limit bytes. answered ≡ None;
  leaves = λ ended choosers left limit bytes o. left ≡ choosers;
}

-- the rule of a command
abbrev pub rule_of : Command → Rule
rule_of command.Render = rendering Surfaces
rule_of command.RenderOutput = rendering Output
rule_of command.Audit = auditing
rule_of command.Encode = encoding
rule_of command.Session = playing
rule_of (command.Make number) = making number
rule_of (command.Trial number) = trying number
rule_of command.Import = importing
rule_of command.Fragment = working fragmented
rule_of command.Join = working joined

-- what `render` did, whatever it prints, and what `audit` did: no choosers are asked
abbrev pub Renders : Result Ending Trouble → Dump → ℕ → Change → Change → Type 0
Renders ended dump limit i o = Did ended (rendering dump) recording_input [] limit i o

abbrev pub Audits : Result Ending Trouble → ℕ → Change → Change → Type 0
Audits ended limit i o = Did ended auditing recording_input [] limit i o

-- what `fragment` and `join` did
abbrev pub Works : (List ℕ → Found) → Result Ending Trouble → ℕ → Change → Change → Type 0
Works find ended limit i o = Did ended (working find) (item_input find) [] limit i o
