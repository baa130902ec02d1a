-- What is due of an input: the text that is written, and how the run ends. This project's own rule.
use Rattle.std.specs.Prelude.{ℕ, List, [], length, take, Bool, nat_le, if◌then◌else◌, ◌++◌, Option, Some, None, Result, Ok, Err}
use Rattle.gfx_base.specs.Memory.{next_count}
use Rattle.gfx_base.specs.declared.refusal.Refusal.{Refusal}
use Rattle.gfx_chooser.specs.Choosing.{Chooser}
use Rattle.gfx_chooser.specs.Kinded.{kinded_steps}
use Rattle.gfx_generator.specs.Script.{script_text}
use Rattle.gfx_planner.specs.Stream.{stream_of}
use Rattle.gfx_script.specs.Scripted.{Script}
use Rattle.gfx_script_text.specs.Text.{Wrong, script_of}
use Rattle.gfx_state.specs.Run.{Run, run_of, end}
use Rattle.gfx_surface_map.specs.Shown.{Shown}
use Rattle.gfxpipe.specs.declared.ending.Ending.{Ending}
use Rattle.gfxpipe.specs.declared.ending.Ending.TheVariants.{Done, TooLong, Refused, Faulty}
use Rattle.gfxpipe.specs.Audit.{told, held_lines}
use Rattle.gfxpipe.specs.Sessions.{Beginning, from_scratch}

pub record Due : Type 0 where
  pub text : List ℕ
  pub ending : Ending

-- these bytes are within a limit
abbrev pub is_within : ℕ → List ℕ → Bool
is_within limit bytes = nat_le (length bytes) limit

-- the run of a recording: to its end, or of the bytes within the limit
unfoldable pub played : ℕ → List ℕ → Run
played limit bytes = if is_within limit bytes then end (run_of bytes) else run_of (take limit bytes)

-- how a recording ends that isn't refused
abbrev pub last_of : ℕ → List ℕ → Ending
last_of limit bytes = if is_within limit bytes then Done else TooLong

-- how a run ends: by its refusal, with the number of that message, or else so
abbrev pub ending_of : Option Refusal → ℕ → Ending → Ending
ending_of (Some r) applied last = Refused (next_count applied) r
ending_of None applied last = last

-- what is shown of a recording
abbrev pub shown : (Shown → List ℕ) → ℕ → List ℕ → Due
shown text limit bytes = record {
  text = text (played limit bytes).state.shown;
  ending = ending_of (played limit bytes).refusal (played limit bytes).applied (last_of limit bytes);
}

-- the text of the audit of a recording: a line for each message that is applied, and what is held then
unfoldable pub audit_text : ℕ → List ℕ → List ℕ
audit_text limit bytes = told (take limit bytes) ++ held_lines (played limit bytes).state

-- what is told of a recording
abbrev pub audited : ℕ → List ℕ → Due
audited limit bytes = record {
  text = audit_text limit bytes;
  ending = ending_of (played limit bytes).refusal (played limit bytes).applied (last_of limit bytes);
}

-- a script that is accepted, or how a run ends whose script isn't
abbrev pub accepted_or : Result Script Wrong → Result Script Ending
accepted_or (Ok script) = Ok script
accepted_or (Err wrong) = Err (Faulty wrong.step wrong.kind)

-- what an input is found to be that is to be a script
unfoldable pub found_in : ℕ → List ℕ → Result Script Ending
found_in limit bytes = if is_within limit bytes then accepted_or (script_of bytes) else Err TooLong

-- what is due of what was found, where this text is due of it
abbrev pub scripted : {X : Type 0} → (X → List ℕ) → Result X Ending → Due
scripted text (Ok found) = record { text = text found; ending = Done }
scripted text (Err ending) = record { text = []; ending = ending }

-- the stream of a script, whose paints that name no kind go as these choosers choose
abbrev pub stream_text : List Chooser → Script → List ℕ
stream_text choosers script = stream_of script (kinded_steps script choosers)

-- what the script of a number is found to be
abbrev pub found_for : ℕ → Result Script Ending
found_for number = accepted_or (script_of (script_text number))

-- a script that was found, with what its session starts from: nothing
abbrev pub from_scratch_or : Result Script Ending → Result Beginning Ending
from_scratch_or (Ok script) = Ok (from_scratch script)
from_scratch_or (Err ending) = Err ending

-- the same of an input that is to be a script
abbrev pub scratch_in : ℕ → List ℕ → Result Beginning Ending
scratch_in limit bytes = from_scratch_or (found_in limit bytes)
