-- How a run ends: its status, and the line that says so. This project's own rule.
use Rattle.std.specs.Prelude.{ℕ, ◌≡◌, List, [], ◌++◌, codes, decimal, ◌==◌, if◌then◌else◌, Result, Ok, Err, ◌⊎◌}
use Rattle.gfx_base.specs.Refusal.{number_of, name_of}
use Rattle.gfx_base.specs.Stream.{Change, Gains, FailsAfter}
use Rattle.gfx_base.specs.declared.refusal.Refusal.{Refusal}
use Rattle.gfx_words.specs.declared.table.TheConstants.{USAGE}
use Rattle.gfxpipe.specs.declared.ending.Ending.{Ending}
use Rattle.gfx_script.specs.Kind as kind
use Rattle.gfx_script.specs.declared.error.ScriptKind.{ScriptKind}
use Rattle.gfxpipe.specs.declared.ending.Ending.TheVariants as ending
use Rattle.gfxpipe.specs.declared.status.Status.{Status}
use Rattle.gfxpipe.specs.declared.status.Status.TheVariants as status
use Rattle.gfxpipe.specs.declared.trouble.Trouble.{Trouble}
use Rattle.gfxpipe.specs.declared.trouble.Trouble.TheVariants as trouble

-- the exit number of the program
abbrev pub exit_number : Status → ℕ
exit_number status.Done = 0
exit_number status.Refused = 1
exit_number status.Usage = 2
exit_number status.ReadFault = 3
exit_number status.WriteFault = 4
exit_number status.NoMemory = 5

-- the status of a run that ends so
abbrev pub status_of : Result Ending Trouble → Status
status_of (Ok ending.Done) = status.Done
status_of (Ok ending.Usage) = status.Usage
status_of (Ok ending.TooLong) = status.Refused
status_of (Ok (ending.Refused number r)) = status.Refused
status_of (Ok (ending.Kept r)) = status.Refused
status_of (Ok (ending.Faulty step k)) = status.Refused
status_of (Err trouble.Read) = status.ReadFault
status_of (Err trouble.Write) = status.WriteFault
status_of (Err trouble.Memory) = status.NoMemory

-- the line of a refused message, as in `message 4: 14 RectOutside`
unfoldable pub message_line : ℕ → Refusal → List ℕ
message_line number r =
    codes "message " ++ (decimal number ++ (codes ": " ++ (decimal (number_of r) ++ (codes " " ++ (name_of r ++ codes "\n")))))

-- the line of a refused file of kept bitmaps, as in `kept: 54 KeptShape`
unfoldable pub kept_line : Refusal → List ℕ
kept_line r = codes "kept: " ++ (decimal (number_of r) ++ (codes " " ++ (name_of r ++ codes "\n")))

-- the step that is wrong, as in `step 2: `; nothing for a fault outside the steps
abbrev pub at_step : ℕ → List ℕ
at_step step = if step == 0 then [] else codes "step " ++ (decimal step ++ codes ": ")

-- the line of a script that isn't accepted, as in `script: step 2: Outside`
unfoldable pub script_line : ℕ → ScriptKind → List ℕ
script_line step k = codes "script: " ++ (at_step step ++ (kind.name_of k ++ codes "\n"))

-- the line that says how a run ends; none where all is done
abbrev pub line_of : Result Ending Trouble → List ℕ
line_of (Ok ending.Done) = []
line_of (Ok ending.Usage) = USAGE.now ++ codes "\n"
line_of (Ok ending.TooLong) = codes "input: TooLong\n"
line_of (Ok (ending.Refused number r)) = message_line number r
line_of (Ok (ending.Kept r)) = kept_line r
line_of (Ok (ending.Faulty step k)) = script_line step k
line_of (Err trouble.Read) = codes "input: read failed\n"
line_of (Err trouble.Write) = codes "output: write failed\n"
line_of (Err trouble.Memory) = codes "memory: none left\n"

-- the line was written, and the status is that of the ending; or it was not, and that is the status
abbrev pub Closes : Status → Result Ending Trouble → Change → Type 0
Closes answer ended e =
    ((answer ≡ status_of ended) × Gains e (line_of ended)) ⊎ ((answer ≡ status.WriteFault) × FailsAfter e (line_of ended))
