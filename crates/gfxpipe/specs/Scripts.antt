-- How a script is read whole: this project's own rule.
use Rattle.std.specs.Prelude.{◌≡◌, ℕ, ◌≤◌, List, Result, Ok, Err}
use Rattle.gfx_base.specs.Stream.{Change, Rose}
use Rattle.gfx_input.specs.Reading.{Reads, input_of}
use Rattle.gfx_script.specs.Scripted.{Script}
use Rattle.gfx_script_text.specs.Text.{script_of}
use Rattle.gfxpipe.specs.declared.ending.Ending.{Ending}
use Rattle.gfxpipe.specs.declared.ending.Ending.TheVariants.{Done}
use Rattle.gfxpipe.specs.declared.trouble.Trouble.{Trouble}
use Rattle.gfxpipe.specs.declared.trouble.Trouble.TheVariants as trouble
use Rattle.gfxpipe.specs.Did.{NoFault, IsReadWhole}
use Rattle.gfxpipe.specs.Due.{accepted_or, found_in}
use Rattle.gfxpipe.specs.Rule.{Input}
use Rattle.gfxpipe.specs.Rules.{script_input}

-- how a run ends that found this
abbrev pub ending_of : {X : Type 0} → Result X Ending → Ending
ending_of (Ok found) = Done
ending_of (Err ending) = ending

-- what reading the text of a script answers
abbrev pub ReadsText : Result (Result Script Ending) Trouble → List ℕ → Type 0
ReadsText (Ok found) text = accepted_or (script_of text) ≡ found
ReadsText (Err trouble.Memory) text = Unit {0}
ReadsText (Err trouble.Read) text = ⊥
ReadsText (Err trouble.Write) text = ⊥

-- there is such an input, the one that is told where it is told, in which this is found
abbrev pub ReadsFrom : {X : Type 0} → Input → (ℕ → List ℕ → Result X Ending) → Result (Result X Ending) Trouble → ℕ → Change → Type 0
ReadsFrom input find (Ok found) limit i =
    (reads : Reads input.is_fine (input.allowed limit) i) × NoFault i × IsReadWhole (ending_of found) i × (find limit (input_of reads) ≡ found)
ReadsFrom input find (Err trouble.Read) limit i = Reads input.is_fine (input.allowed limit) i × (i.before ≤ i.now) × Rose i.before i.now
ReadsFrom input find (Err trouble.Memory) limit i = Reads input.is_fine (input.allowed limit) i × NoFault i
ReadsFrom input find (Err trouble.Write) limit i = ⊥

-- a script is found
abbrev pub ReadsScript : Result (Result Script Ending) Trouble → ℕ → Change → Type 0
ReadsScript result limit i = ReadsFrom script_input found_in result limit i
