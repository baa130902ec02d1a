-- How an input is worked off, file by file: this project's own rule.
use Rattle.std.specs.Prelude.{◌≡◌, ℕ, ◌+◌, ◌≤◌, true, List, length, take, drop, Option, Some, None, Result, Ok, Err}
use Rattle.gfx_base.specs.declared.answer.Cause.{Cause}
use Rattle.gfx_base.specs.declared.answer.Cause.TheVariants as cause
use Rattle.gfx_base.specs.declared.refusal.Refusal.{Refusal}
use Rattle.gfx_base.specs.declared.refusal.Refusal.TheVariants.{KeptShape}
use Rattle.gfx_input.specs.declared.fault.TakeFault.{TakeFault}
use Rattle.gfx_input.specs.declared.fault.TakeFault.TheVariants as broke
use Rattle.gfx_input.specs.declared.reading.Read.{Read}
use Rattle.gfx_input.specs.declared.reading.Read.TheVariants as read
use Rattle.gfx_input.specs.declared.taker.Taken.{Taken}
use Rattle.gfx_input.specs.declared.taker.Taken.TheVariants as taken
use Rattle.gfx_import.specs.Agreed.{agree}
use Rattle.gfx_kept_input.specs.Due.{IsFine}
use Rattle.gfx_kept_input.specs.Front.{Whole, Short, Bad, front, known_size, size_of}
use Rattle.gfx_kept_input.specs.Split.{Wrong, found}
use Rattle.gfx_kept_input.specs.declared.file.File.{File}
use Rattle.gfx_kept_input.specs.declared.file.TheConstants.{PREFIX}
use Rattle.gfx_kept_input.specs.declared.outcome.KeptInput.{KeptInput}
use Rattle.gfx_kept_input.specs.declared.outcome.KeptInput.TheVariants as ending
use Rattle.gfx_kept_input.specs.declared.taker.Intake.{Intake}
use Rattle.gfx_kept_input.specs.declared.taker.Part.{Part}
use Rattle.gfx_kept_input.specs.declared.taker.Part.TheVariants as part

-- one file -----------------------------------------------------------------------------------------------------

-- it stands at the front of these bytes, and those stand behind it
pub record IsFirst (file : File) (bytes after : List ℕ) : Type 0 where
  pub whole : front bytes ≡ Whole file.kept after
  pub size : size_of bytes ≡ PREFIX + file.size

-- it was read at the front of these bytes
pub record IsRead (file : File) (bytes : List ℕ) : Type 0 where
  pub within : PREFIX + file.size ≤ length bytes
  pub first : IsFirst file bytes (drop (PREFIX + file.size) bytes)

-- what reading it answers
abbrev pub ReadsFront : Result (Option File) (Cause Refusal) → List ℕ → Type 0
ReadsFront (Ok (Some file)) bytes = IsRead file bytes
ReadsFront (Ok None) bytes = front bytes ≡ Short
ReadsFront (Err (cause.Refused refusal)) bytes = front bytes ≡ Bad refusal
ReadsFront (Err cause.Memory) bytes = Unit {0}

-- both files, and the script -----------------------------------------------------------------------------------

-- the length of the file that is due, as far as it is known
abbrev pub due_size : Part → List ℕ → ℕ
due_size part.Server bytes = known_size bytes
due_size part.Client bytes = known_size bytes
due_size part.Script bytes = 0
due_size (part.Refused refusal) bytes = 0

-- it has read both files, which agree, of these bytes
pub record HoldsBoth (taker : Intake) (bytes : List ℕ) : Type 0 where
  pub behind : List ℕ
  pub server : IsFirst taker.server bytes behind
  pub client : IsFirst taker.client behind taker.bytes
  pub agreed : agree taker.server.kept taker.client.kept ≡ true

-- it was given these bytes, and this part is due: what it holds of them
abbrev pub Holds : Part → Intake → List ℕ → Type 0
Holds part.Server taker bytes = (taker.bytes ≡ bytes) × (taker.server.size ≡ 0) × (taker.client.size ≡ 0)
Holds part.Client taker bytes = IsFirst taker.server bytes taker.bytes × (taker.client.size ≡ 0)
Holds part.Script taker bytes = HoldsBoth taker bytes
Holds (part.Refused refusal) taker bytes = found bytes ≡ Wrong refusal

-- there is nothing to work off in the bytes of the part that is due
abbrev pub Waits : Part → List ℕ → Type 0
Waits part.Server bytes = front bytes ≡ Short
Waits part.Client bytes = front bytes ≡ Short
Waits part.Script bytes = Unit {0}
Waits (part.Refused refusal) bytes = ⊥

-- it was given these bytes, and takes more
pub record Stands (taker : Intake) (bytes : List ℕ) : Type 0 where
  pub holds : Holds taker.part taker bytes
  pub waits : Waits taker.part taker.bytes
  pub fine : (n : ℕ) → IsFine (take n bytes)

-- they are refused for the reason that is kept
abbrev pub Refuses : Part → List ℕ → Type 0
Refuses (part.Refused refusal) bytes = found bytes ≡ Wrong refusal
Refuses other bytes = ⊥

abbrev pub Stops : Intake → List ℕ → Type 0
Stops taker bytes = Refuses taker.part bytes

-- what working these bytes off answers
abbrev pub Goes : Result Taken TakeFault → Intake → List ℕ → Type 0
Goes (Ok taken.More) new bytes = Stands new bytes
Goes (Ok taken.Stopped) new bytes = Stops new bytes
Goes (Err broke.Memory) new bytes = Unit {0}
Goes (Err broke.Write) new bytes = ⊥

-- the end ------------------------------------------------------------------------------------------------------

-- what the part that is due makes of an input that ends here
abbrev pub ended_at : Part → Intake → KeptInput
ended_at part.Server taker = ending.Refused KeptShape
ended_at part.Client taker = ending.Refused KeptShape
ended_at part.Script taker = ending.Whole taker.server.kept taker.client.kept taker.bytes
ended_at (part.Refused refusal) taker = ending.Refused refusal

-- what an input comes to, by why it was read no further
abbrev pub ended_by : Read → Intake → KeptInput
ended_by read.TooLong taker = ending.TooLong
ended_by read.Whole taker = ended_at taker.part taker
ended_by read.Stopped taker = ended_at taker.part taker
