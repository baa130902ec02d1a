-- What is due of an input, and what reading it did against that: this project's own rule.
use Rattle.std.specs.Prelude.{◌≡◌, ℕ, ◌≤◌, nat_le, if◌then◌else◌, List, [], length, Result, Ok, Err}
use Rattle.gfx_base.specs.Stream.{Change, Rose}
use Rattle.gfx_base.specs.declared.refusal.Refusal.TheVariants.{KeptShape}
use Rattle.gfx_input.specs.Reading.{Reads, input_of, rest_of}
use Rattle.gfx_input.specs.declared.fault.InputFault.{InputFault}
use Rattle.gfx_input.specs.declared.fault.InputFault.TheVariants as fault
use Rattle.gfx_kept_input.specs.Allowed.{allowed}
use Rattle.gfx_kept_input.specs.Split.{Found, Few, Wrong, Splits, found}
use Rattle.gfx_kept_input.specs.declared.outcome.KeptInput.{KeptInput}
use Rattle.gfx_kept_input.specs.declared.outcome.KeptInput.TheVariants.{Whole, TooLong, Refused}

-- bytes behind which an input is read on: they are not refused
abbrev pub IsNotWrong : Found → Type 0
IsNotWrong (Wrong refusal) = ⊥
IsNotWrong other = Unit {0}

abbrev pub IsFine : List ℕ → Type 0
IsFine bytes = IsNotWrong (found bytes)

-- what an input comes to that is found so at its end, where so many bytes of its script count
abbrev pub ending_of : ℕ → Found → KeptInput
ending_of limit Few = Refused KeptShape
ending_of limit (Wrong refusal) = Refused refusal
ending_of limit (Splits s) = if nat_le (length s.script) limit then Whole s.server s.client s.script else TooLong

abbrev pub ending_in : ℕ → List ℕ → KeptInput
ending_in limit bytes = ending_of limit (found bytes)

-- an input that comes to this was read to its end
abbrev pub IsReadWhole : KeptInput → Change → Type 0
IsReadWhole (Whole server client script) i = rest_of i.new ≡ []
IsReadWhole other i = Unit {0}

-- what reading an input answers: there is an input, the one that is told where it is told, that comes to this
abbrev pub ReadsKept : Result KeptInput InputFault → ℕ → Change → Type 0
ReadsKept (Ok ending) limit i =
    (reads : Reads IsFine (allowed limit) i) × (i.now ≡ i.before) × IsReadWhole ending i × (ending ≡ ending_in limit (input_of reads))
ReadsKept (Err fault.Read) limit i = Reads IsFine (allowed limit) i × (i.before ≤ i.now) × Rose i.before i.now
ReadsKept (Err fault.Memory) limit i = Reads IsFine (allowed limit) i × (i.now ≡ i.before)
ReadsKept (Err fault.Write) limit i = ⊥
