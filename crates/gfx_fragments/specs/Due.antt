-- What is due of an input within a limit, and what a command did against it: this project's own rule.
use Rattle.std.specs.Prelude.{◌≡◌, ℕ, ◌+◌, ◌≤◌, min, Bool, nat_le, if◌then◌else◌, List, [], length, take, Option, Some, None, Result, Ok, Err}
use Rattle.gfx_base.specs.Stream.{LAST, Change, Gains, GainsPart, FailsAfter, Rose}
use Rattle.gfx_base.specs.declared.refusal.Refusal.{Refusal}
use Rattle.gfx_input.specs.Reading.{Reads, input_of, rest_of}
use Rattle.gfx_input.specs.Taking.{fixed}
use Rattle.gfx_input.specs.declared.fault.InputFault.{InputFault}
use Rattle.gfx_input.specs.declared.fault.InputFault.TheVariants as fault
use Rattle.gfx_input.specs.declared.reading.Read.{Read}
use Rattle.gfx_input.specs.declared.reading.Read.TheVariants as read
use Rattle.gfx_fragments.specs.Found.{Found, ended}
use Rattle.gfx_fragments.specs.declared.ended.Ended.{Ended}
use Rattle.gfx_fragments.specs.declared.ended.Ended.TheVariants.{Done, TooLong, Refused}

pub record Due : Type 0 where
  pub text : List ℕ
  pub ending : Ended

-- a count, up to its last value
abbrev pub counted : ℕ → ℕ
counted n = min n LAST

-- these bytes are within a limit
abbrev pub is_within : ℕ → List ℕ → Bool
is_within limit bytes = nat_le (length bytes) limit

-- what is found in an input: to its end, or in the bytes within the limit
unfoldable pub found_in : (List ℕ → Found) → ℕ → List ℕ → Found
found_in find limit bytes = if is_within limit bytes then ended (find bytes) else find (take limit bytes)

-- how a command ends whose input isn't refused
abbrev pub last_of : ℕ → List ℕ → Ended
last_of limit bytes = if is_within limit bytes then Done else TooLong

-- how a command ends: by a refusal, with the number of what is refused, or else so
abbrev pub ending_of : Option Refusal → ℕ → Ended → Ended
ending_of (Some r) count last = Refused (counted (count + 1)) r
ending_of None count last = last

-- what is due of an input, of which so many bytes count
abbrev pub due_in : (List ℕ → Found) → ℕ → List ℕ → Due
due_in find limit bytes = record {
  text = (found_in find limit bytes).text;
  ending = ending_of (found_in find limit bytes).refusal (found_in find limit bytes).count (last_of limit bytes);
}

-- bytes behind which an input is read on
abbrev pub IsFine : (List ℕ → Found) → List ℕ → Type 0
IsFine find bytes = (find bytes).refusal ≡ None

-- an input that ends so was read to its end
abbrev pub IsReadWhole : Ended → Change → Type 0
IsReadWhole Done i = rest_of i.new ≡ []
IsReadWhole other i = Unit {0}

-- a part of the text was written, from its front
abbrev pub WritesPart : Change → List ℕ → Type 0
WritesPart o text = (o.now ≡ o.before) × GainsPart o text

-- how a command ended, of whose input this is due
abbrev pub Ends : Result Ended InputFault → Due → Change → Change → Type 0
Ends (Ok ending) d i o = (ending ≡ d.ending) × (i.now ≡ i.before) × IsReadWhole ending i × Gains o d.text
Ends (Err fault.Read) d i o = (i.before ≤ i.now) × Rose i.before i.now × WritesPart o d.text
Ends (Err fault.Write) d i o = (i.now ≡ i.before) × FailsAfter o d.text
Ends (Err fault.Memory) d i o = (i.now ≡ i.before) × WritesPart o d.text

-- what a command did: there is an input, the one that is told where it is told, of which this is the right end
abbrev pub Does : (List ℕ → Found) → Result Ended InputFault → ℕ → Change → Change → Type 0
Does find answer limit i o = (reads : Reads (IsFine find) (fixed limit) i) × Ends answer (due_in find limit (input_of reads)) i o

-- how a command ends, by why its input was read no further, how many items were taken, and why they are refused
abbrev pub ended_by : Read → ℕ → Option Refusal → Ended
ended_by read.TooLong number refusal = TooLong
ended_by read.Whole number refusal = ending_of refusal number Done
ended_by read.Stopped number refusal = ending_of refusal number Done
