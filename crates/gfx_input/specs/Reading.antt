-- How an input is read, piece by piece: this project's own rule.
use Rattle.std.specs.Prelude.{◌≡◌, ℕ, ◌+◌, ◌-◌, ◌≤◌, ◌<◌, Bool, true, List, [], ◌++◌, length, take, Option, Some, None, Result, Ok, Err}
use Rattle.gfx_base.specs.Stream.{Change, Gains, GainsPart, FailsAfter, Tells, Gave, Keeps, Rose}
use Rattle.gfx_input.specs.declared.fault.InputFault.{InputFault}
use Rattle.gfx_input.specs.declared.fault.InputFault.TheVariants as fault
use Rattle.gfx_input.specs.declared.fault.TakeFault.{TakeFault}
use Rattle.gfx_input.specs.declared.fault.TakeFault.TheVariants as broke
use Rattle.gfx_input.specs.declared.reading.Read.{Read}
use Rattle.gfx_input.specs.declared.reading.Read.TheVariants.{Whole, TooLong, Stopped}
use Rattle.gfx_input.specs.declared.reading.Turn.{Turn}
use Rattle.gfx_input.specs.declared.reading.Turn.TheVariants.{More, Ended}
use Rattle.gfx_input.specs.declared.reading.TheConstants.{PIECE}
use Rattle.gfx_input.specs.declared.taker.Taken.{Taken}
use Rattle.gfx_input.specs.declared.taker.Taken.TheVariants as taken

-- a piece ------------------------------------------------------------------------------------------

-- why an input is read no further whose taker broke off so
abbrev pub fault_of : TakeFault → InputFault
fault_of broke.Write = fault.Write
fault_of broke.Memory = fault.Memory

-- what was written of a text that is due where a reading breaks off: all of it where a read fails, else a front
abbrev pub Breaks : InputFault → Change → List ℕ → Type 0
Breaks fault.Read o text = Gains o text
Breaks fault.Write o text = FailsAfter o text
Breaks fault.Memory o text = (o.now ≡ o.before) × GainsPart o text

-- memory is wanting only where this holds
abbrev pub WantsOnlyIf : {X : Type 0} → Result X TakeFault → Bool → Type 0
WantsOnlyIf (Ok x) may = Unit {0}
WantsOnlyIf (Err broke.Write) may = Unit {0}
WantsOnlyIf (Err broke.Memory) may = may ≡ true

-- what giving a piece answers, which is the last of these bytes, where this text is due of all of them
abbrev pub TakesPiece : {S : Type 0} → (S → List ℕ → Type 0) → (S → List ℕ → Type 0) → List ℕ → Result Taken TakeFault → S → List ℕ → Change → Type 0
TakesPiece stands stops text (Ok taken.More) new bytes o = stands new bytes × Gains o text
TakesPiece stands stops text (Ok taken.Stopped) new bytes o = stops new bytes × Gains o text
TakesPiece stands stops text (Err f) new bytes o = Breaks (fault_of f) o text

-- the whole input ----------------------------------------------------------------------------------

-- what is left where it is told; nothing where it isn't
abbrev pub rest_of : Option (List ℕ) → List ℕ
rest_of None = []
rest_of (Some rest) = rest

-- what was read of an input, of which so many bytes may be taken: at most one byte more; without its last piece
-- all is fine
pub record Reads (is_fine : List ℕ → Type 0) (allowed : List ℕ → ℕ) (i : Change) : Type 0 where
  pub taken : List ℕ
  pub few : length taken ≤ allowed (taken ++ rest_of i.new) + 1
  pub told : Tells i.old (taken ++ rest_of i.new)
  pub early : is_fine (take (length taken - PIECE) taken)

-- the whole input, as far as it is told
abbrev pub input_of : {is_fine : List ℕ → Type 0} {allowed : List ℕ → ℕ} {i : Change} → Reads is_fine allowed i → List ℕ
input_of {is_fine} {allowed} {i} reads = reads.taken ++ rest_of i.new

-- a front of these bytes within the limit was refused
pub record StopsWithin {S : Type 0} (stops : S → List ℕ → Type 0) (limit : ℕ) (new : S) (bytes : List ℕ) : Type 0 where
  pub front : List ℕ
  pub behind : List ℕ
  pub cut : bytes ≡ front ++ behind
  pub within : length front ≤ limit
  pub stopped : stops new front

-- how the reading of this input ended
abbrev pub EndsBy : {S : Type 0} → (S → List ℕ → Type 0) → (S → List ℕ → Type 0) → Read → ℕ → List ℕ → List ℕ → S → Type 0
EndsBy stands stops Whole limit bytes left new = (length bytes ≤ limit) × (left ≡ []) × stands new bytes
EndsBy stands stops TooLong limit bytes left new = (limit < length bytes) × stands new (take limit bytes)
EndsBy stands stops Stopped limit bytes left new = StopsWithin stops limit new bytes

-- this is so of what was given these bytes, and what is due of them was written
abbrev pub Wrote : {S : Type 0} → (S → List ℕ → Type 0) → (List ℕ → List ℕ) → Change → S → List ℕ → Type 0
Wrote says written o new bytes = says new bytes × Gains o (written bytes)

-- the reading broke off behind a front of these bytes within the limit
pub record BreaksOff (written : List ℕ → List ℕ) (f : InputFault) (limit : ℕ) (bytes : List ℕ) (o : Change) : Type 0 where
  pub front : List ℕ
  pub behind : List ℕ
  pub cut : bytes ≡ front ++ behind
  pub within : length front ≤ limit
  pub broke : Breaks f o (written front)

-- the count of faults of an input whose reading broke off
abbrev pub Counts : InputFault → Change → Type 0
Counts fault.Read i = (i.before ≤ i.now) × Rose i.before i.now
Counts fault.Write i = i.now ≡ i.before
Counts fault.Memory i = i.now ≡ i.before

-- what reading an input answers
abbrev pub ReadsInput : {S : Type 0} → (S → List ℕ → Type 0) → (S → List ℕ → Type 0) → (List ℕ → Type 0) → (List ℕ → List ℕ) → Result Read InputFault → (List ℕ → ℕ) → Change → Change → S → Type 0
ReadsInput stands stops is_fine written (Ok read) allowed i o new =
    (reads : Reads is_fine allowed i) × (i.now ≡ i.before)
    × EndsBy (Wrote stands written o) (Wrote stops written o) read (allowed (input_of reads)) (input_of reads) (rest_of i.new) new
ReadsInput stands stops is_fine written (Err f) allowed i o new =
    (reads : Reads is_fine allowed i) × Counts f i × BreaksOff written f (allowed (input_of reads)) (input_of reads) o

-- one turn of the reading -------------------------------------------------------------------------

-- a read gave these bytes, at most one piece of them
pub record Got (i : Change) (bytes : List ℕ) : Type 0 where
  pub count : i.now ≡ i.before
  pub few : length bytes ≤ PIECE
  pub gave : Gave i.old bytes i.new

-- one piece was read and taken behind these bytes
pub record GoesOn {S : Type 0} (stands : S → List ℕ → Type 0) (limit : ℕ) (i : Change) (bytes : List ℕ) (count : ℕ) (new : S) : Type 0 where
  pub piece : List ℕ
  pub got : Got i piece
  pub as_many : length piece ≡ count
  pub some : 0 < count
  pub within : length bytes + count ≤ limit
  pub stands_on : stands new (bytes ++ piece)

-- one piece was read behind these bytes, and the reading ends with it: nothing was left, the one byte of it lies past
-- the limit, or it was refused
abbrev pub EndsWith : {S : Type 0} → (S → List ℕ → Type 0) → (S → List ℕ → Type 0) → Read → ℕ → Change → List ℕ → List ℕ → S → Type 0
EndsWith stands stops Whole limit i bytes piece new = (piece ≡ []) × (rest_of i.new ≡ []) × stands new bytes
EndsWith stands stops TooLong limit i bytes piece new = (length piece ≡ 1) × (length bytes ≡ limit) × stands new bytes
EndsWith stands stops Stopped limit i bytes piece new = (length bytes + length piece ≤ limit) × stops new (bytes ++ piece)

pub record EndsHere {S : Type 0} (stands stops : S → List ℕ → Type 0) (limit : ℕ) (i : Change) (bytes : List ℕ) (read : Read) (new : S) : Type 0 where
  pub piece : List ℕ
  pub got : Got i piece
  pub ends : EndsWith stands stops read limit i bytes piece new

-- no piece could be read
pub record ReadsNone (i o : Change) (text : List ℕ) : Type 0 where
  pub falls : i.before ≤ i.now
  pub rose : Rose i.before i.now
  pub kept : Keeps i.old i.new
  pub wrote : Gains o text

-- one piece was read behind these bytes, and what it was given to broke off
pub record BreaksHere (written : List ℕ → List ℕ) (f : InputFault) (limit : ℕ) (i : Change) (bytes : List ℕ) (o : Change) : Type 0 where
  pub piece : List ℕ
  pub got : Got i piece
  pub within : length bytes + length piece ≤ limit
  pub broke : Breaks f o (written (bytes ++ piece))

-- the turn that gave a piece of so many bytes to what answered so
abbrev pub turn_by : Taken → ℕ → Turn
turn_by taken.More count = More count
turn_by taken.Stopped count = Ended Stopped

-- what one turn answers
abbrev pub Turns : {S : Type 0} → (S → List ℕ → Type 0) → (S → List ℕ → Type 0) → (List ℕ → List ℕ) → Result Turn InputFault → ℕ → Change → Change → List ℕ → S → Type 0
Turns stands stops written (Ok (More count)) limit i o bytes new = GoesOn (Wrote stands written o) limit i bytes count new
Turns stands stops written (Ok (Ended read)) limit i o bytes new = EndsHere (Wrote stands written o) (Wrote stops written o) limit i bytes read new
Turns stands stops written (Err fault.Read) limit i o bytes new = ReadsNone i o (written bytes)
Turns stands stops written (Err fault.Write) limit i o bytes new = BreaksHere written fault.Write limit i bytes o
Turns stands stops written (Err fault.Memory) limit i o bytes new = BreaksHere written fault.Memory limit i bytes o
