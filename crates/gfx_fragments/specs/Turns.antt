-- How an input is worked off, item by item: this project's own rule.
use Rattle.std.specs.Prelude.{◌≡◌, ℕ, List, [], length, take, Option, Some, None, Result, Ok, Err}
use Rattle.gfx_base.specs.Stream.{Change, Gains, FailsAfter}
use Rattle.gfx_base.specs.declared.refusal.Refusal.{Refusal}
use Rattle.gfx_dvc.specs.Joining.{fresh, joiner_after}
use Rattle.gfx_input.specs.Reading.{TakesPiece}
use Rattle.gfx_input.specs.declared.fault.TakeFault.{TakeFault}
use Rattle.gfx_input.specs.declared.fault.TakeFault.TheVariants as broke
use Rattle.gfx_input.specs.declared.taker.Taken.{Taken}
use Rattle.gfx_segment.specs.Framing.{holding}
use Rattle.gfx_fragments.specs.Cut.{Few, next_message, next_fragment, cut, Cuts}
use Rattle.gfx_fragments.specs.Due.{counted}
use Rattle.gfx_fragments.specs.Found.{Found, fragments_text, fragmented, joined_text, joined}
use Rattle.gfx_fragments.specs.declared.fragmenting.Fragmenter.{Fragmenter}
use Rattle.gfx_fragments.specs.declared.joining.Assembler.{Assembler}

-- one item more, and its text: all of it was written, nothing without memory, or a part where a write failed
abbrev pub WritesItem : Result (Option Taken) TakeFault → Change → List ℕ → Type 0
WritesItem (Ok None) o text = Gains o text
WritesItem (Ok (Some taken)) o text = ⊥
WritesItem (Err broke.Write) o text = FailsAfter o text
WritesItem (Err broke.Memory) o text = Gains o []

-- what going on by one item answers: it goes on, or the piece is worked off
abbrev pub GoesOn : {S : Type 0} → (S → List ℕ → Change → Type 0) → (S → List ℕ → Type 0) → (S → List ℕ → Type 0) → List ℕ → Result (Option Taken) TakeFault → S → List ℕ → Change → Type 0
GoesOn going stands stops text (Ok None) new bytes o = going new bytes o
GoesOn going stands stops text (Ok (Some answer)) new bytes o = TakesPiece stands stops text (Ok answer) new bytes o
GoesOn going stands stops text (Err f) new bytes o = TakesPiece stands stops text (Err f) new bytes o

-- so many items were taken of these bytes, and the next is refused for the reason that is kept
pub record IsRefused (find : List ℕ → Found) (number : ℕ) (kept : Option Refusal) (bytes : List ℕ) : Type 0 where
  pub count : number ≡ counted (find bytes).count
  pub reason : Refusal
  pub found : (find bytes).refusal ≡ Some reason
  pub keeps : kept ≡ Some reason

-- `fragment` -----------------------------------------------------------------------------------------------------

-- it was given these bytes, has recorded these messages of them, and the rest isn't worked off
pub record IsCutting (taker : Fragmenter) (bytes : List ℕ) (o : Change) : Type 0 where
  pub messages : List (List ℕ)
  pub cuts : Cuts next_message bytes messages taker.splitter.rest
  pub clear : taker.splitter.refusal ≡ None
  pub kept : taker.refusal ≡ None
  pub number : taker.number ≡ counted (length messages)
  pub gains : Gains o (fragments_text messages)

-- it was given these bytes, and has recorded all messages that are whole in them
pub record HasCut (taker : Fragmenter) (bytes : List ℕ) : Type 0 where
  pub waits : next_message (cut next_message bytes).rest ≡ Few
  pub fine : (n : ℕ) → (fragmented (take n bytes)).refusal ≡ None
  pub holds : taker.splitter ≡ holding (cut next_message bytes).rest
  pub kept : taker.refusal ≡ None
  pub number : taker.number ≡ counted (fragmented bytes).count

abbrev pub RefusesCut : Fragmenter → List ℕ → Type 0
RefusesCut taker bytes = IsRefused fragmented taker.number taker.refusal bytes

-- what going on by one message answers
abbrev pub CutsOn : Result (Option Taken) TakeFault → Fragmenter → List ℕ → Change → Type 0
CutsOn answer new bytes o = GoesOn IsCutting HasCut RefusesCut (fragmented bytes).text answer new bytes o

-- `join` ---------------------------------------------------------------------------------------------------------

-- it was given these bytes, has joined these fragments of them, and the rest isn't worked off
pub record IsJoining (taker : Assembler) (bytes : List ℕ) (o : Change) : Type 0 where
  pub fragments : List (List ℕ)
  pub cuts : Cuts next_fragment bytes fragments taker.pending
  pub joiner : taker.joiner ≡ joiner_after fresh fragments
  pub clear : taker.joiner.refusal ≡ None
  pub kept : taker.refusal ≡ None
  pub number : taker.number ≡ counted (length fragments)
  pub gains : Gains o (joined_text fragments)

-- it was given these bytes, and has joined all fragments that are whole in them
pub record HasJoined (taker : Assembler) (bytes : List ℕ) : Type 0 where
  pub waits : next_fragment (cut next_fragment bytes).rest ≡ Few
  pub fine : (n : ℕ) → (joined (take n bytes)).refusal ≡ None
  pub holds : taker.pending ≡ (cut next_fragment bytes).rest
  pub joiner : taker.joiner ≡ joiner_after fresh (cut next_fragment bytes).items
  pub clear : taker.joiner.refusal ≡ None
  pub kept : taker.refusal ≡ None
  pub number : taker.number ≡ counted (joined bytes).count

abbrev pub RefusesJoin : Assembler → List ℕ → Type 0
RefusesJoin taker bytes = IsRefused joined taker.number taker.refusal bytes

-- what going on by one fragment answers
abbrev pub JoinsOn : Result (Option Taken) TakeFault → Assembler → List ℕ → Change → Type 0
JoinsOn answer new bytes o = GoesOn IsJoining HasJoined RefusesJoin (joined bytes).text answer new bytes o
