-- A client inside messages that were sent to it, cut anywhere: this project's own promise.
use Rattle.std.specs.Prelude.{◌≡◌, ℕ, List, ◌++◌, None, Ok}
use Rattle.std.specs.List.{AllByRecursion}
use Rattle.gfx_pdu.specs.declared.pdu.Pdu.{Pdu}
use Rattle.gfx_segment.specs.Framing.{Short, front}
use Rattle.gfx_state.specs.History.{history, effects, spelled}
use Rattle.gfx_state.specs.Run.{Run, eats}
use Rattle.gfx_state.specs.Sending.{all_steps, sent, IsCarried}
use Rattle.gfx_state.specs.State.{State}

-- a run that goes on, between two messages or inside one, with these bytes to come: what it holds and they
-- are these messages, which it will accept
pub record IsInside (run : Run) (bytes : List ℕ) (todo : List Pdu) (last : State) : Type 0 where
  pub goes_on : run.refusal ≡ None
  pub short : front run.rest ≡ Short
  pub bytes_are : run.rest ++ bytes ≡ sent todo
  pub carried : AllByRecursion IsCarried todo
  pub accepted : all_steps run.state todo ≡ Ok last

-- it has taken the first of those bytes: it has applied the first of the messages, and is inside the others
pub record HasRead (run : Run) (bytes behind : List ℕ) (todo : List Pdu) (last : State) : Type 0 where
  pub done : List Pdu
  pub left : List Pdu
  pub cut : todo ≡ done ++ left
  pub steps : all_steps run.state done ≡ Ok (eats run bytes).state
  pub made : history run bytes ≡ effects run.state (spelled done)
  pub inside : IsInside (eats run bytes) behind left last

abbrev pub MessagesAreReadInPieces : Type 0
MessagesAreReadInPieces = (run : Run) (bytes behind : List ℕ) (todo : List Pdu) (last : State) → IsInside run (bytes ++ behind) todo last → HasRead run bytes behind todo last
