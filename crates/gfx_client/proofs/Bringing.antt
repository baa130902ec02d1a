-- What a client has brought about, through its calls.
use Rattle.std.proofs.Common.{◌≡◌, List, [], ◌∷◌, ◌++◌, ℕ, Option, Some, None, Ok, Err, refl, sym, ap, ◌∙◌, append_assoc}
use Rattle.std.proofs.lemmas.List.{append-nil}
use Rattle.gfx_base.specs.declared.refusal.Refusal.{Refusal}
use Rattle.gfx_client.specs.declared.client.Client.{Client}
use Rattle.gfx_client.specs.declared.fault.ClientFault.{ClientFault}
use Rattle.gfx_client.specs.declared.fault.ClientFault.TheVariants as fault
use Rattle.gfx_client.specs.declared.stepped.Stepped.{Stepped}
use Rattle.gfx_client.specs.declared.stepped.Stepped.TheVariants as stepped
use Rattle.gfx_client.specs.Client.{cursor_of, Advances, Moves, MovesBy, Ends}
use Rattle.gfx_client.proofs.NextEffects.{still_coming}
use Rattle.gfx_client.specs.Standing.{StandsFrom, HasBrought, HasBroughtFrom, BringsNext, Brings, IsDrained}
use Rattle.gfx_state.specs.Cursor.{given, before_all, Reaches}
use Rattle.gfx_state.specs.Run.{begun, begun_from, run_from}
use Rattle.gfx_state.specs.State.{State}
use Rattle.gfx_state.specs.History.{Effect, history, history_from, coming}
use Rattle.gfx_state.proofs.Effects.{history-nil, history-append}
use Rattle.gfx_state.proofs.Coming.{coming_before_all, coming-given, coming_needs, coming_refuses}

pub brought_new : (client : Client) → cursor_of client ≡ before_all → HasBrought client [] []
brought_new client new = record { is = history-nil begun ∙ sym (ap coming new ∙ coming_before_all) }

pub brought_taken : (origin : State) (old new : Client) (bytes piece : List ℕ) (all : List Effect) → cursor_of new ≡ given (cursor_of old) piece → StandsFrom origin old bytes → HasBroughtFrom origin old bytes all → HasBroughtFrom origin new (bytes ++ piece) all
brought_taken origin old new bytes piece all took s b = record {
  is = history-append (begun_from origin) bytes piece
      ∙ ap (λ z. z ++ history (run_from origin bytes) piece) b.is
      ∙ append_assoc all (coming (cursor_of old)) (history (run_from origin bytes) piece)
      ∙ ap (λ z. all ++ (coming (cursor_of old) ++ history z piece)) (sym s.run)
      ∙ ap (λ z. all ++ z) (sym (ap coming took ∙ coming-given (cursor_of old) piece));
}

-- a message is applied ---------------------------------------------------------------------------------------

brought_next : {origin : State} (old new : Client) (said : Stepped) (bytes : List ℕ) (all : List Effect) → MovesBy old new said → HasBroughtFrom origin old bytes all → BringsNext origin new bytes all said
brought_next old new said bytes all m b =
    let next : Effect = record { pdu = m.pdu; size = m.size; state = (cursor_of new).state } in
    record {
      next = next;
      says = m.says;
      state = refl;
      brought = record { is = b.is ∙ ap (λ z. all ++ z) m.first ∙ sym (append_assoc all (next ∷ []) (coming (cursor_of new))) };
    }

-- no message is applied ----------------------------------------------------------------------------------------

brought_on : {origin : State} (old new : Client) (bytes : List ℕ) (all : List Effect) → Reaches (cursor_of old) [] (cursor_of new) → HasBroughtFrom origin old bytes all → HasBroughtFrom origin new bytes all
brought_on old new bytes all moves b = record { is = b.is ∙ ap (λ z. all ++ z) (still_coming (cursor_of old) (cursor_of new) moves) }

-- what a step answers --------------------------------------------------------------------------------------------

pub brings_said : {origin : State} (closed : Option ClientFault) (old new : Client) (said : Stepped) (bytes : List ℕ) (all : List Effect) → closed ≡ None → Advances (Ok said) old new → HasBroughtFrom origin old bytes all → Brings origin closed (Ok said) new bytes all
brings_said (Some f) old new said bytes all none a b = absurd cc
brings_said None old new stepped.Need bytes all none w b =
    let on = brought_on old new bytes all w.moves.reaches b in
    (on, on.is ∙ ap (λ z. all ++ z) (coming_needs (cursor_of new) w.needs) ∙ append-nil all)
brings_said None old new other bytes all none m b = brought_next old new other bytes all m b

pub brings_refused : {origin : State} (closed : Option ClientFault) (old mid new : Client) (number : ℕ) (r : Refusal) (bytes : List ℕ) (all : List Effect) → closed ≡ None → Ends old mid r → HasBroughtFrom origin old bytes all → Brings origin closed (Err (fault.Refused number r)) new bytes all
brings_refused (Some f) old mid new number r bytes all none e b = absurd cc
brings_refused None old mid new number r bytes all none e b =
    b.is ∙ ap (λ z. all ++ z) (still_coming (cursor_of old) e.at e.reaches ∙ coming_refuses e.at r e.refuses) ∙ append-nil all

pub brings_none : {origin : State} (closed : Option ClientFault) (old mid new : Client) (bytes : List ℕ) (all : List Effect) → closed ≡ None → Moves old mid [] → cursor_of new ≡ cursor_of mid → HasBroughtFrom origin old bytes all → Brings origin closed (Err fault.Memory) new bytes all
brings_none (Some f) old mid new bytes all none m same b = absurd cc
brings_none None old mid new bytes all none m same b =
    record { is = (brought_on old mid bytes all m.reaches b).is ∙ ap (λ z. all ++ coming z) (sym same) }

-- a drained client has brought about all of the history of its bytes
pub brought_drained : (origin : State) (client : Client) (bytes : List ℕ) → IsDrained client → HasBroughtFrom origin client bytes (history_from origin bytes)
brought_drained origin client bytes d = record { is = sym (append-nil (history_from origin bytes)) ∙ ap (λ z. history_from origin bytes ++ z) (sym (coming_needs (cursor_of client) d.needs)) }
