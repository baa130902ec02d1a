-- A client that begins with bitmaps.
use Rattle.std.proofs.Common.{◌≡◌, ◌∙◌, ap, sym, refl, Bool, List, [], ℕ, None, Result, Ok, Err}
use Rattle.gfx_base.specs.Outcome.{Gives}
use Rattle.gfx_base.specs.declared.answer.Cause.{Cause}
use Rattle.gfx_base.specs.declared.answer.Cause.TheVariants as fault
use Rattle.gfx_base.specs.declared.refusal.Refusal.{Refusal}
use Rattle.gfx_bitmap_cache.specs.Slots.{Cached, Entry}
use Rattle.gfx_client.specs.Client.{cursor_of, closed_by, IsUntouched}
use Rattle.gfx_client.specs.Standing.{BeginsWith, Imports}
use Rattle.gfx_client.specs.declared.client.Client.{Client}
use Rattle.gfx_import.specs.Started.{cache_by}
use Rattle.gfx_import.proofs.StartedLemmas.{cache_by-small}
use Rattle.gfx_segment.specs.Framing.{answer_of, holding, next, next_of, payload}
use Rattle.gfx_segment.proofs.FrontLemmas.{front-nil}
use Rattle.gfx_state.specs.Cursor.{Cursor, Needs, after_held, before_all, settled, what_next}
use Rattle.gfx_state.specs.History.{coming, effects, history, history_held}
use Rattle.gfx_state.specs.Payload.{messages_within}
use Rattle.gfx_state.specs.Run.{begun_from, close, deliver, run_from}
use Rattle.gfx_state.specs.State.{State, started_with}
use Rattle.gfx_state.proofs.Effects.{history-nil}
use Rattle.gfx_state.proofs.NextMoves.{what_next_needs}
use Rattle.gfx_state.proofs.Payloads.{message_at-nil}

-- a new client
pub untouched_new : (client : Client) → cursor_of client ≡ before_all → closed_by client ≡ None → IsUntouched client
untouched_new client new none = record { at_start = new; not_closed = none }

-- nothing was taken from this state on
abbrev pub first_at : State → Cursor
first_at start = record before_all { state = start }

settled_first : (start : State) → settled (first_at start) ≡ run_from start []
unfolding settled after_held deliver close messages_within
settled_first start = refl

coming_first : (start : State) → coming (first_at start) ≡ []
unfolding coming history_held history effects deliver close messages_within
coming_first start = refl

nothing_held : next payload (holding []) ≡ Ok None
unfolding next_of answer_of
nothing_held = ap (answer_of payload) front-nil

needs_first : (start : State) → what_next (first_at start) ≡ Needs
needs_first start = what_next_needs (first_at start) message_at-nil nothing_held

-- its cache takes the place of none
pub began : (client : Client) (state : State) (cache : Cached) → IsUntouched client → state ≡ record client.state { cache = cache } → BeginsWith cache client (record client { state = state })
began client state cache is put =
    let start = started_with cache.slots cache.small in
    let same : cursor_of (record client { state = state }) ≡ first_at start =
    ap (λ s. cursor_of (record client { state = s })) put ∙ ap (λ (z : Cursor). record z { state = record z.state { cache = cache } }) is.at_start in
    record {
      stands = record { run = ap settled same ∙ settled_first start };
      brought = record { is = history-nil (begun_from start) ∙ sym (ap coming same ∙ coming_first start) };
      drained = record { needs = ap what_next same ∙ needs_first start; not_closed = is.not_closed };
      rest = ap (λ s. cursor_of (record client { state = s })) put;
    }

-- a fault leaves it as it was
pub not_begun : (client : Client) (f : Cause Refusal) (due : Result Cached Refusal) → Gives {X = Cached} (λ cache. cache) (Err f) due → Imports (Err f) client client due
not_begun client fault.Memory due gave = refl
not_begun client (fault.Refused r) due gave = (gave, refl)

-- and the limits are those that were chosen
pub begun_small : (kept : List Entry) (reply : List ℕ) (small : Bool) (cache : Cached) (old new : State) → cache_by kept reply small ≡ Ok cache → new ≡ record old { cache = cache } → new.cache.small ≡ small
begun_small kept reply small cache old new gave put = ap (λ (s : State). s.cache.small) put ∙ cache_by-small kept reply small cache gave
