-- What the client of a session draws, step by step.
use Rattle.std.proofs.Common.{◌≡◌, ℕ, ◌<◌, List, [], ◌∷◌, ◌++◌, map, Option, Some, None, Ok, Err, refl, sym, ap, ◌∙◌, subst, append_assoc, arith}
use Rattle.std.proofs.lemmas.List.{append-nil, map-append}
use Rattle.std.proofs.lemmas.List.Elements.{filter-append}
use Rattle.std.proofs.lemmas.Grind.{flat_map-append}
use Rattle.gfx_base.specs.declared.refusal.Refusal.{Refusal}
use Rattle.gfx_client.specs.Client.{cursor_of, closed_by, Steps, StepsOpen, Ends, MovesBy, Waits}
use Rattle.gfx_client.specs.Replies.{stepped_of, stepped_by, reply_in, replies}
use Rattle.gfx_client.specs.Standing.{HasBroughtFrom, BringsNext, BringsOpen}
use Rattle.gfx_client.specs.declared.client.Client.{Client}
use Rattle.gfx_client.specs.declared.fault.ClientFault.{ClientFault}
use Rattle.gfx_client.specs.declared.fault.ClientFault.TheVariants.{Refused, Memory, ClosedRefused, ClosedMemory}
use Rattle.gfx_client.specs.declared.stepped.Stepped.{Stepped}
use Rattle.gfx_client.specs.declared.stepped.Stepped.TheVariants.{Applied, Ended, Need}
use Rattle.gfx_pdu.specs.declared.id.Id.{Id}
use Rattle.gfx_pdu.specs.declared.pdu.Pdu.{Pdu}
use Rattle.gfx_pdu.specs.declared.pdu.Pdu.TheVariants.{EndFrame}
use Rattle.gfx_state.specs.Cursor.{settled, run_at}
use Rattle.gfx_state.specs.History.{Effect, end_states, ends_frame}
use Rattle.gfx_state.specs.Run.{Run, refuse}
use Rattle.gfx_state.specs.State.{State}
use Rattle.gfx_state.proofs.Moves.{settled_reaches, settled_refuses}
use Rattle.gfx_state.proofs.Weights.{weight, weight_reaches}
use Rattle.gfx_session.specs.Drawing.{drawn_by, Drew, Draws}
use Rattle.gfx_session.specs.declared.drawing.Drawn.{Drawn}
use Rattle.gfx_session.specs.declared.drawing.Drawn.TheVariants.{Nothing, Message, Frame}
use Rattle.gfx_session.specs.Kept.{noted}
use Rattle.gfx_session.specs.declared.digests.Digests.{Digests}

-- a client whose run isn't refused refuses nothing -------------------------------------------------------------

not_refused : (old new : Client) (r : Refusal) → (settled (cursor_of old)).refusal ≡ None → Ends old new r → ⊥
not_refused old new r good e =
    let run : settled (cursor_of old) ≡ refuse (run_at e.at) r = sym (settled_reaches (cursor_of old) e.at [] e.reaches) ∙ settled_refuses e.at r e.refuses in
    let refusal : (settled (cursor_of old)).refusal ≡ Some r = ap (λ (z : Run). z.refusal) run in
    absurd cc

only_memory : (f : ClientFault) (old new : Client) → (settled (cursor_of old)).refusal ≡ None → StepsOpen (Err f) old new → f ≡ Memory
only_memory (Refused number r) old new good s = absurd (not_refused old new r good s.0)
only_memory Memory old new good s = refl
only_memory (ClosedRefused number r) old new good s = absurd s
only_memory ClosedMemory old new good s = absurd s

pub memory_alone : (f : ClientFault) (old new : Client) → closed_by old ≡ None → (settled (cursor_of old)).refusal ≡ None → Steps (closed_by old) (Err f) old new → f ≡ Memory
memory_alone f old new none good s = only_memory f old new good (subst (λ (z : Option ClientFault). Steps z (Err f) old new) none s)

-- what is noted of a step -----------------------------------------------------------------------------------

-- what is kept of the state at the end of a frame
abbrev pub noted_of : Digests → Stepped → State → List (Option (List ℕ))
noted_of digests (Ended frame size reply) state = noted digests state ∷ []
noted_of digests other state = []

one_noted : (digests : Digests) (pdu : Pdu) (size : ℕ) (state : State) → map (noted digests) (end_states (record { pdu = pdu; size = size; state = state } ∷ [])) ≡ noted_of digests (stepped_of pdu size state.decoded) state
one_noted digests (EndFrame frame) size state = refl
one_noted digests other size state = refl

more_noted : (digests : Digests) (xs ys : List Effect) → map (noted digests) (end_states (xs ++ ys)) ≡ map (noted digests) (end_states xs) ++ map (noted digests) (end_states ys)
more_noted digests xs ys =
    ap (λ z. map (noted digests) (map (λ (e : Effect). e.state) z)) (filter-append (λ (e : Effect). ends_frame e.pdu) xs ys)
    ∙ ap (map (noted digests)) (map-append (λ (e : Effect). e.state) _ _)
    ∙ map-append (noted digests) (end_states xs) (end_states ys)

more_replies : (all : List Effect) (next : Effect) → replies (all ++ next ∷ []) ≡ replies all ++ reply_in (stepped_by next)
more_replies all next = flat_map-append (λ (e : Effect). reply_in (stepped_by e)) all (next ∷ []) ∙ ap (λ z. replies all ++ z) (append-nil (reply_in (stepped_by next)))

-- nothing is drawn yet
pub draws_none : (digests : Digests) (client : Client) (up : List ℕ) (drawn : List (Option (List ℕ))) → Draws digests client client up up drawn drawn
draws_none digests client up drawn = λ origin bytes all b. record {
  more = [];
  brought = subst (HasBroughtFrom origin client bytes) (sym (append-nil all)) b;
  replied = sym (append-nil up);
  shown = sym (append-nil drawn);
}

-- one more message
draws_next : {origin : State} (digests : Digests) (old new : Client) (said : Stepped) (bytes : List ℕ) (all : List Effect) (up_before up up_now : List ℕ) (drawn_before drawn drawn_now : List (Option (List ℕ))) (d : Drew digests origin old bytes all up_before up drawn_before drawn)
    → BringsNext origin new bytes (all ++ d.more) said → up_now ≡ up ++ reply_in said → drawn_now ≡ drawn ++ noted_of digests said (cursor_of new).state → Drew digests origin new bytes all up_before up_now drawn_before drawn_now
draws_next {origin = origin} digests old new said bytes all up_before up up_now drawn_before drawn drawn_now d n replied shown = record {
  more = d.more ++ n.next ∷ [];
  brought = subst (HasBroughtFrom origin new bytes) (append_assoc all d.more (n.next ∷ [])) n.brought;
  replied =
      replied ∙ ap (λ z. z ++ reply_in said) d.replied ∙ append_assoc up_before (replies d.more) (reply_in said)
      ∙ ap (λ z. up_before ++ (replies d.more ++ reply_in z)) n.says ∙ ap (λ z. up_before ++ z) (sym (more_replies d.more n.next));
  shown =
      let here : noted_of digests said (cursor_of new).state ≡ map (noted digests) (end_states (n.next ∷ [])) =
      (λ i. noted_of digests (n.says i) (n.state i)) ∙ sym (one_noted digests n.next.pdu n.next.size n.next.state) in
      shown ∙ ap (λ z. z ++ noted_of digests said (cursor_of new).state) d.shown
      ∙ append_assoc drawn_before (map (noted digests) (end_states d.more)) (noted_of digests said (cursor_of new).state)
      ∙ ap (λ z. drawn_before ++ (map (noted digests) (end_states d.more) ++ z)) here
      ∙ ap (λ z. drawn_before ++ z) (sym (more_noted digests d.more (n.next ∷ [])));
}

draws_applied : (digests : Digests) (start old new : Client) (id : Id) (size : ℕ) (up_before up : List ℕ) (drawn_before drawn : List (Option (List ℕ))) → Draws digests start old up_before up drawn_before drawn
    → ((origin : State) (bytes : List ℕ) (all : List Effect) → HasBroughtFrom origin old bytes all → BringsNext origin new bytes all (Applied id size)) → Draws digests start new up_before up drawn_before drawn
draws_applied digests start old new id size up_before up drawn_before drawn before brings = λ origin bytes all b.
    let d = before origin bytes all b in
    draws_next digests old new (Applied id size) bytes all up_before up up drawn_before drawn drawn d (brings origin bytes (all ++ d.more) d.brought) (sym (append-nil up)) (sym (append-nil drawn))

draws_ended : (digests : Digests) (start old new : Client) (frame size : ℕ) (reply : List ℕ) (up_before up up_now : List ℕ) (drawn_before drawn drawn_now : List (Option (List ℕ))) → Draws digests start old up_before up drawn_before drawn
    → ((origin : State) (bytes : List ℕ) (all : List Effect) → HasBroughtFrom origin old bytes all → BringsNext origin new bytes all (Ended frame size reply))
    → up_now ≡ up ++ reply → drawn_now ≡ drawn ++ noted digests (cursor_of new).state ∷ [] → Draws digests start new up_before up_now drawn_before drawn_now
draws_ended digests start old new frame size reply up_before up up_now drawn_before drawn drawn_now before brings replied shown = λ origin bytes all b.
    let d = before origin bytes all b in
    draws_next digests old new (Ended frame size reply) bytes all up_before up up_now drawn_before drawn drawn_now d (brings origin bytes (all ++ d.more) d.brought) replied shown

-- a message that ends no frame
pub draws_message : (digests : Digests) (start old new : Client) (stepped : Stepped) (up_before up : List ℕ) (drawn_before drawn : List (Option (List ℕ))) → drawn_by stepped ≡ Message → Draws digests start old up_before up drawn_before drawn
    → ((origin : State) (bytes : List ℕ) (all : List Effect) → HasBroughtFrom origin old bytes all → BringsOpen origin (Ok stepped) new bytes all) → Draws digests start new up_before up drawn_before drawn
draws_message digests start old new Need up_before up drawn_before drawn is before brings = absurd cc
draws_message digests start old new (Applied id size) up_before up drawn_before drawn is before brings = draws_applied digests start old new id size up_before up drawn_before drawn before brings
draws_message digests start old new (Ended frame size reply) up_before up drawn_before drawn is before brings = absurd cc

abbrev reply_drawn : Drawn → List ℕ
reply_drawn (Frame reply) = reply
reply_drawn other = []

-- the end of a frame
pub draws_frame : (digests : Digests) (start old new : Client) (stepped : Stepped) (said : List ℕ) (up_before up up_now : List ℕ) (drawn_before drawn drawn_now : List (Option (List ℕ))) → drawn_by stepped ≡ Frame said → Draws digests start old up_before up drawn_before drawn
    → ((origin : State) (bytes : List ℕ) (all : List Effect) → HasBroughtFrom origin old bytes all → BringsOpen origin (Ok stepped) new bytes all)
    → up_now ≡ up ++ said → drawn_now ≡ drawn ++ noted digests (cursor_of new).state ∷ [] → Draws digests start new up_before up_now drawn_before drawn_now
draws_frame digests start old new Need said up_before up up_now drawn_before drawn drawn_now is before brings replied shown = absurd cc
draws_frame digests start old new (Applied id size) said up_before up up_now drawn_before drawn drawn_now is before brings replied shown = absurd cc
draws_frame digests start old new (Ended frame size reply) said up_before up up_now drawn_before drawn drawn_now is before brings replied shown =
    let same : reply ≡ said = ap reply_drawn is in
    draws_ended digests start old new frame size reply up_before up up_now drawn_before drawn drawn_now before brings (replied ∙ ap (λ z. up ++ z) (sym same)) shown

-- it needs more bytes
pub draws_rest : (digests : Digests) (start old new : Client) (up_before up : List ℕ) (drawn_before drawn : List (Option (List ℕ))) → Draws digests start old up_before up drawn_before drawn
    → ((origin : State) (bytes : List ℕ) (all : List Effect) → HasBroughtFrom origin old bytes all → HasBroughtFrom origin new bytes all) → Draws digests start new up_before up drawn_before drawn
draws_rest digests start old new up_before up drawn_before drawn before brings = λ origin bytes all b.
    let d = before origin bytes all b in
    record { more = d.more; brought = brings origin bytes (all ++ d.more) d.brought; replied = d.replied; shown = d.shown }

-- where a step leaves the client ------------------------------------------------------------------------------

pub record GoesOn (start old new : Client) : Type 0 where
  pub run : settled (cursor_of new) ≡ settled (cursor_of start)
  pub not_closed : closed_by new ≡ None
  pub lighter : weight (cursor_of new) < weight (cursor_of old)

goes_on : (start old new : Client) (said : Stepped) → settled (cursor_of old) ≡ settled (cursor_of start) → closed_by old ≡ None → MovesBy old new said → GoesOn start old new
goes_on start old new said same none m = record {
  run = settled_reaches (cursor_of old) (cursor_of new) (m.pdu ∷ []) m.moves.reaches ∙ same;
  not_closed = m.moves.closed ∙ none;
  lighter = let few = weight_reaches (cursor_of old) (cursor_of new) (m.pdu ∷ []) m.moves.reaches in omega arith;
}

-- a step that is no wait
pub goes_by : (start old new : Client) (stepped : Stepped) → (drawn_by stepped ≡ Nothing → ⊥) → settled (cursor_of old) ≡ settled (cursor_of start) → closed_by old ≡ None → StepsOpen (Ok stepped) old new → GoesOn start old new
goes_by start old new Need moved same none steps = absurd (moved refl)
goes_by start old new (Applied id size) moved same none steps = goes_on start old new (Applied id size) same none steps
goes_by start old new (Ended frame size reply) moved same none steps = goes_on start old new (Ended frame size reply) same none steps

pub no_message : (stepped : Stepped) → drawn_by stepped ≡ Message → drawn_by stepped ≡ Nothing → ⊥
no_message stepped is other = absurd cc

pub no_frame : (stepped : Stepped) (said : List ℕ) → drawn_by stepped ≡ Frame said → drawn_by stepped ≡ Nothing → ⊥
no_frame stepped said is other = absurd cc

-- a step that is one
pub needs : (old new : Client) (stepped : Stepped) → drawn_by stepped ≡ Nothing → StepsOpen (Ok stepped) old new → Waits old new
needs old new Need is steps = steps
needs old new (Applied id size) is steps = absurd cc
needs old new (Ended frame size reply) is steps = absurd cc

pub needs_brought : {origin : State} (new : Client) (bytes : List ℕ) (all : List Effect) (stepped : Stepped) → drawn_by stepped ≡ Nothing → BringsOpen origin (Ok stepped) new bytes all → HasBroughtFrom origin new bytes all
needs_brought new bytes all Need is brings = brings.0
needs_brought new bytes all (Applied id size) is brings = absurd cc
needs_brought new bytes all (Ended frame size reply) is brings = absurd cc

pub waits_on : (start old new : Client) → settled (cursor_of old) ≡ settled (cursor_of start) → Waits old new → settled (cursor_of new) ≡ settled (cursor_of start)
waits_on start old new same w = settled_reaches (cursor_of old) (cursor_of new) [] w.moves.reaches ∙ same
