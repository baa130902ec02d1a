-- What comes first at a cursor: the effect of the message at its front.
use Rattle.std.proofs.Common.{◌≡◌, ℕ, List, [], ◌∷◌, ◌++◌, drop, map, Some, Ok, Err, refl, sym, ap, ◌∙◌}
use Rattle.gfx_pdu.specs.declared.pdu.Pdu.{Pdu}
use Rattle.gfx_pdu.specs.Reading.{message_at}
use Rattle.gfx_state.specs.State.{State}
use Rattle.gfx_state.specs.Step.{step}
use Rattle.gfx_state.specs.Payload.{messages_of}
use Rattle.gfx_state.specs.Run.{deliver}
use Rattle.gfx_state.specs.Cursor.{Cursor, Takes, what_next, Reaches, Here, Taking, run_at}
use Rattle.gfx_state.specs.History.{Effect, effects, state_after, history_held, coming}
use Rattle.gfx_state.proofs.Coming.{coming_reaches, coming_refuses}
use Rattle.gfx_state.proofs.Effects.{effects_cons}
use Rattle.gfx_state.proofs.NextMoves.{what_next_refuses}
use Rattle.gfx_state.proofs.Payloads.{messages_of_more}

no_effect : (es : List Effect) → map (λ (e : Effect). e.pdu) es ≡ [] → es ≡ []
no_effect [] none = refl
no_effect (e ∷ es) none = absurd cc

-- moves without a message bring nothing about
pub still_coming : (from to : Cursor) → Reaches from [] to → coming from ≡ coming to
still_coming from to moves =
    let done = coming_reaches from to [] moves in
    done.first ∙ ap (λ z. z ++ coming to) (no_effect done.all done.messages)

-- the one effect of one message
one_effect : (es : List Effect) (pdu : Pdu) → map (λ (e : Effect). e.pdu) es ≡ pdu ∷ [] → (e : Effect) × (es ≡ e ∷ []) × (e.pdu ≡ pdu)
one_effect [] pdu same = absurd cc
one_effect (e ∷ []) pdu same = (e, refl, cc)
one_effect (e ∷ f ∷ es) pdu same = absurd cc

-- what comes first has the size of the message at the front
first_size : (c : Cursor) (m : Pdu × ℕ) (e : Effect) (es : List Effect) → message_at c.left ≡ Ok (Some m) → coming c ≡ e ∷ es → m.1 ≡ e.size
unfolding coming
first_size c m e es read comes =
    let others = (messages_of (drop m.1 c.left)).read in
    let held = history_held (deliver (run_at c) (messages_of c.left)) c.splitter.refusal c.splitter.rest in
    let front : coming c ≡ effects c.state (m ∷ others) ++ held = ap (λ z. effects c.state z.read ++ held) (messages_of_more c.left m read) in
    elim (step c.state m.0) as (λ s. step c.state m.0 ≡ s → m.1 ≡ e.size) [
      | Ok next ↦ λ stepped.
          let one : Effect = record { pdu = m.0; size = m.1; state = next } in
          let both : one ∷ (effects next others ++ held) ≡ e ∷ es = sym (front ∙ ap (λ z. z ++ held) (effects_cons c.state next m others stepped)) ∙ comes in
          let same : one ≡ e = cc in
          ap (λ (z : Effect). z.size) same
      | Err r ↦ λ stepped. let none = coming_refuses c r (what_next_refuses c m.0 m.1 r read stepped) in absurd cc
    ] refl

-- what comes first is what a message that is taken does
pub coming_takes : (c d : Cursor) (pdu : Pdu) (size : ℕ) → message_at c.left ≡ Ok (Some (pdu, size)) → what_next c ≡ Takes pdu d
    → coming c ≡ record { pdu = pdu; size = size; state = d.state } ∷ coming d
coming_takes c d pdu size read takes =
    let done = coming_reaches c d (pdu ∷ []) (Taking c d d pdu [] takes (Here d)) in
    let one = one_effect done.all pdu done.messages in
    let comes : coming c ≡ one.0 ∷ coming d = done.first ∙ ap (λ z. z ++ coming d) one.1 in
    let after : d.state ≡ one.0.state = done.state ∙ ap (state_after c.state) one.1 in
    let effect_of : Pdu → ℕ → State → Effect = λ p n s. record { pdu = p; size = n; state = s } in
    let sized : size ≡ one.0.size = first_size c (pdu, size) one.0 (coming d) read comes in
    comes
    ∙ ap (λ p. effect_of p one.0.size one.0.state ∷ coming d) one.2
    ∙ ap (λ n. effect_of pdu n one.0.state ∷ coming d) (sym sized)
    ∙ ap (λ s. effect_of pdu size s ∷ coming d) (sym after)
