-- Messages that may be sent, one after another.
use Rattle.std.proofs.Common.{◌≡◌, ℕ, ◌+◌, ◌<◌, ◌≤◌, true, List, [], ◌∷◌, ◌++◌, take, drop, length, get_or, Option, Some, Result, Ok, Err, is_some, refl, sym, ap, ◌∙◌, subst, append_assoc, take-append-drop}
use Rattle.std.specs.Prelude.{IfSome, IsSome, OnOk, OnErr}
use Rattle.std.specs.Result.{IsOk, is_ok}
use Rattle.std.proofs.lemmas.List.{append-nil, take_more, drop_more, take_all}
use Rattle.gfx_base.specs.Results.{and_then}
use Rattle.gfx_base.specs.declared.answer.NoMemory.{NoMemory}
use Rattle.gfx_base.proofs.ResultLemmas.{and_then_at}
use Rattle.gfx_base.specs.Format.{byte_of, format_of}
use Rattle.gfx_base.specs.Geometry.{width_of, height_of}
use Rattle.gfx_base.specs.declared.geometry.Rect.{Rect}
use Rattle.gfx_base.specs.declared.pixel.Rgb.{Rgb}
use Rattle.gfx_clear.specs.declared.layer.Layer.{Layer}
use Rattle.gfx_clear.specs.Sending.{sent as stream_sent}
use Rattle.gfx_pdu.specs.Spelling.{spelling}
use Rattle.gfx_pdu.specs.declared.pdu.Pdu.{Pdu}
use Rattle.gfx_pdu.specs.declared.pdu.Pdu.TheVariants.{WireToSurface1}
use Rattle.gfx_segment.specs.Framing.{wrapped}
use Rattle.gfx_pdu.specs.Codecs.{CLEAR_CODEC}
use Rattle.gfx_surface.specs.Picture.{Picture}
use Rattle.gfx_planner.specs.ClearPaints.{clear_message}
use Rattle.gfx_state.specs.State.{State}
use Rattle.gfx_state.specs.Step.{step}
use Rattle.gfx_state.specs.Sending.{all_steps, sent, IsCarried}
use Rattle.gfx_state.proofs.Sent.{all_steps-append, sent-append}
use Rattle.gfx_planner.specs.Planned.{MaySend, SendsMessages, PutsFront}
use Rattle.gfx_planner.proofs.Effects.{all_steps-none, sent-none, sent_and_accepted, sent_nothing}
use Rattle.gfx_planner.proofs.Paints.{format_back}
use Rattle.gfx_planner.proofs.Lists.{all_behind}

ok_first : {A B E : Type 0} (r : Result A E) (f : A → Result B E) → is_ok (and_then r f) ≡ true → is_ok r ≡ true
unfolding and_then
ok_first (Ok x) f is = refl
ok_first (Err e) f is = is

-- the first of messages that may be sent
may_first : (state : State) (pdu : Pdu) (pdus : List Pdu) → MaySend state (pdu ∷ pdus) → IsCarried pdu × IsOk (step state pdu)
unfolding all_steps
may_first state pdu pdus may = (may.carried.0, ok_first (step state pdu) (λ s. all_steps s pdus) may.accepted)

-- and those behind a front
may_behind : (state via : State) (xs ys : List Pdu) → MaySend state (xs ++ ys) → all_steps state xs ≡ Ok via → MaySend via ys
may_behind state via xs ys may first = record {
  carried = all_behind IsCarried xs ys may.carried;
  accepted = ap is_ok (sym (and_then_at (all_steps state xs) via (λ s. all_steps s ys) first)) ∙ ap is_ok (sym (all_steps-append state xs ys)) ∙ may.accepted;
}

-- one list behind another
sent_both : (result : Result (Unit {0}) NoMemory) (old via new : State) (before mid now : List ℕ) (xs ys : List Pdu)
    → (all_steps old xs ≡ Ok via) × (mid ≡ before ++ sent xs) → SendsMessages result via new mid now ys → SendsMessages result old new before now (xs ++ ys)
sent_both (Ok done) old via new before mid now xs ys first second = (
  all_steps-append old xs ys ∙ and_then_at (all_steps old xs) via (λ s. all_steps s ys) first.0 ∙ second.0,
  second.1 ∙ ap (λ z. z ++ sent ys) first.1 ∙ append_assoc before (sent xs) (sent ys) ∙ ap (λ z. before ++ z) (sym (sent-append xs ys)),
)
sent_both (Err e) old via new before mid now xs ys first second = record {
  part = sent xs ++ second.part;
  rest = second.rest;
  cut = sent-append xs ys ∙ ap (λ z. sent xs ++ z) second.cut ∙ sym (append_assoc (sent xs) second.part second.rest);
  gained = second.gained ∙ ap (λ z. z ++ second.part) first.1 ∙ append_assoc before (sent xs) second.part;
}

-- a front is put out of what was due
front_more : (before now : List ℕ) (xs ys : List Pdu) → PutsFront before now (sent xs) → PutsFront before now (sent (xs ++ ys))
front_more before now xs ys p = record {
  part = p.part;
  rest = p.rest ++ sent ys;
  cut = sent-append xs ys ∙ ap (λ z. z ++ sent ys) p.cut ∙ append_assoc p.part p.rest (sent ys);
  gained = p.gained;
}

-- the loop ------------------------------------------------------------------------------------------

-- so many of these messages are accepted and put out
pub record Sending (old : State) (before : List ℕ) (pdus : List Pdu) (count : ℕ) (state : State) (now : List ℕ) : Type 0 where
  pub accepted : all_steps old (take count pdus) ≡ Ok state
  pub wrote : now ≡ before ++ sent (take count pdus)

pub none_sent : (state : State) (out : List ℕ) (pdus : List Pdu) → Sending state out pdus 0 state out
none_sent state out pdus = record { accepted = all_steps-none state; wrote = sym (append-nil out) ∙ ap (λ z. out ++ z) (sym sent-none) }

cut_there : (pdus : List Pdu) (i : ℕ) (pdu : Pdu) → i < length pdus → pdu ≡ get_or pdus i pdu → pdus ≡ take i pdus ++ (pdu ∷ drop (i + 1) pdus)
cut_there pdus i pdu below is =
    sym (take-append-drop i pdus) ∙ ap (λ z. take i pdus ++ z) (drop_more pdus i pdu below) ∙ ap (λ z. take i pdus ++ (z ∷ drop (i + 1) pdus)) (sym is)

more_there : (pdus : List Pdu) (i : ℕ) (pdu : Pdu) → i < length pdus → pdu ≡ get_or pdus i pdu → take (i + 1) pdus ≡ take i pdus ++ (pdu ∷ [])
more_there pdus i pdu below is = take_more pdus i pdu below ∙ ap (λ z. take i pdus ++ (z ∷ [])) (sym is)

-- the next of them may be sent
pub may_send_next : (old : State) (before : List ℕ) (pdus : List Pdu) (i : ℕ) (state : State) (now : List ℕ) (pdu : Pdu) → MaySend old pdus → Sending old before pdus i state now
    → i < length pdus → pdu ≡ get_or pdus i pdu → IsCarried pdu × IsOk (step state pdu)
may_send_next old before pdus i state now pdu may sending below is =
    may_first state pdu (drop (i + 1) pdus) (may_behind old state (take i pdus) _ (subst (MaySend old) (cut_there pdus i pdu below is) may) sending.accepted)

pub sent_next : (old : State) (before : List ℕ) (pdus : List Pdu) (i : ℕ) (state new : State) (mid now : List ℕ) (pdu : Pdu) → Sending old before pdus i state mid → i < length pdus → pdu ≡ get_or pdus i pdu
    → SendsMessages {X = Unit {0}} (Ok tt) state new mid now (pdu ∷ []) → Sending old before pdus (i + 1) new now
sent_next old before pdus i state new mid now pdu sending below is done =
    let both = sent_both (Ok tt) old state new before mid now (take i pdus) (pdu ∷ []) (sending.accepted, sending.wrote) done in
    let more = more_there pdus i pdu below is in
    record { accepted = ap (all_steps old) more ∙ both.0; wrote = both.1 ∙ ap (λ z. before ++ sent z) (sym more) }

pub not_sent : (e : NoMemory) (old : State) (before : List ℕ) (pdus : List Pdu) (i : ℕ) (state new : State) (mid now : List ℕ) (pdu : Pdu) → Sending old before pdus i state mid → i < length pdus → pdu ≡ get_or pdus i pdu
    → PutsFront mid now (sent (pdu ∷ [])) → PutsFront before now (sent pdus)
not_sent e old before pdus i state new mid now pdu sending below is part =
    let both : PutsFront before now (sent (take i pdus ++ (pdu ∷ []))) = sent_both (Err e) old state new before mid now (take i pdus) (pdu ∷ []) (sending.accepted, sending.wrote) part in
    let whole : pdus ≡ (take i pdus ++ (pdu ∷ [])) ++ drop (i + 1) pdus = cut_there pdus i pdu below is ∙ sym (append_assoc (take i pdus) (pdu ∷ []) (drop (i + 1) pdus)) in
    subst (λ z. PutsFront before now (sent z)) (sym whole) (front_more before now (take i pdus ++ (pdu ∷ [])) (drop (i + 1) pdus) both)

pub all_sent : (old : State) (before : List ℕ) (pdus : List Pdu) (i : ℕ) (state : State) (now : List ℕ) → Sending old before pdus i state now → length pdus ≤ i
    → (all_steps old pdus ≡ Ok state) × (now ≡ before ++ sent pdus)
all_sent old before pdus i state now sending past =
    let whole = take_all i pdus past in
    (ap (all_steps old) (sym whole) ∙ sending.accepted, sending.wrote ∙ ap (λ z. before ++ sent z) whole)

-- a paint by ClearCodec ---------------------------------------------------------------------------------

put_sends : (result : Result (Unit {0}) NoMemory) (old new : State) (before now : List ℕ) (pdu : Pdu) → step old pdu ≡ Ok new → OnOk result (now ≡ before ++ wrapped (spelling pdu)) → OnErr result (now ≡ before)
    → SendsMessages result old new before now (pdu ∷ [])
put_sends (Ok done) old new before now pdu stepped wrote kept = sent_and_accepted old new before now (spelling pdu) pdu stepped refl wrote
put_sends (Err e) old new before now pdu stepped wrote kept = subst (λ z. PutsFront before z (sent (pdu ∷ []))) (sym kept) (sent_nothing before (sent (pdu ∷ [])))

-- the message that was put out is the one that is due, and the state is its step
pub clear_sends : (result : Result (Unit {0}) NoMemory) (old new : State) (id : ℕ) (surface : Picture) (rect : Rect) (pixels : List Rgb) (layer : Layer) (glyph : Option ℕ) (codec byte : ℕ) (payload before now : List ℕ) (o : Option Picture)
    → o ≡ Some surface → codec ≡ CLEAR_CODEC → byte ≡ byte_of surface.format → payload ≡ (stream_sent old.clear layer glyph (width_of rect) (height_of rect) pixels).bytes
    → ((b : ℕ) → IsSome (format_of b) → step old (WireToSurface1 id CLEAR_CODEC b rect payload) ≡ Ok new)
    → OnOk result (now ≡ before ++ wrapped (spelling (WireToSurface1 id codec byte rect payload))) → OnErr result (now ≡ before)
    → IfSome o (λ surface. SendsMessages result old new before now (clear_message old id surface.format rect pixels layer glyph ∷ []))
clear_sends result old new id surface rect pixels layer glyph codec byte payload before now o there by_codec by_format is steps wrote kept =
    let same : WireToSurface1 id codec byte rect payload ≡ clear_message old id surface.format rect pixels layer glyph = λ i. WireToSurface1 id (by_codec i) (by_format i) rect (is i) in
    let stepped : step old (clear_message old id surface.format rect pixels layer glyph) ≡ Ok new =
    ap (λ z. step old (WireToSurface1 id CLEAR_CODEC (byte_of surface.format) rect z)) (sym is) ∙ steps (byte_of surface.format) (ap is_some (format_back surface.format)) in
    subst (λ o. IfSome o (λ surface. SendsMessages result old new before now (clear_message old id surface.format rect pixels layer glyph ∷ []))) (sym there)
    (put_sends result old new before now _ stepped (subst (λ z. OnOk result (now ≡ before ++ wrapped (spelling z))) same wrote) kept)
