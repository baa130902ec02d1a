-- What bytes begin with stays there under more bytes, in a stream and in a recording of fragments.
use Rattle.std.proofs.Common.{◌≡◌, ℕ, ◌≤◌, ◌<◌, false, ◌||◌, eqb, ltb, List, [], ◌++◌, length, take, drop, Some, None, ◌⊎◌, inl, inr, refl, sym, ap, ◌∙◌, arith, length-append, length-drop}
use Rattle.std.specs.Int.{w16}
use Rattle.std.proofs.lemmas.List.{take-append-le, drop-append-le}
use Rattle.std.proofs.lemmas.Bool.{cases_lt, lt-ltb, le-ltb, le-leb, lt-leb, eq-eqb, ne_eqb, or_left, or_right, or_from, cond-true, cond-false}
use Rattle.gfx_base.specs.Field.{number_at, field}
use Rattle.gfx_base.proofs.FieldLemmas.{number_at-append}
use Rattle.gfx_dvc.specs.declared.profile.TheConstants.{MOST_FRAGMENT}
use Rattle.gfx_dvc.specs.Recording as recording
use Rattle.gfx_segment.specs.Framing as framing
use Rattle.gfx_segment.proofs.FrontLemmas.{front-nil, front-append_whole, front-append_bad, length-after}
use Rattle.gfx_fragments.specs.Cut.{One, Few, Wrong, of_framing, of_recording, next_message, next_fragment}
use Rattle.gfx_fragments.proofs.CutLemmas.{IsLawful}

-- a stream --------------------------------------------------------------------------------------------

framing-one : (found : framing.Front) (item after : List ℕ) → of_framing found ≡ One item after → found ≡ framing.Whole item after
framing-one (framing.Whole m a) item after e = let first : m ≡ item = cc in let rest : a ≡ after = cc in ap (λ z. framing.Whole z a) first ∙ ap (framing.Whole item) rest
framing-one framing.Short item after e = absurd cc
framing-one framing.Bad item after e = absurd cc

framing-wrong : (found : framing.Front) → of_framing found ≡ Wrong → found ≡ framing.Bad
framing-wrong (framing.Whole m a) e = absurd cc
framing-wrong framing.Short e = absurd cc
framing-wrong framing.Bad e = refl

framing-few : (found : framing.Front) → of_framing found ≡ Few → found ≡ framing.Short
framing-few (framing.Whole m a) e = absurd cc
framing-few framing.Short e = refl
framing-few framing.Bad e = absurd cc

pub message-is : (bytes : List ℕ) (found : framing.Front) → framing.front bytes ≡ found → next_message bytes ≡ of_framing found
unfolding next_message
message-is bytes found e = ap of_framing e

pub message-whole : (bytes item after : List ℕ) → next_message bytes ≡ One item after → framing.front bytes ≡ framing.Whole item after
unfolding next_message
message-whole bytes item after e = framing-one (framing.front bytes) item after e

pub message-bad : (bytes : List ℕ) → next_message bytes ≡ Wrong → framing.front bytes ≡ framing.Bad
unfolding next_message
message-bad bytes e = framing-wrong (framing.front bytes) e

pub message-short : (bytes : List ℕ) → next_message bytes ≡ Few → framing.front bytes ≡ framing.Short
unfolding next_message
message-short bytes e = framing-few (framing.front bytes) e

pub messages_lawful : IsLawful next_message
messages_lawful = record {
  none = message-is [] framing.Short front-nil;
  fewer = λ bytes item after e. length-after bytes item after (message-whole bytes item after e);
  whole = λ bytes more item after e. message-is (bytes ++ more) (framing.Whole item (after ++ more)) (front-append_whole bytes more item after (message-whole bytes item after e));
  wrong = λ bytes more e. message-is (bytes ++ more) framing.Bad (front-append_bad bytes more (message-bad bytes e));
}

-- a recording of fragments ------------------------------------------------------------------------------

-- a length that a fragment may have
record IsLength (limit size : ℕ) : Type 0 where
  some : 0 < size
  most : size ≤ limit

data Case (limit size len : ℕ) : Type 0 where
  no_length : (size ≡ 0) ⊎ (limit < size) → Case limit size len
  too_few : IsLength limit size → len < size → Case limit size len
  enough : IsLength limit size → size ≤ len → Case limit size len

case_of : (limit size len : ℕ) → Case limit size len
case_of limit size len =
    elim (cases_lt 0 size) [
      | inr none ↦ no_length (inl (omega arith))
      | inl some ↦ elim (cases_lt limit size) [
        | inl above ↦ no_length (inr above)
        | inr most ↦ elim (cases_lt len size) [
          | inl past ↦ too_few (record { some = some; most = most }) past
          | inr within ↦ enough (record { some = some; most = most }) within
        ]
      ]
    ]

bad_at : (limit size : ℕ) (bytes : List ℕ) → (size ≡ 0) ⊎ (limit < size) → recording.front_of limit (Some size) bytes ≡ recording.Bad
unfolding recording.front_of
bad_at limit size bytes (inl e) = cond-true _ _ _ (or_left _ _ (eq-eqb size 0 e))
bad_at limit size bytes (inr h) = cond-true _ _ _ (or_right _ _ (lt-ltb limit size h))

fair : (limit size : ℕ) → IsLength limit size → (eqb size 0 || ltb limit size) ≡ false
fair limit size h = or_from _ _ (ne_eqb size 0 (λ e. let some : 0 < size = h.some in omega arith)) (le-ltb limit size h.most)

whole_at : (limit size : ℕ) (bytes : List ℕ) → IsLength limit size → size ≤ length bytes → recording.front_of limit (Some size) bytes ≡ recording.Whole (take size bytes) (drop size bytes)
unfolding recording.front_of
whole_at limit size bytes h within = cond-false _ _ _ (fair limit size h) ∙ cond-true _ _ _ (le-leb size (length bytes) within)

short_at : (limit size : ℕ) (bytes : List ℕ) → IsLength limit size → length bytes < size → recording.front_of limit (Some size) bytes ≡ recording.Short
unfolding recording.front_of
short_at limit size bytes h past = cond-false _ _ _ (fair limit size h) ∙ cond-false _ _ _ (lt-leb size (length bytes) past)

-- what is whole, or bad, by its length is so with more bytes
record OfWhole (limit size : ℕ) (bytes m a : List ℕ) : Type 0 where
  fits : IsLength limit size
  within : size ≤ length bytes
  item : take size bytes ≡ m
  after : drop size bytes ≡ a

of_whole : (limit size : ℕ) (bytes m a : List ℕ) → recording.front_of limit (Some size) bytes ≡ recording.Whole m a → OfWhole limit size bytes m a
of_whole limit size bytes m a e =
    elim (case_of limit size (length bytes)) [
      | no_length h ↦ let b = bad_at limit size bytes h in absurd cc
      | too_few h past ↦ let b = short_at limit size bytes h past in absurd cc
      | enough h within ↦
          let b = whole_at limit size bytes h within in
          let first : take size bytes ≡ m = cc in
          let rest : drop size bytes ≡ a = cc in
          record { fits = h; within = within; item = first; after = rest }
    ]

of_bad : (limit size : ℕ) (bytes : List ℕ) → recording.front_of limit (Some size) bytes ≡ recording.Bad → (size ≡ 0) ⊎ (limit < size)
of_bad limit size bytes e =
    elim (case_of limit size (length bytes)) [
      | no_length h ↦ h
      | too_few h past ↦ let b = short_at limit size bytes h past in absurd cc
      | enough h within ↦ let b = whole_at limit size bytes h within in absurd cc
    ]

-- ---- the length at the front

field_none : (bytes : List ℕ) → length bytes < 2 → field w16 bytes 0 ≡ None
unfolding field
field_none bytes few = cond-false _ _ _ (lt-leb 2 (length bytes) few)

field_some : (bytes : List ℕ) → 2 ≤ length bytes → field w16 bytes 0 ≡ Some (number_at w16 bytes 0)
unfolding field
field_some bytes long = cond-true _ _ _ (le-leb 2 (length bytes) long)

front_few : (bytes : List ℕ) → length bytes < 2 → recording.front bytes ≡ recording.Short
unfolding recording.front recording.front_of
front_few bytes few = rw (field_none bytes few) refl

front_at : (size : ℕ) (bytes : List ℕ) → 2 ≤ length bytes → number_at w16 bytes 0 ≡ size → recording.front bytes ≡ recording.front_of MOST_FRAGMENT (Some size) (drop 2 bytes)
unfolding recording.front
front_at size bytes long is = ap (λ z. recording.front_of MOST_FRAGMENT z (drop 2 bytes)) (field_some bytes long ∙ ap (λ n. Some n) is)

number-more : (bytes more : List ℕ) → 2 ≤ length bytes → number_at w16 (bytes ++ more) 0 ≡ number_at w16 bytes 0
number-more bytes more long = number_at-append w16 bytes more 0 long

-- with more bytes
front_more : (bytes more : List ℕ) → 2 ≤ length bytes → recording.front (bytes ++ more) ≡ recording.front_of MOST_FRAGMENT (Some (number_at w16 bytes 0)) (drop 2 bytes ++ more)
front_more bytes more long =
    front_at (number_at w16 bytes 0) (bytes ++ more) (omega (arith, length-append bytes more)) (number-more bytes more long)
    ∙ ap (recording.front_of MOST_FRAGMENT (Some (number_at w16 bytes 0))) (drop-append-le 2 bytes more long)

-- ---- the laws

fragment-one : (found : recording.Front) (item after : List ℕ) → of_recording found ≡ One item after → found ≡ recording.Whole item after
fragment-one (recording.Whole m a) item after e = let first : m ≡ item = cc in let rest : a ≡ after = cc in ap (λ z. recording.Whole z a) first ∙ ap (recording.Whole item) rest
fragment-one recording.Short item after e = absurd cc
fragment-one recording.Bad item after e = absurd cc

fragment-wrong : (found : recording.Front) → of_recording found ≡ Wrong → found ≡ recording.Bad
fragment-wrong (recording.Whole m a) e = absurd cc
fragment-wrong recording.Short e = absurd cc
fragment-wrong recording.Bad e = refl

pub fragment-is : (bytes : List ℕ) (found : recording.Front) → recording.front bytes ≡ found → next_fragment bytes ≡ of_recording found
unfolding next_fragment
fragment-is bytes found e = ap of_recording e

pub fragment-whole : (bytes item after : List ℕ) → next_fragment bytes ≡ One item after → recording.front bytes ≡ recording.Whole item after
unfolding next_fragment
fragment-whole bytes item after e = fragment-one (recording.front bytes) item after e

fragment-bad : (bytes : List ℕ) → next_fragment bytes ≡ Wrong → recording.front bytes ≡ recording.Bad
unfolding next_fragment
fragment-bad bytes e = fragment-wrong (recording.front bytes) e

whole-more : (bytes more m a : List ℕ) → recording.front bytes ≡ recording.Whole m a → recording.front (bytes ++ more) ≡ recording.Whole m (a ++ more)
whole-more bytes more m a e =
    elim (cases_lt (length bytes) 2) [
      | inl few ↦ let s = front_few bytes few in absurd cc
      | inr long ↦
          let size = number_at w16 bytes 0 in
          let f = of_whole MOST_FRAGMENT size (drop 2 bytes) m a (sym (front_at size bytes long refl) ∙ e) in
          let within : size ≤ length (drop 2 bytes ++ more) = let w = f.within in omega (arith, length-append (drop 2 bytes) more) in
          front_more bytes more long
          ∙ whole_at MOST_FRAGMENT size (drop 2 bytes ++ more) f.fits within
          ∙ ap (λ z. recording.Whole z (drop size (drop 2 bytes ++ more))) (take-append-le size (drop 2 bytes) more f.within ∙ f.item)
          ∙ ap (recording.Whole m) (drop-append-le size (drop 2 bytes) more f.within ∙ ap (λ z. z ++ more) f.after)
    ]

bad-more : (bytes more : List ℕ) → recording.front bytes ≡ recording.Bad → recording.front (bytes ++ more) ≡ recording.Bad
bad-more bytes more e =
    elim (cases_lt (length bytes) 2) [
      | inl few ↦ let s = front_few bytes few in absurd cc
      | inr long ↦
          let size = number_at w16 bytes 0 in
          let h = of_bad MOST_FRAGMENT size (drop 2 bytes) (sym (front_at size bytes long refl) ∙ e) in
          front_more bytes more long ∙ bad_at MOST_FRAGMENT size (drop 2 bytes ++ more) h
    ]

fewer-after : (bytes m a : List ℕ) → recording.front bytes ≡ recording.Whole m a → length a < length bytes
fewer-after bytes m a e =
    elim (cases_lt (length bytes) 2) [
      | inl few ↦ let s = front_few bytes few in absurd cc
      | inr long ↦
          let size = number_at w16 bytes 0 in
          let f = of_whole MOST_FRAGMENT size (drop 2 bytes) m a (sym (front_at size bytes long refl) ∙ e) in
          let same : length (drop size (drop 2 bytes)) ≡ length a = ap length f.after in
          omega (arith, length-drop size (drop 2 bytes), length-drop 2 bytes)
    ]

pub fragments_lawful : IsLawful next_fragment
fragments_lawful = record {
  none = fragment-is [] recording.Short (front_few [] (omega arith));
  fewer = λ bytes item after e. fewer-after bytes item after (fragment-whole bytes item after e);
  whole = λ bytes more item after e. fragment-is (bytes ++ more) (recording.Whole item (after ++ more)) (whole-more bytes more item after (fragment-whole bytes item after e));
  wrong = λ bytes more e. fragment-is (bytes ++ more) recording.Bad (bad-more bytes more (fragment-bad bytes e));
}
