-- What bytes begin with: a whole message or a bad length stays under more bytes, and what is cut off
-- inside a message is short.
use Rattle.std.proofs.Common.{◌≡◌, ℕ, ◌+◌, ◌≤◌, ◌<◌, false, ◌||◌, eqb, ltb, List, [], ◌++◌, length, take, drop, Some, None, ◌⊎◌, inl, inr, refl, sym, ap, ◌∙◌, arith, length-append, length-drop}
use Rattle.std.specs.Int.{w32}
use Rattle.std.proofs.lemmas.List.{take-append-le, drop-append-le, length-take-le}
use Rattle.std.proofs.lemmas.Bool.{cases_lt, lt-ltb, le-ltb, le-leb, lt-leb, eq-eqb, ne_eqb, or_left, or_right, or_from, cond-true, cond-false}
use Rattle.gfx_base.specs.Field.{number_at, field}
use Rattle.gfx_base.proofs.FieldLemmas.{number_at-append}
use Rattle.gfx_base.specs.declared.TheConstants.{MOST_MESSAGE}
use Rattle.gfx_segment.specs.Framing.{Front, Whole, Short, Bad, front_of, front}

-- a length that a message may have
pub record IsLength (limit size : ℕ) : Type 0 where
  pub some : 0 < size
  pub most : size ≤ limit

pub data Case (limit size len : ℕ) : Type 0 where
  no_length : (size ≡ 0) ⊎ (limit < size) → Case limit size len
  too_few : IsLength limit size → len < size → Case limit size len
  enough : IsLength limit size → size ≤ len → Case limit size len

case_of : (limit size len : ℕ) → Case limit size len
case_of limit size len =
    elim (cases_lt 0 size) [
      | inr none ↦ no_length (inl (omega arith))
      | inl some ↦ elim (cases_lt limit size) [
        | inl above ↦ no_length (inr above)
        | inr most ↦ elim (cases_lt len size) [
          | inl past ↦ too_few (record { some = some; most = most }) past
          | inr within ↦ enough (record { some = some; most = most }) within
        ]
      ]
    ]

-- what each case gives -----------------------------------------------------------------------------

pub bad_at : (limit size : ℕ) (bytes : List ℕ) → (size ≡ 0) ⊎ (limit < size) → front_of limit (Some size) bytes ≡ Bad
unfolding front_of
bad_at limit size bytes (inl e) = cond-true _ _ _ (or_left _ _ (eq-eqb size 0 e))
bad_at limit size bytes (inr h) = cond-true _ _ _ (or_right _ _ (lt-ltb limit size h))

fair : (limit size : ℕ) → IsLength limit size → (eqb size 0 || ltb limit size) ≡ false
fair limit size h = or_from _ _ (ne_eqb size 0 (λ e. let some : 0 < size = h.some in omega arith)) (le-ltb limit size h.most)

pub whole_at : (limit size : ℕ) (bytes : List ℕ) → IsLength limit size → size ≤ length bytes → front_of limit (Some size) bytes ≡ Whole (take size bytes) (drop size bytes)
unfolding front_of
whole_at limit size bytes h within = cond-false _ _ _ (fair limit size h) ∙ cond-true _ _ _ (le-leb size (length bytes) within)

short_at : (limit size : ℕ) (bytes : List ℕ) → IsLength limit size → length bytes < size → front_of limit (Some size) bytes ≡ Short
unfolding front_of
short_at limit size bytes h past = cond-false _ _ _ (fair limit size h) ∙ cond-false _ _ _ (lt-leb size (length bytes) past)

-- from what is given back to its case ----------------------------------------------------------------

-- a whole message lies between its length and the bytes after it
pub record OfWhole (limit size : ℕ) (bytes m a : List ℕ) : Type 0 where
  pub fits : IsLength limit size
  pub within : size ≤ length bytes
  pub message : take size bytes ≡ m
  pub after : drop size bytes ≡ a

of_whole : (limit size : ℕ) (bytes m a : List ℕ) → front_of limit (Some size) bytes ≡ Whole m a → OfWhole limit size bytes m a
of_whole limit size bytes m a e =
    elim (case_of limit size (length bytes)) [
      | no_length h ↦ let b = bad_at limit size bytes h in absurd cc
      | too_few h past ↦ let b = short_at limit size bytes h past in absurd cc
      | enough h within ↦
          let b = whole_at limit size bytes h within in
          let first : take size bytes ≡ m = cc in
          let rest : drop size bytes ≡ a = cc in
          record { fits = h; within = within; message = first; after = rest }
    ]

of_bad : (limit size : ℕ) (bytes : List ℕ) → front_of limit (Some size) bytes ≡ Bad → (size ≡ 0) ⊎ (limit < size)
of_bad limit size bytes e =
    elim (case_of limit size (length bytes)) [
      | no_length h ↦ h
      | too_few h past ↦ let b = short_at limit size bytes h past in absurd cc
      | enough h within ↦ let b = whole_at limit size bytes h within in absurd cc
    ]

-- the length at the front ----------------------------------------------------------------------------

-- four bytes are there, and spell this
pub record Begins (size : ℕ) (bytes : List ℕ) : Type 0 where
  pub long : 4 ≤ length bytes
  pub spells : number_at w32 bytes 0 ≡ size

field_none : (bytes : List ℕ) → length bytes < 4 → field w32 bytes 0 ≡ None
unfolding field
field_none bytes few = cond-false _ _ _ (lt-leb 4 (length bytes) few)

field_some : (bytes : List ℕ) (size : ℕ) → Begins size bytes → field w32 bytes 0 ≡ Some size
unfolding field
field_some bytes size h = cond-true _ _ _ (le-leb 4 (length bytes) h.long) ∙ ap (λ n. Some n) h.spells

begins : (bytes : List ℕ) → 4 ≤ length bytes → Begins (number_at w32 bytes 0) bytes
begins bytes long = record { long = long; spells = refl }

Begins-append : (size : ℕ) (bytes more : List ℕ) → Begins size bytes → Begins size (bytes ++ more)
Begins-append size bytes more h = record {
  long = let long : 4 ≤ length bytes = h.long in omega (arith, length-append bytes more);
  spells = number_at-append w32 bytes more 0 h.long ∙ h.spells;
}

-- by the length, where it is there
front_few : (bytes : List ℕ) → length bytes < 4 → front bytes ≡ Short
unfolding front front_of
front_few bytes few = rw (field_none bytes few) refl

pub front_at : (size : ℕ) (bytes : List ℕ) → Begins size bytes → front bytes ≡ front_of MOST_MESSAGE (Some size) (drop 4 bytes)
unfolding front
front_at size bytes h = ap (λ z. front_of MOST_MESSAGE z (drop 4 bytes)) (field_some bytes size h)

drop_front : (bytes more : List ℕ) → 4 ≤ length bytes → drop 4 (bytes ++ more) ≡ drop 4 bytes ++ more
drop_front bytes more long = drop-append-le 4 bytes more long

-- the public laws --------------------------------------------------------------------------------------

pub front-nil : front [] ≡ Short
front-nil = front_few [] (omega arith)

-- a whole message at the front
pub record IsFront (bytes m a : List ℕ) : Type 0 where
  pub size : ℕ
  pub begins : Begins size bytes
  pub cut : OfWhole MOST_MESSAGE size (drop 4 bytes) m a

pub front_whole : (bytes m a : List ℕ) → front bytes ≡ Whole m a → IsFront bytes m a
front_whole bytes m a e =
    elim (cases_lt (length bytes) 4) [
      | inl few ↦ let s = front_few bytes few in absurd cc
      | inr long ↦
          let b = begins bytes long in
          let f = front_at (number_at w32 bytes 0) bytes b in
          record { size = number_at w32 bytes 0; begins = b; cut = of_whole MOST_MESSAGE _ (drop 4 bytes) m a (sym f ∙ e) }
    ]

-- a whole message stays one under more bytes
pub front-append_whole : (bytes more m a : List ℕ) → front bytes ≡ Whole m a → front (bytes ++ more) ≡ Whole m (a ++ more)
front-append_whole bytes more m a e =
    let f = front_whole bytes m a e in
    let same = drop_front bytes more f.begins.long in
    let within : f.size ≤ length (drop 4 bytes ++ more) = let w = f.cut.within in omega (arith, length-append (drop 4 bytes) more) in
    front_at f.size (bytes ++ more) (Begins-append f.size bytes more f.begins)
    ∙ ap (λ z. front_of MOST_MESSAGE (Some f.size) z) same
    ∙ whole_at MOST_MESSAGE f.size (drop 4 bytes ++ more) f.cut.fits within
    ∙ ap (λ z. Whole z (drop f.size (drop 4 bytes ++ more))) (take-append-le f.size (drop 4 bytes) more f.cut.within ∙ f.cut.message)
    ∙ ap (λ z. Whole m z) (drop-append-le f.size (drop 4 bytes) more f.cut.within ∙ ap (λ z. z ++ more) f.cut.after)

-- so does a bad length
pub front-append_bad : (bytes more : List ℕ) → front bytes ≡ Bad → front (bytes ++ more) ≡ Bad
front-append_bad bytes more e =
    elim (cases_lt (length bytes) 4) [
      | inl few ↦ let s = front_few bytes few in absurd cc
      | inr long ↦
          let b = begins bytes long in
          let f = front_at (number_at w32 bytes 0) bytes b in
          let h = of_bad MOST_MESSAGE _ (drop 4 bytes) (sym f ∙ e) in
          front_at _ (bytes ++ more) (Begins-append _ bytes more b) ∙ bad_at MOST_MESSAGE _ (drop 4 (bytes ++ more)) h
    ]

-- the bytes after a message are fewer
pub length-after : (bytes m a : List ℕ) → front bytes ≡ Whole m a → length a < length bytes
length-after bytes m a e =
    let f = front_whole bytes m a e in
    let long : 4 ≤ length bytes = f.begins.long in
    let same : length (drop f.size (drop 4 bytes)) ≡ length a = ap length f.cut.after in
    omega (arith, length-drop f.size (drop 4 bytes), length-drop 4 bytes)

-- no bytes but those of the message, its length and the bytes after it
pub length-front : (bytes m a : List ℕ) → front bytes ≡ Whole m a → length bytes ≡ 4 + length m + length a
length-front bytes m a e =
    let f = front_whole bytes m a e in
    let long : 4 ≤ length bytes = f.begins.long in
    let first : length (take f.size (drop 4 bytes)) ≡ length m = ap length f.cut.message in
    let rest : length (drop f.size (drop 4 bytes)) ≡ length a = ap length f.cut.after in
    let within : f.size ≤ length (drop 4 bytes) = f.cut.within in
    omega (arith, length-take-le f.size (drop 4 bytes) within, length-drop f.size (drop 4 bytes), length-drop 4 bytes)

-- a strict beginning of a whole message with nothing after it is short
pub front_beginning : (bytes cut m : List ℕ) → front (bytes ++ cut) ≡ Whole m [] → 0 < length cut → front bytes ≡ Short
front_beginning bytes cut m e some =
    let found : front bytes ≡ front bytes = refl in
    beginning bytes cut m e some (front bytes) found
  where
    beginning : (bytes cut m : List ℕ) → front (bytes ++ cut) ≡ Whole m [] → 0 < length cut → (f : Front) → front bytes ≡ f → front bytes ≡ Short
    beginning bytes cut m e some Short same = same
    beginning bytes cut m e some Bad same = let b = front-append_bad bytes cut same in absurd cc
    beginning bytes cut m e some (Whole m' a) same =
        let w = front-append_whole bytes cut m' a same in
        let left : a ++ cut ≡ [] = cc in
        let none : length (a ++ cut) ≡ 0 = ap length left in
        absurd (omega (arith, length-append a cut))
