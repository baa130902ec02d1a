-- A recorded fragment is whole, whatever follows.
use Rattle.std.proofs.Common.{◌≡◌, ℕ, ◌+◌, ◌≤◌, ◌<◌, false, ◌||◌, eqb, ltb, List, [], ◌++◌, length, drop, Some, None, refl, sym, ap, ◌∙◌, inl, inr, append_assoc, arith, length-append, length-drop}
use Rattle.std.specs.Int.{w16, to_le_bytes}
use Rattle.std.proofs.lemmas.Bool.{cases_lt, le-ltb, le-leb, lt-leb, ne_eqb, or_from, cond-true, cond-false}
use Rattle.std.proofs.lemmas.List.{append-nil, take_at, drop_at}
use Rattle.gfx_base.specs.Field.{number_at, field}
use Rattle.gfx_base.proofs.FieldLemmas.{number_at-written_2, number_at-append}
use Rattle.gfx_dvc.specs.declared.profile.TheConstants.{MOST_FRAGMENT}
use Rattle.gfx_dvc.specs.Cutting.{recorded_fragment, IsRecordable}
use Rattle.gfx_dvc.specs.Recording.{Whole, Short, front_of, front, RecordedIsWhole, CutIsShort}

field_there : (bytes : List ℕ) → 2 ≤ length bytes → field w16 bytes 0 ≡ Some (number_at w16 bytes 0)
unfolding field
field_there bytes long = cond-true _ _ _ (le-leb 2 (length bytes) long)

field_missing : (bytes : List ℕ) → length bytes < 2 → field w16 bytes 0 ≡ None
unfolding field
field_missing bytes few = cond-false _ _ _ (lt-leb 2 (length bytes) few)

-- a length that is none of the bad ones
fair : (fragment : List ℕ) → IsRecordable fragment → (eqb (length fragment) 0 || ltb MOST_FRAGMENT (length fragment)) ≡ false
fair fragment h = or_from _ _ (ne_eqb (length fragment) 0 (λ e. omega (arith, h.0))) (le-ltb MOST_FRAGMENT (length fragment) h.1)

front_at : (fragment bytes : List ℕ) → IsRecordable fragment → 2 ≤ length bytes → number_at w16 bytes 0 ≡ length fragment → front bytes ≡ front_of MOST_FRAGMENT (Some (length fragment)) (drop 2 bytes)
unfolding front
front_at fragment bytes h long is = ap (λ z. front_of MOST_FRAGMENT z (drop 2 bytes)) (field_there bytes long ∙ ap (λ n. Some n) is)

whole_at : (fragment more : List ℕ) → IsRecordable fragment → front_of MOST_FRAGMENT (Some (length fragment)) (fragment ++ more) ≡ Whole fragment more
unfolding front_of
whole_at fragment more h =
    cond-false _ _ _ (fair fragment h)
    ∙ cond-true _ _ _ (le-leb (length fragment) (length (fragment ++ more)) (omega (arith, length-append fragment more)))
    ∙ ap (λ z. Whole z (drop (length fragment) (fragment ++ more))) (take_at fragment more (length fragment) refl)
    ∙ ap (Whole fragment) (drop_at fragment more (length fragment) refl)

short_at : (fragment bytes : List ℕ) → IsRecordable fragment → length bytes < length fragment → front_of MOST_FRAGMENT (Some (length fragment)) bytes ≡ Short
unfolding front_of
short_at fragment bytes h few = cond-false _ _ _ (fair fragment h) ∙ cond-false _ _ _ (lt-leb (length fragment) (length bytes) few)

spelled-length : (fragment more : List ℕ) → IsRecordable fragment → number_at w16 (recorded_fragment fragment ++ more) 0 ≡ length fragment
unfolding recorded_fragment
spelled-length fragment more h =
    ap (λ z. number_at w16 z 0) (append_assoc (to_le_bytes w16 (length fragment)) fragment more)
    ∙ number_at-written_2 [] (fragment ++ more) (length fragment) (omega (arith, h.1))

length-recorded : (fragment : List ℕ) → length (recorded_fragment fragment) ≡ 2 + length fragment
unfolding recorded_fragment
length-recorded fragment = length-append (to_le_bytes w16 (length fragment)) fragment

behind-length : (fragment more : List ℕ) → drop 2 (recorded_fragment fragment ++ more) ≡ fragment ++ more
unfolding recorded_fragment
behind-length fragment more = refl

pub recorded_is_whole : RecordedIsWhole
recorded_is_whole fragment more h =
    front_at fragment (recorded_fragment fragment ++ more) h (omega (arith, length-append (recorded_fragment fragment) more, length-recorded fragment)) (spelled-length fragment more h)
    ∙ ap (front_of MOST_FRAGMENT (Some (length fragment))) (behind-length fragment more)
    ∙ whole_at fragment more h

few_there : (bytes : List ℕ) → length bytes < 2 → front bytes ≡ Short
unfolding front front_of
few_there bytes few = ap (λ z. front_of MOST_FRAGMENT z (drop 2 bytes)) (field_missing bytes few)

pub cut_is_short : CutIsShort
cut_is_short fragment start rest h cut left =
    elim (cases_lt (length start) 2) [
      | inl few ↦ few_there start few
      | inr long ↦
          let is : number_at w16 start 0 ≡ length fragment =
          sym (number_at-append w16 start rest 0 long) ∙ ap (λ z. number_at w16 z 0) (sym cut ∙ sym (append-nil (recorded_fragment fragment))) ∙ spelled-length fragment [] h in
          front_at fragment start h long is
          ∙ short_at fragment (drop 2 start) h (omega (arith, ap length cut, length-append start rest, length-recorded fragment, length-drop 2 start))
    ]
