-- Texts that are put piece by piece.
use Rattle.std.proofs.Common.{◌≡◌, ◌∙◌, ap, sym, refl, subst, ℕ, ◌+◌, ◌*◌, List, [], ◌∷◌, ◌++◌, length, take, drop, Some, None, Result, Ok, Err, zero, suc, append_assoc, add-one, arith}
use Rattle.std.specs.Prelude.{slice_get, OnOk, OnErr}
use Rattle.std.specs.List.{flat_map}
use Rattle.std.proofs.lemmas.List.{append-nil, take-append-drop, take_at}
use Rattle.std.proofs.lemmas.Grind.{flat_map-append}
use Rattle.gfx_layout.specs.Shape.{Shape, width, text, number_alone, u16}
use Rattle.gfx_layout.specs.Layout.{done, list}
use Rattle.gfx_layout.specs.Header.{header, no_flags}
use Rattle.gfx_layout.specs.Writing.{Puts}
use Rattle.gfx_import.specs.Messages.{message_text, numbers_from, slots_of}
use Rattle.gfx_import.proofs.TakingLemmas.{front-at, front-past}

-- ---- one after another

module _ {X : Type 0} (f : X → List ℕ) (xs : List X) (place : ℕ) (old out : List ℕ) (so : out ≡ old ++ flat_map f (take place xs)) where
  pub put_more : (x : X) (new : List ℕ) → slice_get xs place ≡ Some x → new ≡ out ++ f x → new ≡ old ++ flat_map f (take (place + 1) xs)
  put_more x new e put =
      put ∙ ap (λ z. z ++ f x) so ∙ append_assoc old (flat_map f (take place xs)) (f x)
      ∙ ap (λ z. old ++ (flat_map f (take place xs) ++ z)) (sym (append-nil (f x)))
      ∙ ap (λ z. old ++ z) (sym (ap (flat_map f) (front-at xs place x e) ∙ flat_map-append f (take place xs) (x ∷ [])))

  pub put_all : slice_get xs place ≡ None → out ≡ old ++ flat_map f xs
  put_all e = so ∙ ap (λ z. old ++ flat_map f z) (front-past xs place e)

-- what was there stays
pub kept_through : (old more out new : List ℕ) → out ≡ old ++ more → take (length out) new ≡ out → take (length old) new ≡ old
kept_through old more out new e kept =
    let whole : new ≡ old ++ (more ++ drop (length out) new) =
    sym (take-append-drop (length out) new) ∙ ap (λ z. z ++ drop (length out) new) (kept ∙ e) ∙ append_assoc old more (drop (length out) new) in
    ap (take (length old)) whole ∙ take_at old (more ++ drop (length out) new) (length old) refl

-- ---- numbers in a row

numbers-push : (first count : ℕ) → numbers_from first (suc count) ≡ numbers_from first count ++ (first + count) ∷ []
numbers-push first zero = let same : first ≡ first + 0 = omega arith in ap (λ z. z ∷ []) same
numbers-push first (suc count) =
    let same : first + 1 + count ≡ first + suc count = omega arith in
    ap (λ z. first ∷ z) (numbers-push (first + 1) count ∙ ap (λ z. numbers_from (first + 1) count ++ z ∷ []) same)

-- one slot more
pub slots-push : (count : ℕ) → slots_of (count + 1) ≡ slots_of count ++ (count + 1) ∷ []
slots-push count =
    let same : 1 + count ≡ count + 1 = omega arith in
    ap slots_of (add-one count) ∙ numbers-push 1 count ∙ ap (λ z. slots_of count ++ z ∷ []) same

pub length-numbers : (first count : ℕ) → length (numbers_from first count) ≡ count
length-numbers first zero = refl
length-numbers first (suc count) = ap (λ n. suc n) (length-numbers (first + 1) count)

pub slot_put : (f : ℕ → List ℕ) (count : ℕ) (old out new : List ℕ) → out ≡ old ++ flat_map f (slots_of count) → new ≡ out ++ f (count + 1) → new ≡ old ++ flat_map f (slots_of (count + 1))
slot_put f count old out new so put =
    put ∙ ap (λ z. z ++ f (count + 1)) so ∙ append_assoc old (flat_map f (slots_of count)) (f (count + 1))
    ∙ ap (λ z. old ++ (flat_map f (slots_of count) ++ z)) (sym (append-nil (f (count + 1))))
    ∙ ap (λ z. old ++ z) (sym (ap (flat_map f) (slots-push count) ∙ flat_map-append f (slots_of count) ((count + 1) ∷ [])))

-- ---- texts of several parts

-- four parts, the last of which may fail
pub puts_four : {E : Type 0} (result : Result (Unit {0}) E) (old first second third a b c d new : List ℕ) → first ≡ old ++ a → second ≡ first ++ b → third ≡ second ++ c
    → OnOk result (new ≡ third ++ d) → OnErr result (new ≡ third) → Puts result old new (a ++ (b ++ (c ++ (d ++ []))))
puts_four (Ok x) old first second third a b c d new e f g put same =
    put ∙ ap (λ z. z ++ d) (three old first second third a b c e f g) ∙ append_assoc old (a ++ (b ++ c)) d
    ∙ ap (λ z. old ++ z) (append_assoc a (b ++ c) d ∙ ap (λ z. a ++ z) (append_assoc b c d ∙ ap (λ z. b ++ (c ++ z)) (sym (append-nil d))))
  where
    three : (old first second third a b c : List ℕ) → first ≡ old ++ a → second ≡ first ++ b → third ≡ second ++ c → third ≡ old ++ (a ++ (b ++ c))
    three old first second third a b c e f g =
        g ∙ ap (λ z. z ++ c) (f ∙ ap (λ z. z ++ b) e ∙ append_assoc old a b) ∙ append_assoc old (a ++ b) c ∙ ap (λ z. old ++ z) (append_assoc a b c)
puts_four (Err x) old first second third a b c d new e f g put same =
    ap (take (length old)) (same ∙ g ∙ ap (λ z. z ++ c) (f ∙ ap (λ z. z ++ b) e ∙ append_assoc old a b) ∙ append_assoc old (a ++ b) c)
    ∙ take_at old ((a ++ b) ++ c) (length old) refl

-- two parts, and behind them a text that may stop
pub puts_behind : {E : Type 0} (result : Result (Unit {0}) E) (old first second a b d new : List ℕ) → first ≡ old ++ a → second ≡ first ++ b → Puts result second new d → Puts result old new (a ++ (b ++ (d ++ [])))
puts_behind (Ok x) old first second a b d new e f put =
    put ∙ ap (λ z. z ++ d) (f ∙ ap (λ z. z ++ b) e ∙ append_assoc old a b) ∙ append_assoc old (a ++ b) d
    ∙ ap (λ z. old ++ z) (append_assoc a b d ∙ ap (λ z. a ++ (b ++ z)) (sym (append-nil d)))
puts_behind (Err x) old first second a b d new e f put =
    kept_through old (a ++ b) second new (f ∙ ap (λ z. z ++ b) e ∙ append_assoc old a b) put

-- a message: its header, the count of its items, and the items
pub puts_message : {T E : Type 0} (shape : Shape T) (number : ℕ) (items : List T) (result : Result (Unit {0}) E) (old headed counted new : List ℕ) (size : ℕ)
    → size ≡ 2 + length items * width shape → headed ≡ old ++ header number no_flags (8 + size) → counted ≡ headed ++ text (number_alone u16) (length items)
    → Puts result counted new (flat_map (text shape) items) → Puts result old new (message_text number (list u16 shape λ all. done all) (items, tt))
unfolding message_text
puts_message shape number items result old headed counted new size e f g put =
    let count = text (number_alone u16) (length items) in
    let head = header number no_flags (8 + size) in
    let whole : 8 + size ≡ 8 + (2 + (length items * width shape + 0)) = omega (arith, e) in
    subst (λ t. Puts result old new t)
    (ap (λ z. head ++ z) (sym (append_assoc count (flat_map (text shape) items) [])) ∙ ap (λ n. header number no_flags n ++ ((count ++ flat_map (text shape) items) ++ [])) whole)
    (puts_behind result old headed counted head count (flat_map (text shape) items) new f g put)
