-- What the turns of both commands have in common.
use Rattle.std.proofs.Common.{◌≡◌, ℕ, ◌+◌, Bool, true, false, not, ◌||◌, eqb, List, [], ◌∷◌, ◌++◌, length, Option, Some, None, is_some, Result, Ok, Err, refl, sym, ap, ◌∙◌, subst, length-append}
use Rattle.std.proofs.lemmas.List.{append-nil}
use Rattle.std.specs.Prelude.{IsErr, IfOk, is_err, is_none}
use Rattle.gfx_base.specs.Memory.{next_count}
use Rattle.gfx_base.specs.Results.{check}
use Rattle.gfx_base.specs.declared.refusal.Refusal.{Refusal}
use Rattle.gfx_base.specs.declared.refusal.Refusal.TheVariants.{ChannelTruncated}
use Rattle.gfx_dvc.specs.Joining as joining
use Rattle.gfx_dvc.specs.Joining.{Joiner}
use Rattle.gfx_dvc.specs.declared.open.Open.{Open}
use Rattle.gfx_base.specs.Stream.{Change, change, Gains, FailsAfter, Writes}
use Rattle.gfx_base.proofs.Streams.{Gains-append, FailsAfter-append, FailsAfter_more, GainsPart_all}
use Rattle.gfx_input.specs.declared.taker.Taken.{Taken}
use Rattle.gfx_input.specs.declared.fault.TakeFault.{TakeFault}
use Rattle.gfx_segment.specs.Framing as framing
use Rattle.gfx_segment.specs.Framing.{Splitter}
use Rattle.gfx_fragments.specs.Due.{counted, WritesPart}
use Rattle.gfx_fragments.specs.Found.{has_bytes}
use Rattle.gfx_fragments.specs.Turns.{GoesOn}
use Rattle.gfx_fragments.proofs.EndLemmas.{counted-more, part_in, fails_in}
use Rattle.gfx_fragments.proofs.FoundLemmas.{IsTextFront}

-- where the next answer doesn't end it, it goes on
pub goes_on : {S : Type 0} (going : S → List ℕ → Change → Type 0) (stands stops : S → List ℕ → Type 0) (text : List ℕ) (answer : Option Taken) (new : S) (bytes : List ℕ) (o : Change) → ((t : Taken) → answer ≡ Some t → ⊥) → GoesOn going stands stops text (Ok answer) new bytes o → going new bytes o
goes_on going stands stops text None new bytes o more g = g
goes_on going stands stops text (Some t) new bytes o more g = absurd (more t refl)

pub more_follows : (answer : Option Taken) → ((t : Taken) → answer ≡ Some t → ⊥) → answer ≡ None
more_follows None more = refl
more_follows (Some t) more = absurd (more t refl)

-- one item more is counted
pub counts-one : (number new : ℕ) (items : List (List ℕ)) (item : List ℕ) → number ≡ counted (length items) → new ≡ next_count number → new ≡ counted (length (items ++ item ∷ []))
counts-one number new items item is one =
    let longer : length (items ++ item ∷ []) ≡ length items + 1 = length-append items (item ∷ []) in
    one ∙ ap next_count is ∙ counted-more (length items) ∙ ap counted (sym longer)

-- what was written is a part of the text whose front it is
pub part_written : (o : Change) (front text : List ℕ) → Gains o front → IsTextFront front text → WritesPart o text
part_written o front text gains f = (gains.count, part_in o front text f (GainsPart_all o front gains))

-- nothing more was written of it
pub part_still : (a b d : ℕ) (x y z : Option (List ℕ)) (front text : List ℕ) → Gains (change a b x y) front → Gains (change b d y z) [] → IsTextFront front text → WritesPart (change a d x z) text
part_still a b d x y z front text gains none f =
    part_written (change a d x z) front text (subst (Gains (change a d x z)) (append-nil front) (Gains-append a b d x y z front [] gains none)) f

-- a write failed in the midst of more
pub fails_then : (a b d : ℕ) (x y z : Option (List ℕ)) (front more text : List ℕ) → Gains (change a b x y) front → FailsAfter (change b d y z) more → IsTextFront (front ++ more) text → FailsAfter (change a d x z) text
fails_then a b d x y z front more text gains fails f = fails_in (change a d x z) (front ++ more) text f (FailsAfter-append a b d x y z front more gains fails)

-- two writes, one after the other
pub writes_then : {E : Type 0} (r : Result (Unit {0}) E) (a b d : ℕ) (x y z : Option (List ℕ)) (xs ys : List ℕ) → Gains (change a b x y) xs → Writes r (change b d y z) ys → Writes r (change a d x z) (xs ++ ys)
writes_then (Ok done) a b d x y z xs ys gains wrote = Gains-append a b d x y z xs ys gains wrote
writes_then (Err e) a b d x y z xs ys gains wrote = FailsAfter-append a b d x y z xs ys gains wrote

-- and a first one that failed
pub writes_not : {E : Type 0} (r : Result (Unit {0}) E) (o : Change) (xs ys : List ℕ) → IsErr r → FailsAfter o xs → Writes r o (xs ++ ys)
writes_not (Ok done) o xs ys e fails = cc
writes_not (Err e) o xs ys is fails = FailsAfter_more o xs ys fails

-- what holds of an answer that says that there may be more, whatever it is
pub if_more : (answer : Result (Option Taken) TakeFault) (P : Type 0) → P → IfOk answer (λ more. more ≡ None → P)
if_more (Ok more) P p = λ e. p
if_more (Err f) P p = tt

-- a check that fails is an error
check-err : (r : Refusal) (holds : Bool) → is_err (check r holds) ≡ not holds
check-err r true = refl
check-err r false = refl

-- a stream that ends inside a message
pub stream-open : (held : Splitter) → held.refusal ≡ None → is_err (framing.ended held) ≡ has_bytes held.rest
unfolding framing.ended
stream-open held none =
    check-err ChannelTruncated (is_some held.refusal || eqb (length held.rest) 0)
    ∙ ap (λ z. not (is_some z || eqb (length held.rest) 0)) none

not-none : (message : Option Open) → not (is_none message) ≡ is_some message
not-none None = refl
not-none (Some begun) = refl

-- fragments that end inside a message
pub fragments-open : (joiner : Joiner) → joiner.refusal ≡ None → is_err (joining.ended joiner) ≡ is_some joiner.message
unfolding joining.ended
fragments-open joiner none =
    check-err ChannelTruncated (is_some joiner.refusal || is_none joiner.message)
    ∙ ap (λ z. not (is_some z || is_none joiner.message)) none
    ∙ not-none joiner.message
