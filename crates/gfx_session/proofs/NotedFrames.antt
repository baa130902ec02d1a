-- The frames that are noted, one after another.
use Rattle.std.proofs.Common.{◌≡◌, ℕ, zero, suc, ◌+◌, ◌<◌, get_or, add-one, drop-cons, List, [], ◌∷◌, ◌++◌, length, drop, Option, refl, sym, ap, ◌∙◌, append_assoc}
use Rattle.gfx_session.specs.Noting.{paired}
use Rattle.gfx_session.specs.declared.acked.Acked.{Acked}
use Rattle.gfx_session.specs.declared.server_end.listening.ShownFrame.{ShownFrame}

paired-cons : (one : ShownFrame) (others : List ShownFrame) (clients : List (Option (List ℕ))) → paired (one ∷ others) clients ≡ paired (one ∷ []) clients ++ paired others (drop 1 clients)
paired-cons one [] [] = refl
paired-cons one (other ∷ others) [] = refl
paired-cons one others (client ∷ clients) = refl

drop-none : (count : ℕ) → drop {A = Option (List ℕ)} count [] ≡ []
drop-none zero = refl
drop-none (suc count) = refl

dropped_more : (count : ℕ) (clients : List (Option (List ℕ))) → drop (suc count) clients ≡ drop count (drop 1 clients)
dropped_more count [] = sym (drop-none count)
dropped_more count (client ∷ clients) = refl

-- the next of the frames
pub frames_from : (taken : List ShownFrame) (at : ℕ) (none : ShownFrame) → at < length taken → drop at taken ≡ get_or taken at none ∷ drop (at + 1) taken
frames_from taken at none some = drop-cons taken at none some ∙ ap (λ n. get_or taken at none ∷ drop n taken) (sym (add-one at))

-- one more is noted
pub notes_next : (one : ShownFrame) (left others : List ShownFrame) (all acks now : List Acked) (drawn next : List (Option (List ℕ))) → left ≡ one ∷ others → acks ++ paired left drawn ≡ all → now ≡ acks ++ paired (one ∷ []) drawn → next ≡ drop 1 drawn → now ++ paired others next ≡ all
notes_next one left others all acks now drawn next is before now_is next_is =
    (λ i. now_is i ++ paired others (next_is i))
    ∙ append_assoc acks (paired (one ∷ []) drawn) (paired others (drop 1 drawn))
    ∙ ap (λ z. acks ++ z) (sym (paired-cons one others drawn))
    ∙ ap (λ z. acks ++ paired z drawn) (sym is)
    ∙ before

pub drops_next : (one : ShownFrame) (left others : List ShownFrame) (all drawn next : List (Option (List ℕ))) → left ≡ one ∷ others → drop (length left) drawn ≡ all → next ≡ drop 1 drawn → drop (length others) next ≡ all
drops_next one left others all drawn next is before next_is =
    ap (drop (length others)) next_is ∙ sym (dropped_more (length others) drawn) ∙ ap (λ z. drop (length z) drawn) (sym is) ∙ before
