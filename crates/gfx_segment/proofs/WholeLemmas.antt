-- Whole messages in bytes: those that are sent are given, and any other length is bad.
use Rattle.std.proofs.Common.{◌≡◌, ℕ, ◌≤◌, ◌<◌, List, [], ◌∷◌, ◌++◌, length, drop, Ok, ◌⊎◌, inl, inr, refl, sym, ap, ◌∙◌, subst, append_assoc, arith, length-append}
use Rattle.std.specs.List.{AllByRecursion, flat_map}
use Rattle.std.proofs.lemmas.Bool.{le-leb, lt-leb, cond-true, cond-false}
use Rattle.gfx_base.specs.declared.TheConstants.{MOST_MESSAGE}
use Rattle.gfx_base.proofs.FieldLemmas.{number_at-written_4}
use Rattle.gfx_segment.specs.Edge.{IsEdge}
use Rattle.gfx_segment.specs.declared.edge.Edge.{Edge}
use Rattle.gfx_segment.specs.declared.edge.Edge.TheVariants as edge
use Rattle.gfx_segment.specs.Framing.{Whole, Short, Bad, front, prefixed, Given}
use Rattle.gfx_segment.specs.Whole.{no_length, streamed_within, streamed, IsNotWhole, IsMessage}
use Rattle.gfx_segment.proofs.FrontLemmas.{Begins, bad_at, front_at}
use Rattle.gfx_segment.proofs.ReadBackLemmas.{front-prefixed}

pub streamed_short : (limit : ℕ) (message : List ℕ) → length message ≤ limit → streamed_within limit message ≡ prefixed message
unfolding streamed_within
streamed_short limit message few = cond-true _ _ _ (le-leb (length message) limit few)

pub streamed_long : (limit : ℕ) (message : List ℕ) → limit < length message → streamed_within limit message ≡ no_length
unfolding streamed_within
streamed_long limit message more = cond-false _ _ _ (lt-leb (length message) limit more)

-- a message in a stream is whole, whatever follows
pub front-streamed : (message more : List ℕ) → IsMessage message → front (streamed message ++ more) ≡ Whole message more
front-streamed message more is =
    ap (λ z. front (z ++ more)) (streamed_short MOST_MESSAGE message is.most)
    ∙ front-prefixed message more (record { some = is.some; most = is.most })

pub are_given : (messages : List (List ℕ)) (more : List ℕ) → AllByRecursion IsMessage messages → Given Ok (flat_map streamed messages ++ more) messages more
are_given [] more all = refl
are_given (message ∷ messages) more all = (
  message,
  flat_map streamed messages ++ more,
  ap front (append_assoc (streamed message) (flat_map streamed messages) more) ∙ front-streamed message (flat_map streamed messages ++ more) all.0,
  refl,
  are_given messages more all.1,
)

-- a length that none has
front-bad : (size : ℕ) (bytes : List ℕ) → Begins size bytes → (size ≡ 0) ⊎ (MOST_MESSAGE < size) → front bytes ≡ Bad
front-bad size bytes begins bad = front_at size bytes begins ∙ bad_at MOST_MESSAGE size (drop 4 bytes) bad

pub others_are_bad : (message more : List ℕ) → (length message ≡ 0) ⊎ (MOST_MESSAGE < length message) → front (streamed message ++ more) ≡ Bad
unfolding prefixed
others_are_bad message more (inl none) =
    ap (λ z. front (z ++ more)) (streamed_short MOST_MESSAGE message (omega arith))
    ∙ front-bad 0 (prefixed message ++ more)
    (record {
      long = omega (arith, length-append message more);
      spells = number_at-written_4 [] (message ++ more) (length message) (omega arith) ∙ none;
    })
    (inl refl)
others_are_bad message more (inr many) =
    ap (λ z. front (z ++ more)) (streamed_long MOST_MESSAGE message many)
    ∙ front-bad 4294967295 (no_length ++ more) (record { long = omega arith; spells = refl }) (inr (omega arith))

-- what begins with no whole message
pub not_whole : (bytes : List ℕ) (found : Edge) → (found ≡ edge.Short) ⊎ (found ≡ edge.Bad) → IsEdge bytes found → IsNotWhole (front bytes)
not_whole bytes found (inl e) is = let short : front bytes ≡ Short = subst (IsEdge bytes) e is in subst IsNotWhole (sym short) tt
not_whole bytes found (inr e) is = let bad : front bytes ≡ Bad = subst (IsEdge bytes) e is in subst IsNotWhole (sym bad) tt
