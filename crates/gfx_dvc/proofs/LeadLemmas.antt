-- Fragments taken one after another, forward: what a message's fragments give.
use Rattle.std.proofs.Common.{◌≡◌, ℕ, ◌≤◌, ◌<◌, true, List, [], ◌∷◌, ◌++◌, length, Option, Some, None, Ok, refl, sym, ap, ◌∙◌, subst, append_assoc, length-append, inl, inr, arith}
use Rattle.std.proofs.lemmas.Bool.{eq-eqb, ne_eqb, lt-ltb, cond-true, cond-false}
use Rattle.std.proofs.lemmas.List.{append-nil}
use Rattle.std.specs.List.{concat}
use Rattle.gfx_dvc.specs.declared.fragment.Fragment.{Fragment}
use Rattle.gfx_dvc.specs.Format.{read_fragment}
use Rattle.gfx_dvc.specs.Joining.{Joiner, idle, opened, is_of, is_length, whole, so_far, reached, put, turn_of, turn, messages_of, joiner_after}
use Rattle.gfx_dvc.specs.Joined.{first_of, data_of, said, data_all, Gathers, EndsInBytes, IsLone, IsMessage}
use Rattle.gfx_dvc.specs.Laws.{IsIdle, Leads, AnyCutting}
use Rattle.gfx_dvc.proofs.PassedLemmas.{Passes, passed-is, step-passed}

-- steps one after another --------------------------------------------------------------------------

pub Leads-none : (joiner : Joiner) (fragments : List (List ℕ)) → Leads joiner fragments [] joiner fragments
Leads-none joiner fragments = record { messages_are = refl; joiner_is = refl }

pub Leads-turn : (joiner next : Joiner) (fragment : List ℕ) (others messages : List (List ℕ)) → turn joiner fragment ≡ (messages, next) → Leads joiner (fragment ∷ others) messages next others
Leads-turn joiner next fragment others messages e = record {
  messages_are = ap (λ (t : List (List ℕ) × Joiner). t.0 ++ messages_of t.1 others) e;
  joiner_is = ap (λ (t : List (List ℕ) × Joiner). joiner_after t.1 others) e;
}

pub Leads-then : (joiner mid next : Joiner) (fragments others rest messages more : List (List ℕ)) → Leads joiner fragments messages mid others → Leads mid others more next rest → Leads joiner fragments (messages ++ more) next rest
Leads-then joiner mid next fragments others rest messages more first last = record {
  messages_are = first.messages_are ∙ ap (λ z. messages ++ z) last.messages_are ∙ sym (append_assoc messages more (messages_of next rest));
  joiner_is = first.joiner_is ∙ last.joiner_is;
}

-- a fragment that passes
turn-passes : (joiner : Joiner) (bytes : List ℕ) (fragment : Fragment) → Passes joiner bytes fragment → turn joiner bytes ≡ turn_of (Ok (put joiner fragment))
turn-passes joiner bytes fragment h = ap turn_of (step-passed joiner bytes fragment (passed-is joiner bytes fragment h))

pub reached-whole : (channel total : ℕ) (bytes : List ℕ) → length bytes ≡ total → reached channel total bytes ≡ (Some bytes, idle channel)
unfolding reached
reached-whole channel total bytes e = cond-true _ _ _ (eq-eqb (length bytes) total e)

pub reached-open : (channel total : ℕ) (bytes : List ℕ) → length bytes < total → reached channel total bytes ≡ (None, opened channel total bytes)
unfolding reached
reached-open channel total bytes less = cond-false _ _ _ (ne_eqb (length bytes) total (λ e. omega arith))

turn-whole : (joiner : Joiner) (bytes : List ℕ) (fragment : Fragment) → Passes joiner bytes fragment
    → length (so_far joiner.message fragment.piece) ≡ whole joiner.message fragment.header.total fragment.piece
    → turn joiner bytes ≡ (so_far joiner.message fragment.piece ∷ [], idle fragment.header.channel)
unfolding put turn_of
turn-whole joiner bytes fragment h e = turn-passes joiner bytes fragment h ∙ ap (λ z. turn_of (Ok z)) (reached-whole _ _ _ e)

turn-open : (joiner : Joiner) (bytes : List ℕ) (fragment : Fragment) → Passes joiner bytes fragment
    → length (so_far joiner.message fragment.piece) < whole joiner.message fragment.header.total fragment.piece
    → turn joiner bytes ≡ ([], opened fragment.header.channel (whole joiner.message fragment.header.total fragment.piece) (so_far joiner.message fragment.piece))
unfolding put turn_of
turn-open joiner bytes fragment h less = turn-passes joiner bytes fragment h ∙ ap (λ z. turn_of (Ok z)) (reached-open _ _ _ less)

-- which fragments pass -------------------------------------------------------------------------------

-- a joiner without a message that is open
abbrev pub closed_by : Option ℕ → Joiner
closed_by channel = record { channel = channel; message = None; refusal = None }

-- its id, if it is known, is this one
abbrev pub IsKnownAs : ℕ → Option ℕ → Type 0
IsKnownAs channel known = (other : ℕ) → known ≡ Some other → other ≡ channel

closed-is : (channel : ℕ) (joiner : Joiner) → IsIdle channel joiner → joiner ≡ closed_by joiner.channel
closed-is channel joiner h =
    ap (λ m. record { channel = joiner.channel; message = m; refusal = joiner.refusal }) h.closed
    ∙ ap (λ r. record { channel = joiner.channel; message = None; refusal = r }) h.clear

of_known : (channel : ℕ) (known : Option ℕ) → IsKnownAs channel known → is_of known channel ≡ true
of_known channel None h = refl
of_known channel (Some other) h = eq-eqb channel other (sym (h other refl))

lone-passes : (channel : ℕ) (known : Option ℕ) (f piece : List ℕ) → IsKnownAs channel known → read_fragment f ≡ Ok (data_of channel piece) → 0 < length piece → Passes (closed_by known) f (data_of channel piece)
lone-passes channel known f piece h e some = record {
  clear = refl;
  says = e;
  channel = of_known channel known h;
  order = refl;
  sized = lt-ltb 0 (length piece) some;
  room = omega arith;
}

first-passes : (channel total : ℕ) (known : Option ℕ) (f piece : List ℕ) → IsKnownAs channel known → read_fragment f ≡ Ok (first_of channel total piece) → is_length total ≡ true → length piece ≤ total → Passes (closed_by known) f (first_of channel total piece)
first-passes channel total known f piece h e fits room = record {
  clear = refl;
  says = e;
  channel = of_known channel known h;
  order = refl;
  sized = fits;
  room = room;
}

data-passes : (channel total : ℕ) (bytes f piece : List ℕ) → read_fragment f ≡ Ok (data_of channel piece) → length (bytes ++ piece) ≤ total → Passes (opened channel total bytes) f (data_of channel piece)
data-passes channel total bytes f piece e room = record {
  clear = refl;
  says = e;
  channel = eq-eqb channel channel refl;
  order = refl;
  sized = refl;
  room = room;
}

-- the fragments of one message ------------------------------------------------------------------------

-- what the first of some fragments says, and what the others say
pub first_said : {X : Type 0} (x y : X) (xs ys : List X) → x ∷ xs ≡ y ∷ ys → (x ≡ y) × (xs ≡ ys)
first_said x y xs ys e = (let first : x ≡ y = cc in first, let others : xs ≡ ys = cc in others)

-- a piece behind other bytes
more_gathered : (bytes piece message : List ℕ) (others : List (List ℕ)) → bytes ++ concat (piece ∷ others) ≡ message → (bytes ++ piece) ++ concat others ≡ message
more_gathered bytes piece message others e = append_assoc bytes piece (concat others) ∙ e

some_last : (piece : List ℕ) (others : List (List ℕ)) → EndsInBytes (piece ∷ others) → 0 < length (concat (piece ∷ others))
some_last piece [] some = omega (arith, length-append piece [])
some_last piece (other ∷ others) some = omega (arith, length-append piece (concat (other ∷ others)), some_last other others some)

-- the DATA of an open message, up to its last byte
data-lead : (channel : ℕ) (others own : List (List ℕ)) (bytes message : List ℕ) (behind : List (List ℕ))
    → said own ≡ data_all channel others → bytes ++ concat others ≡ message → length bytes < length message → EndsInBytes others
    → Leads (opened channel (length message) bytes) (own ++ behind) (message ∷ []) (idle channel) behind
data-lead channel [] own bytes message behind says gathered less ends = let same : bytes ≡ message = sym (append-nil bytes) ∙ gathered in absurd (omega (arith, ap length same))
data-lead channel (piece ∷ others) [] bytes message behind says gathered less ends = absurd cc
data-lead channel (piece ∷ []) (f ∷ (g ∷ fs)) bytes message behind says gathered less ends = let h = first_said _ _ _ _ says in let none = h.1 in absurd cc
data-lead channel (piece ∷ []) (f ∷ []) bytes message behind says gathered less ends =
    let h = first_said _ _ _ _ says in
    let same : bytes ++ piece ≡ message = sym (append-nil (bytes ++ piece)) ∙ more_gathered bytes piece message [] gathered in
    let long : length (bytes ++ piece) ≡ length message = ap length same in
    let passes = data-passes channel (length message) bytes f piece h.0 (omega arith) in
    Leads-turn _ (idle channel) f behind (message ∷ []) (turn-whole (opened channel (length message) bytes) f (data_of channel piece) passes long ∙ ap (λ z. (z ∷ [], idle channel)) same)
data-lead channel (piece ∷ (other ∷ others)) (f ∷ fs) bytes message behind says gathered less ends =
    let h = first_said _ _ _ _ says in
    let more = more_gathered bytes piece message (other ∷ others) gathered in
    let short : length (bytes ++ piece) < length message = omega (arith, ap length more, length-append (bytes ++ piece) (concat (other ∷ others)), some_last other others ends) in
    let passes = data-passes channel (length message) bytes f piece h.0 (omega arith) in
    Leads-then _ _ _ _ _ _ [] (message ∷ [])
    (Leads-turn (opened channel (length message) bytes) (opened channel (length message) (bytes ++ piece)) f (fs ++ behind) [] (turn-open (opened channel (length message) bytes) f (data_of channel piece) passes short))
    (data-lead channel (other ∷ others) fs (bytes ++ piece) message behind h.1 more short ends)

-- the DATA of a message that stays open
pub open-lead : (channel total : ℕ) (others own : List (List ℕ)) (bytes message : List ℕ) (behind : List (List ℕ))
    → said own ≡ data_all channel others → bytes ++ concat others ≡ message → length message < total
    → Leads (opened channel total bytes) (own ++ behind) [] (opened channel total message) behind
open-lead channel total [] (f ∷ fs) bytes message behind says gathered less = absurd cc
open-lead channel total [] [] bytes message behind says gathered less =
    subst (λ z. Leads (opened channel total bytes) behind [] (opened channel total z) behind) (sym (append-nil bytes) ∙ gathered) (Leads-none _ behind)
open-lead channel total (piece ∷ others) [] bytes message behind says gathered less = absurd cc
open-lead channel total (piece ∷ others) (f ∷ fs) bytes message behind says gathered less =
    let h = first_said _ _ _ _ says in
    let more = more_gathered bytes piece message others gathered in
    let short : length (bytes ++ piece) < total = omega (arith, ap length more, length-append (bytes ++ piece) (concat others)) in
    let passes = data-passes channel total bytes f piece h.0 (omega arith) in
    Leads-then _ _ _ _ _ _ [] []
    (Leads-turn (opened channel total bytes) (opened channel total (bytes ++ piece)) f (fs ++ behind) [] (turn-open (opened channel total bytes) f (data_of channel piece) passes short))
    (open-lead channel total others fs (bytes ++ piece) message behind h.1 more less)

lone-lead : (channel : ℕ) (known : Option ℕ) (own : List (List ℕ)) (message : List ℕ) (behind : List (List ℕ)) → IsKnownAs channel known → IsLone channel own message → Leads (closed_by known) (own ++ behind) (message ∷ []) (idle channel) behind
lone-lead channel known [] message behind h lone = let says = lone.says in absurd cc
lone-lead channel known (f ∷ (g ∷ fs)) message behind h lone = let none = (first_said _ _ _ _ lone.says).1 in absurd cc
lone-lead channel known (f ∷ []) message behind h lone =
    let passes = lone-passes channel known f message h (first_said _ _ _ _ lone.says).0 lone.some in
    Leads-turn _ (idle channel) f behind (message ∷ []) (turn-whole (closed_by known) f (data_of channel message) passes refl)

-- a DATA_FIRST, and what its DATA lead to
first-whole : (channel : ℕ) (known : Option ℕ) (f message : List ℕ) (behind : List (List ℕ)) → IsKnownAs channel known → read_fragment f ≡ Ok (first_of channel (length message) message) → is_length (length message) ≡ true → Leads (closed_by known) (f ∷ behind) (message ∷ []) (idle channel) behind
first-whole channel known f message behind h e fits =
    Leads-turn _ (idle channel) f behind (message ∷ []) (turn-whole (closed_by known) f (first_of channel (length message) message) (first-passes channel (length message) known f message h e fits (omega arith)) refl)

pub first-open : (channel total : ℕ) (known : Option ℕ) (f piece : List ℕ) (behind : List (List ℕ)) → IsKnownAs channel known → read_fragment f ≡ Ok (first_of channel total piece) → is_length total ≡ true → length piece < total → Leads (closed_by known) (f ∷ behind) [] (opened channel total piece) behind
first-open channel total known f piece behind h e fits less =
    Leads-turn _ (opened channel total piece) f behind [] (turn-open (closed_by known) f (first_of channel total piece) (first-passes channel total known f piece h e fits (omega arith)) less)

pieced-lead : (channel : ℕ) (known : Option ℕ) (own : List (List ℕ)) (message first : List ℕ) (others behind : List (List ℕ)) → IsKnownAs channel known → Gathers channel (length message) own first others message → is_length (length message) ≡ true → EndsInBytes others → Leads (closed_by known) (own ++ behind) (message ∷ []) (idle channel) behind
pieced-lead channel known [] message first others behind h gathers fits ends = let says = gathers.says in absurd cc
pieced-lead channel known (f ∷ (g ∷ fs)) message first [] behind h gathers fits ends = let none = (first_said _ _ _ _ gathers.says).1 in absurd cc
pieced-lead channel known (f ∷ []) message first [] behind h gathers fits ends =
    let same : first ≡ message = sym (append-nil first) ∙ gathers.gathered in
    first-whole channel known f message behind h ((first_said _ _ _ _ gathers.says).0 ∙ ap (λ z. Ok (first_of channel (length message) z)) same) fits
pieced-lead channel known (f ∷ fs) message first (other ∷ others) behind h gathers fits ends =
    let says = first_said _ _ _ _ gathers.says in
    let less : length first < length message = omega (arith, ap length gathers.gathered, length-append first (concat (other ∷ others)), some_last other others ends) in
    Leads-then _ _ _ _ _ _ [] (message ∷ [])
    (first-open channel (length message) known f first (fs ++ behind) h says.0 fits less)
    (data-lead channel (other ∷ others) fs first message behind says.1 gathers.gathered less ends)

pub message-lead : (channel : ℕ) (known : Option ℕ) (own : List (List ℕ)) (message : List ℕ) (behind : List (List ℕ)) → IsKnownAs channel known → IsMessage channel own message → Leads (closed_by known) (own ++ behind) (message ∷ []) (idle channel) behind
message-lead channel known own message behind h (inl lone) = lone-lead channel known own message behind h lone
message-lead channel known own message behind h (inr pieced) = pieced-lead channel known own message pieced.first pieced.others behind h pieced.gathers pieced.fits pieced.ends

pub any_cutting : AnyCutting
any_cutting channel joiner own message behind h is =
    subst (λ z. Leads z (own ++ behind) (message ∷ []) (idle channel) behind) (sym (closed-is channel joiner h)) (message-lead channel joiner.channel own message behind h.known is)
