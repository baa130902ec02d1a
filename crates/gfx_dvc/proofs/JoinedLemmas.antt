-- What is joined of some fragments, and of one more.
use Rattle.std.proofs.Common.{◌≡◌, ℕ, ◌≤◌, ◌<◌, true, List, [], ◌∷◌, ◌++◌, length, Option, Some, None, Result, Ok, Err, refl, sym, ap, ◌∙◌, subst, append_assoc, length-append, inl, inr, arith}
use Rattle.std.proofs.lemmas.Bool.{ltb-true, eqb-true, cases_lt}
use Rattle.std.proofs.lemmas.List.{append-nil, map-append}
use Rattle.std.specs.List.{concat}
use Rattle.gfx_base.specs.declared.answer.Cause.{Cause}
use Rattle.gfx_base.specs.declared.answer.Cause.TheVariants.{Refused, Memory}
use Rattle.gfx_base.specs.declared.refusal.Refusal.{Refusal}
use Rattle.gfx_dvc.specs.declared.fragment.Fragment.{Fragment}
use Rattle.gfx_dvc.specs.declared.open.Open.{Open}
use Rattle.gfx_dvc.specs.Format.{read_fragment}
use Rattle.gfx_dvc.specs.Joining.{Joiner, fresh, refused, is_of, is_in_order, is_sized, is_length, whole, so_far, passed, reached, put, step, given, turn_of, turn, messages_of, joiner_after, Answers}
use Rattle.gfx_dvc.specs.Joined.{first_of, data_of, data_all, Gathers, EndsInBytes, IsMessage, Ended, IsOpen, IsLeft, known_in, Accepted, EndsBehind, Joined}
use Rattle.gfx_dvc.specs.Laws.{JoinsOn, TakesOn, StepsJoin}
use Rattle.gfx_dvc.proofs.PassedLemmas.{Passes, passed-ok, passed-kept, step-passed, step-refused}
use Rattle.gfx_dvc.proofs.LeadLemmas.{reached-whole, reached-open}

-- one fragment more at the end -----------------------------------------------------------------------

concat-more : (pieces : List (List ℕ)) (piece : List ℕ) → concat (pieces ++ piece ∷ []) ≡ concat pieces ++ piece
concat-more [] piece = append-nil piece
concat-more (other ∷ pieces) piece = ap (λ z. other ++ z) (concat-more pieces piece) ∙ sym (append_assoc other (concat pieces) piece)

ends-more : (pieces : List (List ℕ)) (piece : List ℕ) → 0 < length piece → EndsInBytes (pieces ++ piece ∷ [])
ends-more [] piece some = some
ends-more (other ∷ []) piece some = some
ends-more (other ∷ (third ∷ pieces)) piece some = ends-more (third ∷ pieces) piece some

-- one DATA more
Gathers-more : (channel total : ℕ) (own : List (List ℕ)) (first : List ℕ) (others : List (List ℕ)) (bytes f piece : List ℕ) → Gathers channel total own first others bytes → read_fragment f ≡ Ok (data_of channel piece) → Gathers channel total (own ++ f ∷ []) first (others ++ piece ∷ []) (bytes ++ piece)
Gathers-more channel total own first others bytes f piece h e = record {
  says =
      map-append read_fragment own (f ∷ [])
      ∙ ap (λ z. z ++ read_fragment f ∷ []) h.says
      ∙ ap (λ z. Ok (first_of channel total first) ∷ (data_all channel others ++ z ∷ [])) e
      ∙ ap (λ z. Ok (first_of channel total first) ∷ z) (sym (map-append (λ p. Ok (data_of channel p)) others (piece ∷ [])));
  gathered = ap (λ z. first ++ z) (concat-more others piece) ∙ sym (append_assoc first (concat others) piece) ∙ ap (λ z. z ++ piece) h.gathered;
}

Ended-more : (channel : ℕ) (fragments messages rest : List (List ℕ)) (f : List ℕ) → Ended channel fragments messages rest → Ended channel (fragments ++ f ∷ []) messages (rest ++ f ∷ [])
Ended-more channel fragments [] rest f e = ap (λ z. z ++ f ∷ []) e
Ended-more channel fragments (m ∷ messages) rest f (own, after, cut, is, others) =
    (own, after ++ f ∷ [], ap (λ z. z ++ f ∷ []) cut ∙ append_assoc own after (f ∷ []), is, Ended-more channel after messages rest f others)

Ended-one : (channel : ℕ) (fragments messages rest : List (List ℕ)) (message : List ℕ) → Ended channel fragments messages rest → IsMessage channel rest message → Ended channel fragments (messages ++ message ∷ []) []
Ended-one channel fragments [] rest message e is = (rest, [], e ∙ sym (append-nil rest), is, refl)
Ended-one channel fragments (m ∷ messages) rest message (own, after, cut, first, others) is = (own, after, cut, first, Ended-one channel after messages rest message others is)

known-more : (channel : ℕ) (fragments : List (List ℕ)) (f : List ℕ) → known_in channel (fragments ++ f ∷ []) ≡ Some channel
known-more channel [] f = refl
known-more channel (g ∷ fragments) f = refl

-- ---- a fragment that passes

-- what it leaves is a message whole, or one that is open
record Closes (channel total : ℕ) (own : List (List ℕ)) (bytes : List ℕ) : Type 0 where
  within : length bytes ≤ total
  ends : length bytes ≡ total → IsMessage channel own bytes
  stays : length bytes < total → IsOpen channel own (record { total = total; bytes = bytes })

Accepted-reached : (channel total : ℕ) (fragments messages rest : List (List ℕ)) (f bytes : List ℕ) → Ended channel fragments messages rest → Closes channel total (rest ++ f ∷ []) bytes → Accepted (fragments ++ f ∷ []) (messages ++ given (reached channel total bytes).0) (reached channel total bytes).1
Accepted-reached channel total fragments messages rest f bytes whole closes =
    let longer = Ended-more channel fragments messages rest f whole in
    elim (cases_lt (length bytes) total) [
      | inl less ↦
          subst (λ (z : Option (List ℕ) × Joiner). Accepted (fragments ++ f ∷ []) (messages ++ given z.0) z.1) (sym (reached-open channel total bytes less)) (record {
            channel = channel;
            rest = rest ++ f ∷ [];
            whole = subst (λ z. Ended channel (fragments ++ f ∷ []) z (rest ++ f ∷ [])) (sym (append-nil messages)) longer;
            left = closes.stays less;
            known = sym (known-more channel fragments f);
            clear = refl;
          })
      | inr enough ↦
          let within : length bytes ≤ total = closes.within in
          let exact : length bytes ≡ total = omega arith in
          subst (λ (z : Option (List ℕ) × Joiner). Accepted (fragments ++ f ∷ []) (messages ++ given z.0) z.1) (sym (reached-whole channel total bytes exact)) (record {
            channel = channel;
            rest = [];
            whole = Ended-one channel (fragments ++ f ∷ []) messages (rest ++ f ∷ []) bytes longer (closes.ends exact);
            left = refl;
            known = sym (known-more channel fragments f);
            clear = refl;
          })
    ]

-- the fragments so far, of the channel that this one tells
record Stands (channel : ℕ) (fragments messages : List (List ℕ)) (open_message : Option Open) : Type 0 where
  rest : List (List ℕ)
  whole : Ended channel fragments messages rest
  left : IsLeft channel rest open_message

pub said_nothing : (channel : ℕ) (own : List (List ℕ)) (message : List ℕ) → own ≡ [] → IsMessage channel own message → ⊥
said_nothing channel own message e (inl lone) = let says = rw e at lone.says in absurd cc
said_nothing channel own message e (inr pieced) = let gathers = pieced.gathers in let says = rw e at gathers.says in absurd cc

pub no_fragments : (xs ys : List (List ℕ)) → [] ≡ xs ++ ys → xs ≡ []
no_fragments [] ys e = refl
no_fragments (x ∷ xs) ys e = absurd cc

pub IsOpen-some : (channel : ℕ) (begun : Open) → IsOpen channel [] begun → ⊥
IsOpen-some channel begun is = let gathers = is.gathers in let says = gathers.says in absurd cc

-- where there are no fragments, any channel may be theirs
Stands-none : (channel other : ℕ) (messages rest : List (List ℕ)) (open_message : Option Open) → Ended channel [] messages rest → IsLeft channel rest open_message → Stands other [] messages open_message
Stands-none channel other [] rest None whole left = record { rest = []; whole = refl; left = refl }
Stands-none channel other [] rest (Some begun) whole left = absurd (IsOpen-some channel begun (subst (λ z. IsOpen channel z begun) (sym whole) left))
Stands-none channel other (m ∷ messages) rest open_message (own, after, cut, is, others) left = absurd (said_nothing channel own m (no_fragments own after cut) is)

Stands-at : (id channel : ℕ) (fragments messages rest : List (List ℕ)) (known : Option ℕ) (open_message : Option Open) → Ended channel fragments messages rest → IsLeft channel rest open_message → known ≡ known_in channel fragments → is_of known id ≡ true → Stands id fragments messages open_message
Stands-at id channel [] messages rest known open_message whole left e is = Stands-none channel id messages rest open_message whole left
Stands-at id channel (f ∷ fragments) messages rest known open_message whole left e is =
    let now = rw e at is in
    let same : id ≡ channel = eqb-true id channel now in
    subst (λ z. Stands z (f ∷ fragments) messages open_message) (sym same) (record { rest = rest; whole = whole; left = left })

-- ---- what a fragment that passes leaves, by what is open and what it says

lone-closes : (channel : ℕ) (f piece : List ℕ) → read_fragment f ≡ Ok (data_of channel piece) → 0 < length piece → Closes channel (length piece) (f ∷ []) piece
lone-closes channel f piece e some = record {
  within = omega arith;
  ends = λ same. inl (record { says = ap (λ z. z ∷ []) e; some = some });
  stays = λ less. absurd (omega arith);
}

first-gathers : (channel total : ℕ) (f piece : List ℕ) → read_fragment f ≡ Ok (first_of channel total piece) → Gathers channel total (f ∷ []) piece [] piece
first-gathers channel total f piece e = record { says = ap (λ z. z ∷ []) e; gathered = append-nil piece }

first-closes : (channel total : ℕ) (f piece : List ℕ) → read_fragment f ≡ Ok (first_of channel total piece) → is_length total ≡ true → length piece ≤ total → Closes channel total (f ∷ []) piece
first-closes channel total f piece e fits within = record {
  within = within;
  ends = λ same. inr (record {
    first = piece;
    others = [];
    gathers = subst (λ z. Gathers channel z (f ∷ []) piece [] piece) (sym same) (first-gathers channel total f piece e);
    fits = rw same fits;
    ends = tt;
  });
  stays = λ less. record { first = piece; others = []; gathers = first-gathers channel total f piece e; fits = fits; less = less };
}

data-closes : (channel : ℕ) (own : List (List ℕ)) (begun : Open) (f piece : List ℕ) → IsOpen channel own begun → read_fragment f ≡ Ok (data_of channel piece) → length (begun.bytes ++ piece) ≤ begun.total → Closes channel begun.total (own ++ f ∷ []) (begun.bytes ++ piece)
data-closes channel own begun f piece is e within =
    let more = Gathers-more channel begun.total own is.first is.others begun.bytes f piece is.gathers e in
    record {
      within = within;
      ends = λ same. inr (record {
        first = is.first;
        others = is.others ++ piece ∷ [];
        gathers = subst (λ z. Gathers channel z (own ++ f ∷ []) is.first (is.others ++ piece ∷ []) (begun.bytes ++ piece)) (sym same) more;
        fits = rw same is.fits;
        ends = ends-more is.others piece (omega (arith, is.less, length-append begun.bytes piece));
      });
      stays = λ less. record { first = is.first; others = is.others ++ piece ∷ []; gathers = more; fits = is.fits; less = less };
    }

-- whichever it is
passed-closes : (id : ℕ) (f : List ℕ) (message : Option Open) (total : Option ℕ) (piece : List ℕ) (rest : List (List ℕ)) → IsLeft id rest message
    → read_fragment f ≡ Ok (record { header = record { channel = id; total = total }; piece = piece })
    → is_in_order message total ≡ true → is_sized message total piece ≡ true → length (so_far message piece) ≤ whole message total piece
    → Closes id (whole message total piece) (rest ++ f ∷ []) (so_far message piece)
passed-closes id f None None piece rest left e order sized room =
    subst (λ z. Closes id (length piece) (z ++ f ∷ []) piece) (sym left) (lone-closes id f piece e (ltb-true 0 (length piece) sized))
passed-closes id f None (Some total) piece rest left e order sized room =
    subst (λ z. Closes id total (z ++ f ∷ []) piece) (sym left) (first-closes id total f piece e sized room)
passed-closes id f (Some begun) None piece rest left e order sized room = data-closes id rest begun f piece left e room
passed-closes id f (Some begun) (Some total) piece rest left e order sized room = absurd cc

Accepted-more : (joiner : Joiner) (fragments messages : List (List ℕ)) (f : List ℕ) (fragment : Fragment) → Accepted fragments messages joiner → Passes joiner f fragment → Accepted (fragments ++ f ∷ []) (messages ++ given (put joiner fragment).0) (put joiner fragment).1
unfolding put
Accepted-more joiner fragments messages f fragment taken passes =
    let id = fragment.header.channel in
    let stands = Stands-at id taken.channel fragments messages taken.rest joiner.channel joiner.message taken.whole taken.left taken.known passes.channel in
    Accepted-reached id _ fragments messages stands.rest f _ stands.whole
    (passed-closes id f joiner.message fragment.header.total fragment.piece stands.rest stands.left passes.says passes.order passes.sized passes.room)

-- ---- a turn

-- the fragments that are accepted, and nothing behind them
Joined-all : (fragments messages : List (List ℕ)) (joiner : Joiner) → Accepted fragments messages joiner → Joined fragments messages joiner
Joined-all fragments messages joiner taken = record { accepted = fragments; behind = []; cut = sym (append-nil fragments); before = joiner; taken = taken; ends = refl }

-- a turn on what a fragment is judged to be
Joined-judged : (fragments messages : List (List ℕ)) (joiner : Joiner) (f : List ℕ) (judged : Result Fragment Refusal) → Accepted fragments messages joiner → passed joiner f ≡ judged
    → Joined (fragments ++ f ∷ []) (messages ++ (turn joiner f).0) (turn joiner f).1
unfolding turn_of
Joined-judged fragments messages joiner f (Ok fragment) taken e =
    let now : turn joiner f ≡ turn_of (Ok (put joiner fragment)) = ap turn_of (step-passed joiner f fragment e) in
    subst (λ (z : List (List ℕ) × Joiner). Joined (fragments ++ f ∷ []) (messages ++ z.0) z.1) (sym now)
    (Joined-all _ _ _ (Accepted-more joiner fragments messages f fragment taken (passed-ok joiner f fragment e)))
Joined-judged fragments messages joiner f (Err r) taken e =
    let now : turn joiner f ≡ turn_of (Err r) = ap turn_of (step-refused joiner f r e) in
    subst (λ (z : List (List ℕ) × Joiner). Joined (fragments ++ f ∷ []) (messages ++ z.0) z.1) (sym now) (record {
      accepted = fragments;
      behind = f ∷ [];
      cut = refl;
      before = joiner;
      taken = subst (λ z. Accepted fragments z joiner) (sym (append-nil messages)) taken;
      ends = (r, e, refl);
    })

-- a refusal is kept
pub turn-kept : (f : List ℕ) (r : Refusal) → turn (refused r) f ≡ ([], refused r)
unfolding turn_of
turn-kept f r = ap turn_of (step-refused (refused r) f r (passed-kept (refused r) f r refl))

Joined-behind : (accepted behind messages : List (List ℕ)) (before joiner : Joiner) (f : List ℕ) → Accepted accepted messages before → EndsBehind before behind joiner
    → Joined ((accepted ++ behind) ++ f ∷ []) (messages ++ (turn joiner f).0) (turn joiner f).1
Joined-behind accepted [] messages before joiner f taken ends =
    subst (λ z. Joined ((accepted ++ []) ++ f ∷ []) (messages ++ (turn z f).0) (turn z f).1) (sym ends)
    (subst (λ z. Joined (z ++ f ∷ []) (messages ++ (turn before f).0) (turn before f).1) (sym (append-nil accepted)) (Joined-judged accepted messages before f _ taken refl))
Joined-behind accepted (bad ∷ others) messages before joiner f taken (r, e, is) =
    let now : turn joiner f ≡ ([], refused r) = ap (λ z. turn z f) is ∙ turn-kept f r in
    subst (λ (z : List (List ℕ) × Joiner). Joined ((accepted ++ (bad ∷ others)) ++ f ∷ []) (messages ++ z.0) z.1) (sym now) (record {
      accepted = accepted;
      behind = bad ∷ (others ++ f ∷ []);
      cut = append_assoc accepted (bad ∷ others) (f ∷ []);
      before = before;
      taken = subst (λ z. Accepted accepted z before) (sym (append-nil messages)) taken;
      ends = (r, e, refl);
    })

-- what was joined of fragments is joined of them and one more
pub joins_turn : (joiner : Joiner) (f : List ℕ) → JoinsOn joiner (turn joiner f).1 f (turn joiner f).0
joins_turn joiner f fragments messages joined =
    subst (λ z. Joined (z ++ f ∷ []) (messages ++ (turn joiner f).0) (turn joiner f).1) (sym joined.cut)
    (Joined-behind joined.accepted joined.behind messages joined.before joiner f joined.taken joined.ends)

-- so it is with what a call gave
pub takes_on : (result : Result (Option (List ℕ)) (Cause Refusal)) (old new : Joiner) (f : List ℕ) → Answers result old new (step old f) → TakesOn result old new f
unfolding turn_of
takes_on (Ok message) old new f e =
    let now : turn old f ≡ (given message, new) = ap turn_of e in
    subst (λ (z : List (List ℕ) × Joiner). JoinsOn old z.1 f z.0) now (joins_turn old f)
takes_on (Err Memory) old new f e = tt
takes_on (Err (Refused r)) old new f (e, is) =
    let now : turn old f ≡ ([], new) = ap turn_of e ∙ ap (λ z. ([], z)) (sym is) in
    subst (λ (z : List (List ℕ) × Joiner). JoinsOn old z.1 f z.0) now (joins_turn old f)

-- ---- from the start

pub joined_none : Joined [] [] fresh
joined_none = Joined-all [] [] fresh (record { channel = 0; rest = []; whole = refl; left = refl; known = refl; clear = refl })

joins_all : (fragments before messages : List (List ℕ)) (joiner : Joiner) → Joined before messages joiner → Joined (before ++ fragments) (messages ++ messages_of joiner fragments) (joiner_after joiner fragments)
joins_all [] before messages joiner joined = subst (λ z. Joined z (messages ++ []) joiner) (sym (append-nil before)) (subst (λ z. Joined before z joiner) (sym (append-nil messages)) joined)
joins_all (f ∷ fragments) before messages joiner joined =
    let more = joins_all fragments (before ++ f ∷ []) (messages ++ (turn joiner f).0) (turn joiner f).1 (joins_turn joiner f before messages joined) in
    let last = joiner_after (turn joiner f).1 fragments in
    let given_all = messages_of (turn joiner f).1 fragments in
    subst (λ z. Joined z (messages ++ ((turn joiner f).0 ++ given_all)) last) (append_assoc before (f ∷ []) fragments)
    (subst (λ z. Joined ((before ++ f ∷ []) ++ fragments) z last) (append_assoc messages (turn joiner f).0 given_all) more)

pub steps_join : StepsJoin
steps_join fragments = joins_all fragments [] [] fresh joined_none
