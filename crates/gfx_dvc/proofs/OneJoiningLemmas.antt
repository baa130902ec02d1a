-- Fragments have one joining: that which steps give.
use Rattle.std.proofs.Common.{◌≡◌, ℕ, ◌<◌, true, List, [], ◌∷◌, ◌++◌, length, Option, Some, None, refl, sym, ap, ◌∙◌, subst, append_assoc, length-append, arith}
use Rattle.std.proofs.lemmas.List.{append-nil}
use Rattle.std.specs.List.{concat}
use Rattle.gfx_base.specs.declared.refusal.Refusal.{Refusal}
use Rattle.gfx_dvc.specs.declared.open.Open.{Open}
use Rattle.gfx_dvc.specs.Joining.{Joiner, fresh, idle, opened, refused, is_length, turn_of, turn, messages_of, joiner_after}
use Rattle.gfx_dvc.specs.Joined.{Gathers, Ended, IsOpen, IsLeft, known_in, Accepted, EndsBehind}
use Rattle.gfx_dvc.specs.Laws.{Leads, OneJoining, CuttingJoins}
use Rattle.gfx_dvc.proofs.PassedLemmas.{step-refused}
use Rattle.gfx_dvc.proofs.LeadLemmas.{Leads-none, Leads-then, closed_by, IsKnownAs, first_said, message-lead, first-open, open-lead}
use Rattle.gfx_dvc.proofs.JoinedLemmas.{said_nothing, IsOpen-some, turn-kept}

-- the id that is known behind messages
abbrev known_after : ℕ → Option ℕ → List (List ℕ) → Option ℕ
known_after channel known [] = known
known_after channel known (message ∷ messages) = Some channel

known_after-some : (channel : ℕ) (messages : List (List ℕ)) → known_after channel (Some channel) messages ≡ Some channel
known_after-some channel [] = refl
known_after-some channel (message ∷ messages) = refl

same-known : (channel : ℕ) → IsKnownAs channel (Some channel)
same-known channel other e = let same : channel ≡ other = cc in sym same

none-known : (channel : ℕ) → IsKnownAs channel None
none-known channel other e = absurd cc

-- all messages, one after another
ended-lead : (channel : ℕ) (known : Option ℕ) (fragments messages rest behind : List (List ℕ)) → IsKnownAs channel known → Ended channel fragments messages rest → Leads (closed_by known) (fragments ++ behind) messages (closed_by (known_after channel known messages)) (rest ++ behind)
ended-lead channel known fragments [] rest behind h e = subst (λ z. Leads (closed_by known) (z ++ behind) [] (closed_by known) (rest ++ behind)) (sym e) (Leads-none (closed_by known) (rest ++ behind))
ended-lead channel known fragments (m ∷ messages) rest behind h (own, after, cut, is, others) =
    let first = message-lead channel known own m (after ++ behind) h is in
    let last = ended-lead channel (Some channel) after messages rest behind (same-known channel) others in
    let end = subst (λ z. Leads (idle channel) (after ++ behind) messages (closed_by z) (rest ++ behind)) (known_after-some channel messages) last in
    subst (λ z. Leads (closed_by known) z (m ∷ messages) (idle channel) (rest ++ behind)) (sym (ap (λ z. z ++ behind) cut ∙ append_assoc own after behind))
    (Leads-then (closed_by known) (idle channel) (idle channel) (own ++ (after ++ behind)) (after ++ behind) (rest ++ behind) (m ∷ []) messages first end)

-- the fragments of a message that stays open
begun-lead : (channel : ℕ) (known : Option ℕ) (own : List (List ℕ)) (begun : Open) (first : List ℕ) (others behind : List (List ℕ)) → IsKnownAs channel known → Gathers channel begun.total own first others begun.bytes → is_length begun.total ≡ true → length begun.bytes < begun.total → Leads (closed_by known) (own ++ behind) [] (opened channel begun.total begun.bytes) behind
begun-lead channel known [] begun first others behind h gathers fits less = let says = gathers.says in absurd cc
begun-lead channel known (f ∷ fs) begun first others behind h gathers fits less =
    let says = first_said _ _ _ _ gathers.says in
    let short : length first < begun.total = omega (arith, ap length gathers.gathered, length-append first (concat others), less) in
    Leads-then _ (opened channel begun.total first) _ (f ∷ (fs ++ behind)) (fs ++ behind) behind [] []
    (first-open channel begun.total known f first (fs ++ behind) h says.0 fits short)
    (open-lead channel begun.total others fs first begun.bytes behind says.1 gathers.gathered less)

-- ---- the id that is known

known_some : (channel : ℕ) (fragments xs ys : List (List ℕ)) → fragments ≡ xs ++ ys → (xs ≡ [] → ⊥) → known_in channel fragments ≡ Some channel
known_some channel fragments [] ys e some = absurd (some refl)
known_some channel fragments (x ∷ xs) ys e some = ap (known_in channel) e

known-closed : (channel : ℕ) (fragments messages rest : List (List ℕ)) → Ended channel fragments messages rest → rest ≡ [] → known_in channel fragments ≡ known_after channel None messages
known-closed channel fragments [] rest e none = ap (known_in channel) (e ∙ none)
known-closed channel fragments (m ∷ messages) rest (own, after, cut, is, others) none = known_some channel fragments own after cut (λ e. said_nothing channel own m e is)

known-open : (channel : ℕ) (fragments messages rest : List (List ℕ)) (begun : Open) → Ended channel fragments messages rest → IsOpen channel rest begun → known_in channel fragments ≡ Some channel
known-open channel fragments [] rest begun e is =
    known_some channel fragments rest [] (e ∙ sym (append-nil rest)) (λ none. IsOpen-some channel begun (subst (λ z. IsOpen channel z begun) none is))
known-open channel fragments (m ∷ messages) rest begun (own, after, cut, is, others) left = known_some channel fragments own after cut (λ e. said_nothing channel own m e is)

-- ---- all that were accepted

left-lead : (channel : ℕ) (fragments messages rest behind : List (List ℕ)) (message : Option Open) → Ended channel fragments messages rest → IsLeft channel rest message → Leads fresh (fragments ++ behind) messages (record { channel = known_in channel fragments; message = message; refusal = None }) behind
left-lead channel fragments messages rest behind None whole left =
    let lead = ended-lead channel None fragments messages rest behind (none-known channel) whole in
    subst (λ z. Leads fresh (fragments ++ behind) messages (closed_by z) behind) (sym (known-closed channel fragments messages rest whole left))
    (subst (λ z. Leads fresh (fragments ++ behind) messages (closed_by (known_after channel None messages)) (z ++ behind)) left lead)
left-lead channel fragments messages rest behind (Some begun) whole left =
    let lead = ended-lead channel None fragments messages rest behind (none-known channel) whole in
    let end = begun-lead channel (known_after channel None messages) rest begun left.first left.others behind (after-known channel messages) left.gathers left.fits left.less in
    let both = Leads-then fresh (closed_by (known_after channel None messages)) (opened channel begun.total begun.bytes) (fragments ++ behind) (rest ++ behind) behind messages [] lead end in
    subst (λ z. Leads fresh (fragments ++ behind) messages (record { channel = z; message = Some begun; refusal = None }) behind) (sym (known-open channel fragments messages rest begun whole left))
    (subst (λ z. Leads fresh (fragments ++ behind) z (opened channel begun.total begun.bytes) behind) (append-nil messages) both)
  where
    after-known : (channel : ℕ) (messages : List (List ℕ)) → IsKnownAs channel (known_after channel None messages)
    after-known channel [] = none-known channel
    after-known channel (m ∷ messages) = same-known channel

before-is : (known : Option ℕ) (joiner : Joiner) → joiner.channel ≡ known → joiner.refusal ≡ None → record { channel = known; message = joiner.message; refusal = None } ≡ joiner
before-is known joiner e clear =
    ap (λ z. record { channel = z; message = joiner.message; refusal = None }) (sym e)
    ∙ ap (λ z. record { channel = joiner.channel; message = joiner.message; refusal = z }) (sym clear)

accepted-lead : (fragments messages behind : List (List ℕ)) (joiner : Joiner) → Accepted fragments messages joiner → Leads fresh (fragments ++ behind) messages joiner behind
accepted-lead fragments messages behind joiner taken =
    subst (λ z. Leads fresh (fragments ++ behind) messages z behind) (before-is (known_in taken.channel fragments) joiner taken.known taken.clear)
    (left-lead taken.channel fragments messages taken.rest behind joiner.message taken.whole taken.left)

-- ---- what is behind them

-- the one joining of some fragments from a joiner
abbrev IsAll : Joiner → List (List ℕ) → List (List ℕ) → Joiner → Type 0
IsAll before fragments messages joiner = (messages_of before fragments ≡ messages) × (joiner_after before fragments ≡ joiner)

all-kept : (others : List (List ℕ)) (r : Refusal) → IsAll (refused r) others [] (refused r)
all-kept [] r = (refl, refl)
all-kept (f ∷ others) r =
    let now = turn-kept f r in
    let rest = all-kept others r in
    (ap (λ (z : List (List ℕ) × Joiner). z.0 ++ messages_of z.1 others) now ∙ rest.0, ap (λ (z : List (List ℕ) × Joiner). joiner_after z.1 others) now ∙ rest.1)

all-behind : (before joiner : Joiner) (behind : List (List ℕ)) → EndsBehind before behind joiner → IsAll before behind [] joiner
unfolding turn_of
all-behind before joiner [] ends = (refl, sym ends)
all-behind before joiner (bad ∷ others) (r, e, is) =
    let now : turn before bad ≡ ([], refused r) = ap turn_of (step-refused before bad r e) in
    let rest = all-kept others r in
    (ap (λ (z : List (List ℕ) × Joiner). z.0 ++ messages_of z.1 others) now ∙ rest.0, ap (λ (z : List (List ℕ) × Joiner). joiner_after z.1 others) now ∙ rest.1 ∙ sym is)

pub one_joining : OneJoining
one_joining fragments messages joiner joined =
    let lead = accepted-lead joined.accepted messages joined.behind joined.before joined.taken in
    let end = all-behind joined.before joiner joined.behind joined.ends in (
      ap (messages_of fresh) joined.cut ∙ lead.messages_are ∙ ap (λ z. messages ++ z) end.0 ∙ append-nil messages,
      ap (joiner_after fresh) joined.cut ∙ lead.joiner_is ∙ end.1,
    )

-- a message's own fragments are joined to it
pub cutting_joins : CuttingJoins
cutting_joins channel own message is =
    let all = sym (append-nil own) in
    record {
      accepted = own;
      behind = [];
      cut = all;
      before = idle channel;
      taken = record {
        channel = channel;
        rest = [];
        whole = (own, [], all, is, refl);
        left = refl;
        clear = refl;
        known = sym (known_some channel own own [] all (λ e. said_nothing channel own message e is));
      };
      ends = refl;
    }
