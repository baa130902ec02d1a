-- `join` of `fragment`, and `join` of whatever fragments.
use Rattle.std.proofs.Common.{◌≡◌, ℕ, ◌+◌, ◌≤◌, false, ◌||◌, List, [], ◌∷◌, ◌++◌, length, Option, Some, None, is_some, refl, sym, ap, ◌∙◌, subst}
use Rattle.std.proofs.lemmas.Bool.{le-leb, cond-true}
use Rattle.std.proofs.lemmas.Grind.{flat_map-append}
use Rattle.std.proofs.lemmas.List.{append-nil}
use Rattle.std.specs.List.{flat_map, AllByRecursion}
use Rattle.gfx_base.specs.declared.refusal.Refusal.{Refusal}
use Rattle.gfx_dvc.specs.Cutting.{recorded_fragment, recorded, fragments_of, IsRecordable}
use Rattle.gfx_dvc.specs.Joining.{Joiner, fresh, idle, turn, messages_of, joiner_after}
use Rattle.gfx_dvc.specs.Joined.{Ended, known_in, Accepted, EndsBehind, Joined}
use Rattle.gfx_dvc.specs.Laws.{IsIdle}
use Rattle.gfx_dvc.specs.declared.profile.TheConstants.{CHANNEL}
use Rattle.gfx_dvc.proofs.CutLemmas.{is_cut}
use Rattle.gfx_dvc.proofs.OneJoiningLemmas.{one_joining}
use Rattle.gfx_dvc.proofs.PassedLemmas.{step-refused}
use Rattle.gfx_dvc.proofs.RecordingLemmas.{recorded_is_whole}
use Rattle.gfx_dvc.specs.Recording as recording
use Rattle.gfx_segment.specs.Framing as framing
use Rattle.gfx_segment.specs.Framing.{prefixed}
use Rattle.gfx_segment.proofs.ReadBackLemmas.{front-prefixed}
use Rattle.gfx_fragments.specs.Cut.{is_one, next_message, next_fragment, cut_of, Cuts}
use Rattle.gfx_fragments.specs.Due.{Due, counted, last_of, ending_of, due_in}
use Rattle.gfx_fragments.specs.Found.{Found, first_of, left_open, wrong_in, passed_by, fragmented_of, fragmented, fragments_due, joined_of, joined, ended}
use Rattle.gfx_fragments.specs.Laws.{IsMessage, stream_of, whole_due, StreamComesBack, WritesEach, recording_of, WritesJoined, NamesRefused, AnyCutting}
use Rattle.gfx_fragments.specs.declared.ended.Ended.TheVariants.{Refused}
use Rattle.gfx_fragments.proofs.CutLemmas.{cut-is}
use Rattle.gfx_fragments.proofs.EndLemmas.{within-found}
use Rattle.gfx_fragments.proofs.FoundLemmas.{fragmented-is, joined-is, passed-all, passed-to, turn-not}
use Rattle.gfx_fragments.proofs.FrontLemmas.{message-is, messages_lawful, fragment-is, fragments_lawful}

-- a stream, and a recording, cut into what they were put together of ----------------------------------------------

stream-cuts : (messages : List (List ℕ)) → AllByRecursion IsMessage messages → Cuts next_message (stream_of messages) messages []
stream-cuts [] all = refl
stream-cuts (m ∷ messages) (is, all) =
    let whole = front-prefixed m (stream_of messages) (record { some = is.0; most = is.1 }) in
    (stream_of messages, message-is (prefixed m ++ stream_of messages) (framing.Whole m (stream_of messages)) whole, stream-cuts messages all)

stream-found : (messages : List (List ℕ)) → AllByRecursion IsMessage messages → fragmented (stream_of messages) ≡ fragmented_of (cut_of messages [])
stream-found messages all = fragmented-is (stream_of messages) (cut_of messages []) (cut-is next_message messages_lawful (stream_of messages) messages [] (stream-cuts messages all) (ap is_one messages_lawful.none))

recording-cuts : (fragments : List (List ℕ)) → AllByRecursion IsRecordable fragments → Cuts next_fragment (recording_of fragments) fragments []
recording-cuts [] all = refl
recording-cuts (f ∷ fragments) (is, all) =
    (recording_of fragments, fragment-is (recorded_fragment f ++ recording_of fragments) (recording.Whole f (recording_of fragments)) (recorded_is_whole f (recording_of fragments) is), recording-cuts fragments all)

recording-found : (fragments : List (List ℕ)) → AllByRecursion IsRecordable fragments → joined (recording_of fragments) ≡ joined_of (cut_of fragments [])
recording-found fragments all = joined-is (recording_of fragments) (cut_of fragments []) (cut-is next_fragment fragments_lawful (recording_of fragments) fragments [] (recording-cuts fragments all) (ap is_one fragments_lawful.none))

-- what is due of an input that is taken whole ---------------------------------------------------------------------

whole-is : (find : List ℕ → Found) (limit : ℕ) (bytes text : List ℕ) → length bytes ≤ limit → (find bytes).text ≡ text → (find bytes).refusal ≡ None → (find bytes).is_open ≡ false → due_in find limit bytes ≡ whole_due text
whole-is find limit bytes text within is none closed =
    let found = within-found find limit bytes within in
    let refusal : (ended (find bytes)).refusal ≡ None = ap (λ z. first_of z (left_open (find bytes).is_open)) none ∙ ap left_open closed in
    ap (λ (z : Found). let due : Due = record { text = z.text; ending = ending_of z.refusal z.count (last_of limit bytes) } in due) found
    ∙ ap (λ z. let due : Due = record { text = (find bytes).text; ending = ending_of z (find bytes).count (last_of limit bytes) } in due) refusal
    ∙ ap (λ z. let due : Due = record { text = (find bytes).text; ending = z } in due) (cond-true _ _ _ (le-leb (length bytes) limit within))
    ∙ ap whole_due is

-- whatever the fragments --------------------------------------------------------------------------------------------

first-alone : (r : Option Refusal) → first_of r None ≡ r
first-alone None = refl
first-alone (Some r) = refl

pub writes_joined : WritesJoined
writes_joined fragments messages joiner all joined_are =
    let one = one_joining fragments messages joiner joined_are in
    let found = recording-found fragments all in (
      ap (λ (z : Found). z.text) found ∙ ap (flat_map prefixed) one.0,
      ap (λ (z : Found). z.refusal) found
          ∙ ap (λ (z : Joiner). first_of z.refusal (wrong_in (next_fragment []))) one.1
          ∙ ap (λ z. first_of joiner.refusal (wrong_in z)) fragments_lawful.none
          ∙ first-alone joiner.refusal,
    )

-- those that were accepted are joined to the joiner behind them
accepted-joined : (accepted messages : List (List ℕ)) (before : Joiner) → Accepted accepted messages before → joiner_after fresh accepted ≡ before
accepted-joined accepted messages before taken =
    let joins : Joined accepted messages before = record { accepted = accepted; behind = []; cut = sym (append-nil accepted); before = before; taken = taken; ends = refl } in
    (one_joining accepted messages before joins).1

-- and what is refused behind them is passed by no more
counts-accepted : (fragments messages accepted behind : List (List ℕ)) (joiner before : Joiner) → fragments ≡ accepted ++ behind → Accepted accepted messages before
    → EndsBehind before behind joiner → passed_by fresh fragments ≡ accepted
counts-accepted fragments messages accepted [] joiner before cut taken ends =
    let all : fragments ≡ accepted = cut ∙ append-nil accepted in
    let clear : (joiner_after fresh accepted).refusal ≡ None = ap (λ (z : Joiner). z.refusal) (accepted-joined accepted messages before taken) ∙ taken.clear in
    ap (passed_by fresh) all ∙ passed-all fresh accepted clear
counts-accepted fragments messages accepted (bad ∷ others) joiner before cut taken (r, bad_is, is) =
    let at = accepted-joined accepted messages before taken in
    let clear : (joiner_after fresh accepted).refusal ≡ None = ap (λ (z : Joiner). z.refusal) at ∙ taken.clear in
    let now : (turn (joiner_after fresh accepted) bad).1.refusal ≡ Some r = ap (λ (z : Joiner). (turn z bad).1.refusal) at ∙ ap (λ (z : List (List ℕ) × Joiner). z.1.refusal) (turn-not before bad r (step-refused before bad r bad_is)) in
    ap (passed_by fresh) cut ∙ passed-to fresh accepted bad others r clear now

-- what is due of an input that is refused
refused-is : (find : List ℕ → Found) (limit : ℕ) (bytes text : List ℕ) (count : ℕ) (r : Refusal) → length bytes ≤ limit → (find bytes).text ≡ text → (find bytes).refusal ≡ Some r → (find bytes).count ≡ count
    → due_in find limit bytes ≡ record { text = text; ending = Refused (counted (count + 1)) r }
refused-is find limit bytes text count r within is refused counts =
    let found = within-found find limit bytes within in
    let refusal : (ended (find bytes)).refusal ≡ Some r = ap (λ z. first_of z (left_open (find bytes).is_open)) refused in
    ap (λ (z : Found). let due : Due = record { text = z.text; ending = ending_of z.refusal z.count (last_of limit bytes) } in due) found
    ∙ ap (λ z. let due : Due = record { text = (find bytes).text; ending = ending_of z (find bytes).count (last_of limit bytes) } in due) refusal
    ∙ (λ i. record { text = is i; ending = Refused (counted (counts i + 1)) r })

pub names_refused : NamesRefused
names_refused limit fragments messages joiner r all joining kept within =
    let w = writes_joined fragments messages joiner all joining in
    let count : passed_by fresh fragments ≡ joining.accepted = counts-accepted fragments messages joining.accepted joining.behind joiner joining.before joining.cut joining.taken joining.ends in
    refused-is joined limit (recording_of fragments) (stream_of messages) (length joining.accepted) r within w.0 (w.1 ∙ kept)
    (ap (λ (z : Found). z.count) (recording-found fragments all) ∙ ap length count)

-- the joiner behind messages that are whole
abbrev closed : ℕ → List (List ℕ) → Joiner
closed channel fragments = record { channel = known_in channel fragments; message = None; refusal = None }

closed-joined : (channel : ℕ) (fragments messages : List (List ℕ)) → Ended channel fragments messages [] → Joined fragments messages (closed channel fragments)
closed-joined channel fragments messages whole = record {
  accepted = fragments;
  behind = [];
  cut = sym (append-nil fragments);
  before = closed channel fragments;
  taken = record { channel = channel; rest = []; whole = whole; left = refl; known = refl; clear = refl };
  ends = refl;
}

pub any_cutting : AnyCutting
any_cutting limit channel fragments messages all whole within =
    let w = writes_joined fragments messages (closed channel fragments) all (closed-joined channel fragments messages whole) in
    let one = one_joining fragments messages (closed channel fragments) (closed-joined channel fragments messages whole) in
    let found = recording-found fragments all in
    whole-is joined limit (recording_of fragments) (stream_of messages) within w.0 w.1 (ap (λ (z : Found). z.is_open) found ∙ ap (λ (z : Joiner). is_some z.message || false) one.1)

-- what the writer made ----------------------------------------------------------------------------------------------

pub writes_each : WritesEach
writes_each messages all = ap (λ (z : Found). z.text) (stream-found messages all)

-- the fragments of all messages
abbrev all_fragments : List (List ℕ) → List (List ℕ)
all_fragments messages = flat_map fragments_of messages

recorded-all : (messages : List (List ℕ)) → flat_map recorded messages ≡ recording_of (all_fragments messages)
unfolding recorded
recorded-all [] = refl
recorded-all (m ∷ messages) = ap (λ z. recorded m ++ z) (recorded-all messages) ∙ sym (flat_map-append recorded_fragment (fragments_of m) (all_fragments messages))

all-both : (xs ys : List (List ℕ)) → AllByRecursion IsRecordable xs → AllByRecursion IsRecordable ys → AllByRecursion IsRecordable (xs ++ ys)
all-both [] ys all others = others
all-both (x ∷ xs) ys (is, all) others = (is, all-both xs ys all others)

fragments-fit : (messages : List (List ℕ)) → AllByRecursion IsMessage messages → AllByRecursion IsRecordable (all_fragments messages)
fragments-fit [] all = tt
fragments-fit (m ∷ messages) (is, all) = all-both (fragments_of m) (all_fragments messages) (is_cut m is.0 is.1).fit (fragments-fit messages all)

-- the messages that they are joined to, and no more is open
record Gives (joiner : Joiner) (messages : List (List ℕ)) : Type 0 where
  messages_are : messages_of joiner (all_fragments messages) ≡ messages
  idles : IsIdle CHANNEL (joiner_after joiner (all_fragments messages))

idle-idles : IsIdle CHANNEL (idle CHANNEL)
idle-idles = record { closed = refl; clear = refl; known = λ other e. (let same : CHANNEL ≡ other = cc in sym same) }

fresh-idles : IsIdle CHANNEL fresh
fresh-idles = record { closed = refl; clear = refl; known = λ other e. absurd cc }

gives : (joiner : Joiner) (messages : List (List ℕ)) → IsIdle CHANNEL joiner → AllByRecursion IsMessage messages → Gives joiner messages
gives joiner [] is all = record { messages_are = refl; idles = is }
gives joiner (m ∷ messages) is (fits, all) =
    let lead = (is_cut m fits.0 fits.1).joins joiner (all_fragments messages) is in
    let rest = gives (idle CHANNEL) messages idle-idles all in
    record {
      messages_are = lead.messages_are ∙ ap (λ z. m ∷ z) rest.messages_are;
      idles = subst (IsIdle CHANNEL) (sym lead.joiner_is) rest.idles;
    }

-- join of fragment --------------------------------------------------------------------------------------------------

pub comes_back : StreamComesBack
comes_back limit messages all within fits =
    let stream = stream-found messages all in
    let fragments = all_fragments messages in
    let text : fragments_due (stream_of messages) ≡ recording_of fragments = writes_each messages all ∙ recorded-all messages in
    let found : joined (fragments_due (stream_of messages)) ≡ joined_of (cut_of fragments []) = ap joined text ∙ recording-found fragments (fragments-fit messages all) in
    let g = gives fresh messages fresh-idles all in
    record {
      cut = whole-is fragmented limit (stream_of messages) (fragments_due (stream_of messages)) within refl (ap (λ (z : Found). z.refusal) stream ∙ ap wrong_in messages_lawful.none) (ap (λ (z : Found). z.is_open) stream);
      joined = whole-is joined limit (fragments_due (stream_of messages)) (stream_of messages) fits
          (ap (λ (z : Found). z.text) found ∙ ap (flat_map prefixed) g.messages_are)
          (ap (λ (z : Found). z.refusal) found ∙ ap (λ z. first_of z (wrong_in (next_fragment []))) g.idles.clear ∙ ap wrong_in fragments_lawful.none)
          (ap (λ (z : Found). z.is_open) found ∙ ap (λ z. is_some z || false) g.idles.closed);
    }
