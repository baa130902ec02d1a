-- What playing the session of a script comes to, turn by turn, and the lines of its acknowledged frames.
use Rattle.std.proofs.Common.{◌≡◌, ℕ, ◌+◌, ◌≤◌, ◌<◌, zero, suc, List, [], ◌∷◌, ◌++◌, length, map, take, drop, get_or, Option, Some, None, Result, Ok, Err, refl, sym, ap, ◌∙◌, subst, arith, inl, inr}
use Rattle.std.specs.Prelude.{OnOk}
use Rattle.std.specs.List.{AllByRecursion, slice_get, flat_map}
use Rattle.std.proofs.lemmas.Bool.{cases_lt}
use Rattle.std.proofs.lemmas.List.{take_more, take_all, drop_more}
use Rattle.std.proofs.lemmas.List.Concat.{flat_map-cons}
use Rattle.std.proofs.lemmas.List.Folds.{flat_map-map}
use Rattle.std.proofs.lemmas.Option.{slice_get_within, get_or_from_slice_get, slice_get-get_or}
use Rattle.gfx_base.specs.declared.answer.NoMemory.{NoMemory}
use Rattle.gfx_base.specs.Stream.{Change, change, Gains, FailsAfter}
use Rattle.gfx_base.proofs.Streams.{Sent}
use Rattle.gfx_chooser.specs.Choosing.{Chooser, AreAlike}
use Rattle.gfx_chooser.specs.Kinded.{Asks, kinded_steps, left_of}
use Rattle.gfx_chooser.proofs.Asking.{kinded_fit, asks_none, asks_on}
use Rattle.gfx_input.specs.Reading.{input_of}
use Rattle.gfx_report.proofs.Writing.{Sent_as, Sent_front, Sent_broken}
use Rattle.gfx_schedule.specs.Schedule.{rounds_for}
use Rattle.gfx_schedule.specs.Starts.{MayBegin, Start, from_nothing}
use Rattle.gfx_schedule.specs.World.{Acknowledged, World, begin, begin_from, world_from, drained}
use Rattle.gfx_schedule.proofs.Turns.{may_begin}
use Rattle.gfx_schedule.specs.declared.turned.Turned.{Turned}
use Rattle.gfx_script.specs.Kinds.{KindedStep, Fits}
use Rattle.gfx_script.specs.Scripted.{Script}
use Rattle.gfx_script.specs.declared.turn.Turn.{Turn}
use Rattle.gfx_script.specs.Script.{IsAccepted}
use Rattle.gfx_session.specs.Session.{Stands, StandsBy, IsSession, Turns, Drains, acked_of, digests_of, script_of}
use Rattle.gfx_session.proofs.ChosenKinds.{IsUnderWayBy, by_choosers}
use Rattle.gfx_session.specs.declared.acked.Acked.{Acked}
use Rattle.gfx_session.specs.declared.digests.Digests.TheVariants.{On}
use Rattle.gfx_session.specs.declared.session.Session.{Session}
use Rattle.gfxpipe.specs.declared.ending.Ending.{Ending}
use Rattle.gfxpipe.specs.declared.ending.Ending.TheVariants.{Done}
use Rattle.gfxpipe.specs.declared.trouble.Trouble.{Trouble}
use Rattle.gfxpipe.specs.declared.trouble.Trouble.TheVariants as trouble
use Rattle.gfxpipe.specs.Did.{WritesNothing}
use Rattle.gfxpipe.specs.Due.{from_scratch_or, scratch_in}
use Rattle.gfxpipe.specs.Leaves.{LeavesSession}
use Rattle.gfxpipe.specs.Rule.{DidAll, Input}
use Rattle.gfxpipe.specs.Rules.{playing, playing_by, script_input}
use Rattle.gfxpipe.specs.Scripts.{ReadsFrom, ReadsScript}
use Rattle.gfxpipe.specs.Sessions.{AnswersOf, Beginning, HasAllDigests, HasDigests, HasPlayed, IsBegun, IsWhole, PlaysOut, ack_text, beginning, whole_session, session_text, acked_line}
use Rattle.gfxpipe.proofs.Planning.{asked_all}
use Rattle.gfxpipe.proofs.ReadingScripts.{ends_none, ends_written, ends_broken, found_never_done}

-- turn by turn ------------------------------------------------------------------------------------------

-- a session has taken so many turns of its script, whatever it began with
pub record Turning (old : Session) (begun left : List Chooser) (at : ℕ) (session : Session) : Type 0 where
  pub is : IsSession session
  pub same : script_of session ≡ script_of old
  pub within : at ≤ length (script_of old).turns
  pub stands : (start : Start) → IsBegun old start
      → StandsBy session left (script_of old) (world_from start (script_of old) (kinded_steps (script_of old) begun) (take at (script_of old).turns))
  pub asks : Asks (script_of old) 0 session.server.last begun left
  pub digests : digests_of session ≡ digests_of old

-- none yet
pub turning_none : (session : Session) (choosers : List Chooser) → IsSession session → session.server.last ≡ 0 → Turning session choosers choosers 0 session
turning_none session choosers is none = record {
  is = is;
  same = refl;
  within = omega arith;
  stands = λ start b. record {
    stands = b.stands (kinded_steps (script_of session) choosers) (kinded_fit (script_of session) choosers);
    goes_by = refl;
  };
  asks = subst (λ n. Asks (script_of session) 0 n choosers choosers) (sym none) (asks_none (script_of session) 0 choosers);
  digests = refl;
}

-- a further one is taken
turned_as : (start : Start) (script : Script) (begun mid left : List Chooser) (at : ℕ) (old new : Session) (turn : Turn) (turned : Turned) → script_of old ≡ script → MayBegin start script (kinded_steps script begun) → slice_get script.turns at ≡ Some turn
    → Turns (Ok turned) old new mid left turn → StandsBy old mid script (world_from start script (kinded_steps script begun) (take at script.turns))
    → StandsBy new left script (world_from start script (kinded_steps script begun) (take (at + 1) script.turns))
turned_as start script begun mid left at old new turn turned same may found (fresh, kept, asks, goes, digests) stands =
    let kinded = kinded_steps script begun in
    let before : StandsBy old mid (script_of old) (world_from start (script_of old) kinded (take at script.turns)) = subst (λ s. StandsBy old mid s (world_from start s kinded (take at script.turns))) (sym same) stands in
    let may_old : MayBegin start (script_of old) kinded = subst (λ s. MayBegin start s kinded) (sym same) may in
    let after : StandsBy new left (script_of old) (world_from start (script_of old) kinded (take at script.turns ++ turn ∷ [])) = (goes start kinded (take at script.turns) may_old before).0 in
    let there = slice_get_within script.turns at turn found in
    let more : take (at + 1) script.turns ≡ take at script.turns ++ turn ∷ [] =
    take_more script.turns at turn there ∙ ap (λ one. take at script.turns ++ one ∷ []) (get_or_from_slice_get script.turns at turn turn found) in
    subst (λ turns. StandsBy new left script (world_from start script kinded turns)) (sym more) (subst (λ s. StandsBy new left s (world_from start s kinded (take at script.turns ++ turn ∷ []))) same after)

-- a session that begins so may go as any choosers choose
may_by : (old : Session) (start : Start) (begun : List Chooser) → IsBegun old start → MayBegin start (script_of old) (kinded_steps (script_of old) begun)
may_by old start begun b = b.begins (kinded_steps (script_of old) begun) (kinded_fit (script_of old) begun)

-- and so many steps were asked of
asked_on : (script : Script) (begun mid left : List Chooser) (old new : Session) → script_of old ≡ script → Asks script 0 old.server.last begun mid → Asks (script_of old) old.server.last new.server.last mid left
    → Asks script 0 new.server.last begun left
asked_on script begun mid left old new same before asks =
    asks_on script 0 old.server.last new.server.last begun mid left before (subst (λ s. Asks s old.server.last new.server.last mid left) same asks)

pub turning_more : (first : Session) (begun mid left : List Chooser) (at : ℕ) (old new : Session) (turn : Turn) (turned : Turned) → Turning first begun mid at old → slice_get (script_of first).turns at ≡ Some turn
    → Turns (Ok turned) old new mid left turn → IsSession new → Turning first begun left (at + 1) new
turning_more first begun mid left at old new turn turned t found turns is = record {
  is = is;
  same = turns.1 ∙ t.same;
  within = let there = slice_get_within (script_of first).turns at turn found in omega arith;
  stands = λ start b. turned_as start (script_of first) begun mid left at old new turn turned t.same (may_by first start begun b) found turns (t.stands start b);
  asks = asked_on (script_of first) begun mid left old new t.same t.asks turns.2;
  digests = turns.4 ∙ t.digests;
}

-- all are taken
none_left : (turns : List Turn) (at : ℕ) → at ≤ length turns → slice_get turns at ≡ None → at ≡ length turns
none_left [] at within none = omega arith
none_left (turn ∷ turns) at within none =
    elim (cases_lt at (length (turn ∷ turns))) [
      | inl below ↦ (let there = slice_get-get_or (turn ∷ turns) at turn below in absurd cc)
      | inr past ↦ omega arith
    ]

turning_all : (first : Session) (begun left : List Chooser) (at : ℕ) (session : Session) (start : Start) → Turning first begun left at session → slice_get (script_of first).turns at ≡ None → IsBegun first start
    → StandsBy session left (script_of first) (world_from start (script_of first) (kinded_steps (script_of first) begun) (script_of first).turns)
turning_all first begun left at session start t none b =
    subst (λ turns. StandsBy session left (script_of first) (world_from start (script_of first) (kinded_steps (script_of first) begun) turns))
    (take_all at (script_of first).turns (let last = none_left (script_of first).turns at t.within none in omega arith)) (t.stands start b)

-- and the rest is rounds
drained_to : (first : Session) (begun mid left : List Chooser) (at : ℕ) (old new : Session) (start : Start) → Turning first begun mid at old → slice_get (script_of first).turns at ≡ None → Drains (Ok tt) old new mid left → IsBegun first start
    → Stands new (whole_session begun (beginning start (script_of first)))
unfolding whole_session
drained_to first begun mid left at old new start t none (fresh, kept, asks, last, goes, digests) b =
    let script : Script = script_of first in
    let kinded = kinded_steps script begun in
    let before : StandsBy old mid (script_of old) (world_from start (script_of old) kinded script.turns) =
    subst (λ s. StandsBy old mid s (world_from start s kinded script.turns)) (sym t.same) (turning_all first begun mid at old start t none b) in
    let may : MayBegin start (script_of old) kinded = subst (λ s. MayBegin start s kinded) (sym t.same) (may_by first start begun b) in
    subst (λ s. Stands new (drained s (rounds_for s) (world_from start s kinded script.turns))) t.same (goes start kinded script.turns may before).0

-- where its digests are on, each acknowledged frame has both
each_told : (acks : List Acknowledged) → AllByRecursion HasDigests (map (acked_of On) acks)
each_told [] = tt
each_told (ack ∷ acks) = ((refl, refl), each_told acks)

-- of a session that was drained
drained_told : (old new : Session) (mid left : List Chooser) → IsUnderWayBy old mid → Drains (Ok tt) old new mid left → digests_of new ≡ On → HasAllDigests new
drained_told old new mid left u drains on =
    let w : World = drained (script_of old) (rounds_for (script_of old)) (world_from u.origin (script_of old) u.kinded u.turns) in
    let s : Stands new w = (drains.4 u.origin u.kinded u.turns u.begins u.stands).0 in
    record { on = on; acks = subst (AllByRecursion HasDigests) (sym (s.acks ∙ ap (λ d. map (acked_of d) w.acks) on)) (each_told w.acks) }

pub drained_after : (result : Result (Unit {0}) NoMemory) (first : Session) (begun mid left : List Chooser) (at : ℕ) (old new : Session) → Turning first begun mid at old → slice_get (script_of first).turns at ≡ None
    → Drains result old new mid left → OnOk result (HasPlayed first new begun left)
drained_after (Ok done) first begun mid left at old new t none drains =
    let told = drained_told old new mid left (by_choosers old mid (t.is.under_way drains.0)) drains in
    let all : new.server.last ≡ length (script_of first).steps = drains.3 ∙ ap (λ (s : Script). length s.steps) t.same in
    record {
      whole = λ start b. (drains.1 ∙ t.same, drained_to first begun mid left at old new start t none drains b);
      leaves = asked_all (script_of first) begun left new.server.last (omega arith) (asked_on (script_of first) begun mid left old new t.same t.asks drains.2);
      digests = λ on. told (drains.5 ∙ t.digests ∙ on);
    }
drained_after (Err e) first begun mid left at old new t none drains = tt

-- what is printed -----------------------------------------------------------------------------------------

-- the lines of a session that stands for the whole one
lines_are : (b : Beginning) (choosers : List Chooser) (session : Session) → digests_of session ≡ On → Stands session (whole_session choosers b) → flat_map acked_line session.acks ≡ session_text choosers b
unfolding session_text
lines_are b choosers session on s =
    let acks = (whole_session choosers b).acks in
    let kept : session.acks ≡ map (acked_of On) acks = s.acks ∙ ap (λ d. map (acked_of d) acks) on in
    ap (flat_map acked_line) kept ∙ flat_map-map acked_line (acked_of On) acks

-- and so where they were written after a session was played, or were not
pub lines_written : (old new : Session) (choosers left : List Chooser) (o : Change) → digests_of old ≡ On → HasPlayed old new choosers left → Gains o (flat_map acked_line new.acks) → PlaysOut (Ok new) old choosers left o
lines_written old new choosers left o on played gains =
    (played, λ start begun. subst (Gains o) (lines_are (beginning start (script_of old)) choosers new (played.digests on).on (played.whole start begun).1) gains)

pub lines_broken : (old new : Session) (choosers left : List Chooser) (o : Change) → digests_of old ≡ On → HasPlayed old new choosers left → FailsAfter o (flat_map acked_line new.acks) → PlaysOut (Err trouble.Write) old choosers left o
lines_broken old new choosers left o on played fails = λ start begun.
    subst (FailsAfter o) (lines_are (beginning start (script_of old)) choosers new (played.digests on).on (played.whole start begun).1) fails

-- the one at a place has its digests
pub all_at : (acks : List Acked) (at : ℕ) (ack : Acked) → AllByRecursion HasDigests acks → slice_get acks at ≡ Some ack → HasDigests ack
all_at [] at ack all some = absurd cc
all_at (first ∷ others) zero ack all some = let same : first ≡ ack = cc in subst HasDigests same all.0
all_at (first ∷ others) (suc at) ack all some = all_at others at ack all.1 some

pub digests_at : (acks : List Acked) (at : ℕ) (other : Acked) → at < length acks → AllByRecursion HasDigests acks → HasDigests (get_or acks at other)
digests_at acks at other below all = all_at acks at (get_or acks at other) all (slice_get-get_or acks at other below)

-- one more line of them is due
next_due : (acks : List Acked) (at : ℕ) (other : Acked) → at < length acks → flat_map acked_line (drop at acks) ≡ acked_line (get_or acks at other) ++ flat_map acked_line (drop (at + 1) acks)
next_due acks at other below = ap (flat_map acked_line) (drop_more acks at other below) ∙ flat_map-cons acked_line (get_or acks at other) (drop (at + 1) acks)

-- and is written
pub line_sent : (a b d : ℕ) (x y z : Option (List ℕ)) (acks : List Acked) (at : ℕ) (other : Acked) → at < length acks → Sent (change a b x y) (flat_map acked_line acks) (flat_map acked_line (drop at acks))
    → Gains (change b d y z) (acked_line (get_or acks at other)) → Sent (change a d x z) (flat_map acked_line acks) (flat_map acked_line (drop (at + 1) acks))
line_sent a b d x y z acks at other below s gains =
    Sent_front a b d x y z (flat_map acked_line acks) (acked_line (get_or acks at other)) (flat_map acked_line (drop (at + 1) acks)) (Sent_as _ _ _ _ (next_due acks at other below) s) gains

-- or isn't
pub line_broken : (a b d : ℕ) (x y z : Option (List ℕ)) (acks : List Acked) (at : ℕ) (other : Acked) → at < length acks → Sent (change a b x y) (flat_map acked_line acks) (flat_map acked_line (drop at acks))
    → FailsAfter (change b d y z) (acked_line (get_or acks at other)) → FailsAfter (change a d x z) (flat_map acked_line acks)
line_broken a b d x y z acks at other below s fails =
    Sent_broken a b d x y z (flat_map acked_line acks) (acked_line (get_or acks at other)) (flat_map acked_line (drop (at + 1) acks)) (Sent_as _ _ _ _ (next_due acks at other below) s) fails

-- the parts of a command that plays ------------------------------------------------------------------------

-- of a session that was made of a script nothing is queued
pub begun_as : (script : Script) (session : Session) → IsAccepted script → script_of session ≡ script → ((kinded : List KindedStep) → Fits kinded script.steps → Stands session (begin script kinded)) → IsBegun session (from_nothing script)
begun_as script session good same stands = record {
  stands = subst (λ s. (kinded : List KindedStep) → Fits kinded s.steps → Stands session (begin_from (from_nothing script) s kinded)) (sym same) stands;
  begins = subst (λ s. (kinded : List KindedStep) → Fits kinded s.steps → MayBegin (from_nothing script) s kinded) (sym same) (λ kinded fits. may_begin script kinded good fits);
}

-- a session that could not be found is asked nothing of
pub unasked : (t : Trouble) (found : Result Beginning Ending) (choosers : List Chooser) → LeavesSession (Err t) found choosers choosers
unasked t (Ok b) choosers = tt
unasked t (Err ending) choosers = refl

-- nothing was found
no_session : (ending : Ending) (choosers : List Chooser) (found : Result Beginning Ending) → found ≡ Err ending → (ending ≡ Done → ⊥) → AnswersOf found (Ok ending) choosers None
no_session Done choosers found is never = absurd (never refl)
no_session other choosers found is never = refl

pub not_found : (input : Input) (find : ℕ → List ℕ → Result Beginning Ending) (ending : Ending) (choosers : List Chooser) (limit m : ℕ) (i : Change) (held : Option (List ℕ)) → (ending ≡ Done → ⊥) → ReadsFrom input find (Ok (Err ending)) limit i
    → DidAll (Ok ending) None (playing_by input find) input choosers choosers limit i (change m m held held)
not_found input find ending choosers limit m i held never (reads, count, all, is) = (
  (reads, ends_none ending WritesNothing (session_text choosers) m i held (find limit (input_of reads)) count all is),
  no_session ending choosers (find limit (input_of reads)) is never,
  subst (λ z. LeavesSession (Ok ending) z choosers choosers) (sym is) refl,
)

-- no memory was left to begin it, or to play it
pub not_played : (input : Input) (find : ℕ → List ℕ → Result Beginning Ending) (choosers left : List Chooser) (limit : ℕ) (i o : Change) (b : Beginning) → ReadsFrom input find (Ok (Ok b)) limit i → Gains o []
    → DidAll (Err trouble.Memory) None (playing_by input find) input choosers left limit i o
not_played input find choosers left limit i o b (reads, count, all, is) gains =
    ((reads, (count, gains)), refl, subst (λ z. LeavesSession (Err trouble.Memory) z choosers left) (sym is) tt)

-- its lines could not be written
not_told : (input : Input) (find : ℕ → List ℕ → Result Beginning Ending) (choosers left : List Chooser) (limit : ℕ) (i o : Change) (b : Beginning) → ReadsFrom input find (Ok (Ok b)) limit i → FailsAfter o (session_text choosers b)
    → DidAll (Err trouble.Write) None (playing_by input find) input choosers left limit i o
not_told input find choosers left limit i o b (reads, count, all, is) fails = (
  (reads, ends_broken WritesNothing (session_text choosers) i o b (find limit (input_of reads)) count is fails),
  refl,
  subst (λ z. LeavesSession (Err trouble.Write) z choosers left) (sym is) tt,
)

-- it was played to its end, as far as memory and the output allow it
pub played_out : (input : Input) (find : ℕ → List ℕ → Result Beginning Ending) (choosers left : List Chooser) (limit : ℕ) (i o : Change) (start : Start) (script : Script) (session : Session) (t : Trouble) → ReadsFrom input find (Ok (Ok (beginning start script))) limit i
    → script_of session ≡ script → IsBegun session start → PlaysOut (Err t) session choosers left o → DidAll (Err t) None (playing_by input find) input choosers left limit i o
played_out input find choosers left limit i o start script session trouble.Write reads same begun fails =
    not_told input find choosers left limit i o (beginning start script) reads (subst (λ s. FailsAfter o (session_text choosers (beginning start s))) same (fails start begun))
played_out input find choosers left limit i o start script session trouble.Memory reads same begun gains = not_played input find choosers left limit i o (beginning start script) reads gains
played_out input find choosers left limit i o start script session trouble.Read reads same begun never = absurd never

-- its lines were written
pub told : (input : Input) (find : ℕ → List ℕ → Result Beginning Ending) (choosers left : List Chooser) (limit : ℕ) (i o : Change) (start : Start) (script : Script) (session new : Session) → ReadsFrom input find (Ok (Ok (beginning start script))) limit i
    → script_of session ≡ script → IsBegun session start → PlaysOut (Ok new) session choosers left o → DidAll (Ok Done) (Some new) (playing_by input find) input choosers left limit i o
told input find choosers left limit i o start script session new (reads, count, all, is) same begun (played, gains) =
    let b : Beginning = beginning start script in (
      (reads, ends_written WritesNothing (session_text choosers) i o b (find limit (input_of reads)) count all is (subst (λ s. Gains o (session_text choosers (beginning start s))) same (gains start begun))),
      (b, is, subst (λ s. IsWhole (Some new) choosers (beginning start s)) same (played.whole start begun)),
      subst (λ z. LeavesSession (Ok Done) z choosers left) (sym is) (subst (λ s. AreAlike left (left_of s choosers)) same played.leaves),
    )

-- a script that is found is one that is begun from nothing
pub from_script : (found : Result Script Ending) (limit : ℕ) (i : Change) → ReadsScript (Ok found) limit i → ReadsFrom script_input scratch_in (Ok (from_scratch_or found)) limit i
from_script (Ok script) limit i (reads, count, all, is) = (reads, count, all, ap from_scratch_or is)
from_script (Err ending) limit i (reads, count, all, is) = (reads, count, all, ap from_scratch_or is)

-- what was read is no script
pub not_accepted : (ending : Ending) (choosers : List Chooser) (limit m : ℕ) (i : Change) (held : Option (List ℕ)) → ReadsScript (Ok (Err ending)) limit i
    → DidAll (Ok ending) None playing script_input choosers choosers limit i (change m m held held)
not_accepted ending choosers limit m i held reads =
    not_found script_input scratch_in ending choosers limit m i held (λ done. found_never_done limit (input_of reads.0) (reads.3 ∙ ap (λ (z : Ending). Err z) done)) (from_script (Err ending) limit i reads)
