-- What the parts of `trial` come to.
use Rattle.std.proofs.Common.{◌≡◌, ℕ, ◌-◌, List, [], ◌∷◌, length, map, Option, Some, None, Result, Ok, Err, refl, sym, ap, ◌∙◌, subst, arith}
use Rattle.std.specs.List.{slice_get, last_or}
use Rattle.std.specs.Option.{option_map}
use Rattle.std.proofs.lemmas.List.{length-map}
use Rattle.gfx_base.specs.Stream.{Change, change, Gains, FailsAfter, Writes}
use Rattle.gfx_base.proofs.Streams.{Gains_none}
use Rattle.gfx_chooser.specs.Choosing.{Chooser, AreAlike}
use Rattle.gfx_chooser.specs.Kinded.{left_of}
use Rattle.gfx_generator.specs.Script.{script_text}
use Rattle.gfx_report.specs.Texts.{trial_line}
use Rattle.gfx_schedule.specs.Starts.{from_nothing}
use Rattle.gfx_schedule.specs.World.{Acknowledged}
use Rattle.gfx_script.specs.Script.{IsAccepted}
use Rattle.gfx_script.specs.Scripted.{Script}
use Rattle.gfx_script_text.specs.Text.{Wrong, script_of}
use Rattle.gfx_script_text.proofs.Accepted.{accepted}
use Rattle.gfx_session.specs.Session.{Stands, acked_of, digests_of}
use Rattle.gfx_session.specs.Session as sessions
use Rattle.gfx_session.specs.declared.acked.Acked.{Acked}
use Rattle.gfx_session.specs.declared.digests.Digests.TheVariants.{On}
use Rattle.gfx_session.specs.declared.session.Session.{Session}
use Rattle.gfxpipe.specs.declared.ending.Ending.{Ending}
use Rattle.gfxpipe.specs.declared.ending.Ending.TheVariants.{Done}
use Rattle.gfxpipe.specs.declared.trouble.Trouble.TheVariants as trouble
use Rattle.gfxpipe.specs.Did.{EndsUnread, WritesNothing}
use Rattle.gfxpipe.specs.Due.{accepted_or, found_for, from_scratch_or, scripted}
use Rattle.gfxpipe.specs.Leaves.{LeavesSession}
use Rattle.gfxpipe.specs.Scripts.{ReadsText}
use Rattle.gfxpipe.specs.Sessions.{Beginning, HasPlayed, IsBegun, IsWhole, beginning, from_scratch, told_line, whole_session, trial_of, trial_text}
use Rattle.gfxpipe.specs.Trials.{Tries, kept_trial, acks_trial}

-- the last acknowledgement ----------------------------------------------------------------------------------

-- the last of some is the one at the last place
last_at : {X : Type 0} (before : Option X) (x : X) (xs : List X) → slice_get (x ∷ xs) (length xs) ≡ last_or before (x ∷ xs)
last_at before x [] = refl
last_at before x (y ∷ ys) = last_at (Some x) y ys

last_is : {X : Type 0} (xs : List X) → slice_get xs (length xs - 1) ≡ last_or None xs
last_is [] = refl
last_is (x ∷ xs) = let fewer : length (x ∷ xs) - 1 ≡ length xs = omega arith in ap (λ n. slice_get (x ∷ xs) n) fewer ∙ last_at None x xs

-- the last of images is the image of the last
last-map : {X Y : Type 0} (f : X → Y) (before : Option X) (xs : List X) → last_or (option_map f before) (map f xs) ≡ option_map f (last_or before xs)
last-map f before [] = refl
last-map f before (x ∷ xs) = last-map f (Some x) xs

-- the line of what a session keeps is that of what it stands for
kept_line : (number count : ℕ) (last : Option Acknowledged) → kept_trial number count (option_map (acked_of On) last) ≡ trial_of number count last
kept_line number count None = refl
kept_line number count (Some ack) = refl

line_of_all : (number : ℕ) (acks : List Acknowledged) → acks_trial number (map (acked_of On) acks) ≡ trial_of number (length acks) (last_or None acks)
line_of_all number acks =
    ap (λ n. kept_trial number n (last_or None (map (acked_of On) acks))) (length-map acks (acked_of On)) ∙ ap (kept_trial number (length acks)) (last-map (acked_of On) None acks)
    ∙ kept_line number (length acks) (last_or None acks)

line_is : (number : ℕ) (choosers : List Chooser) (b : Beginning) (session : Session) → digests_of session ≡ On → Stands session (whole_session choosers b) → acks_trial number session.acks ≡ trial_text number choosers b
unfolding trial_text
line_is number choosers b session on s =
    let acks = (whole_session choosers b).acks in
    let kept : session.acks ≡ map (acked_of On) acks = s.acks ∙ ap (λ d. map (acked_of d) acks) on in
    ap (acks_trial number) kept ∙ line_of_all number acks

-- where there is one it is the line that was to be written
one_line : (number : ℕ) (acks : List Acked) (ack : Acked) (client server : List ℕ) → slice_get acks (length acks - 1) ≡ Some ack → ack.client ≡ Some client → ack.server ≡ Some server
    → acks_trial number acks ≡ trial_line number (length acks) ack.step client server
one_line number acks ack client server some has_client has_server =
    ap (kept_trial number (length acks)) (sym (last_is acks) ∙ some) ∙ (λ i. told_line (trial_line number (length acks) ack.step) (has_client i) (has_server i))

pub wrote_one : {E : Type 0} (result : Result (Unit {0}) E) (o : Change) (number : ℕ) (acks : List Acked) (ack : Acked) (client server : List ℕ) → slice_get acks (length acks - 1) ≡ Some ack → ack.client ≡ Some client → ack.server ≡ Some server
    → Writes result o (trial_line number (length acks) ack.step client server) → Writes result o (acks_trial number acks)
wrote_one result o number acks ack client server some has_client has_server writes = subst (Writes result o) (sym (one_line number acks ack client server some has_client has_server)) writes

-- the script of a number ------------------------------------------------------------------------------------

-- what its text was found to be
pub found_is : (number : ℕ) (text : List ℕ) (found : Result Script Ending) → text ≡ script_text number → ReadsText (Ok found) text → found_for number ≡ found
found_is number text found same is = ap (λ z. accepted_or (script_of z)) (sym same) ∙ is

-- it is a script only where its text is one
only_script : (found : Result Script Wrong) (script : Script) → accepted_or found ≡ Ok script → found ≡ Ok script
only_script (Ok x) script e = let same : x ≡ script = cc in ap (λ (z : Script). Ok z) same
only_script (Err wrong) script e = cc

pub is_good : (number : ℕ) (script : Script) → found_for number ≡ Ok script → IsAccepted script
is_good number script is = accepted (script_text number) script (only_script (script_of (script_text number)) script is)

-- the parts of `trial` --------------------------------------------------------------------------------------

-- no memory was left to begin its session, or to play it
pub not_played : (number : ℕ) (choosers left : List Chooser) (script : Script) (m : ℕ) (held : Option (List ℕ)) → found_for number ≡ Ok script → Tries (Err trouble.Memory) None number choosers left (change m m held held)
not_played number choosers left script m held is =
    record { ends = Gains_none m held; answers = refl; leaves = subst (λ z. LeavesSession (Err trouble.Memory) z choosers left) (sym (ap from_scratch_or is)) tt }

-- its line could not be written
pub not_told : (number : ℕ) (choosers left : List Chooser) (script : Script) (session new : Session) (o : Change) → digests_of session ≡ On → found_for number ≡ Ok script → sessions.script_of session ≡ script → IsBegun session (from_nothing script)
    → HasPlayed session new choosers left → FailsAfter o (acks_trial number new.acks) → Tries (Err trouble.Write) None number choosers left o
not_told number choosers left script session new o on is same begun played fails =
    let found : from_scratch_or (found_for number) ≡ Ok (from_scratch script) = ap from_scratch_or is in
    let whole : IsWhole (Some new) choosers (from_scratch script) = subst (λ s. IsWhole (Some new) choosers (beginning (from_nothing script) s)) same (played.whole (from_nothing script) begun) in
    record {
      ends = subst (λ z. FailsAfter o (scripted (trial_text number choosers) z).text) (sym found) (subst (FailsAfter o) (line_is number choosers (from_scratch script) new (played.digests on).on whole.1) fails);
      answers = refl;
      leaves = subst (λ z. LeavesSession (Err trouble.Write) z choosers left) (sym found) tt;
    }

-- it was written
pub told : (number : ℕ) (choosers left : List Chooser) (script : Script) (session new : Session) (o : Change) → digests_of session ≡ On → found_for number ≡ Ok script → sessions.script_of session ≡ script → IsBegun session (from_nothing script)
    → HasPlayed session new choosers left → Gains o (acks_trial number new.acks) → Tries (Ok Done) (Some new) number choosers left o
told number choosers left script session new o on is same begun played gains =
    let found : from_scratch_or (found_for number) ≡ Ok (from_scratch script) = ap from_scratch_or is in
    let whole : IsWhole (Some new) choosers (from_scratch script) = subst (λ s. IsWhole (Some new) choosers (beginning (from_nothing script) s)) same (played.whole (from_nothing script) begun) in
    record {
      ends = subst (λ z. EndsUnread (Ok Done) WritesNothing (scripted (trial_text number choosers) z) o) (sym found) (refl, subst (Gains o) (line_is number choosers (from_scratch script) new (played.digests on).on whole.1) gains);
      answers = (from_scratch script, found, whole);
      leaves = subst (λ z. LeavesSession (Ok Done) z choosers left) (sym found) (subst (λ s. AreAlike left (left_of s choosers)) same played.leaves);
    }
