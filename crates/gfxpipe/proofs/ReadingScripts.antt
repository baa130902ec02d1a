-- What reading a script whole comes to, and a command that reads one.
use Rattle.std.proofs.Common.{◌≡◌, ℕ, ◌≤◌, ◌<◌, cond, Bool, true, false, List, [], length, Option, Result, Ok, Err, sym, ap, ◌∙◌, subst}
use Rattle.std.proofs.lemmas.Bool.{le-leb, lt-leb}
use Rattle.gfx_base.specs.Stream.{Change, change, Gains, FailsAfter, Rose}
use Rattle.gfx_base.proofs.Streams.{Gains_none}
use Rattle.gfx_input.specs.declared.reading.Read.TheVariants as read
use Rattle.gfx_input.specs.declared.fault.InputFault.{InputFault}
use Rattle.gfx_input.specs.declared.fault.InputFault.TheVariants as input
use Rattle.gfx_input.specs.Reading.{rest_of, input_of, ReadsInput}
use Rattle.gfx_input.specs.Taking.{fixed, silent, nowhere}
use Rattle.gfx_input.proofs.Silent.{never_fails}
use Rattle.gfx_script.specs.Script.{IsAccepted}
use Rattle.gfx_script.specs.Scripted.{Script}
use Rattle.gfx_script_text.specs.Text.{Wrong, script_of}
use Rattle.gfx_script_text.proofs.Accepted.{accepted}
use Rattle.gfxpipe.specs.declared.ending.Ending.{Ending}
use Rattle.gfxpipe.specs.declared.ending.Ending.TheVariants.{Done, TooLong, Faulty}
use Rattle.gfxpipe.specs.declared.trouble.Trouble.{Trouble}
use Rattle.gfxpipe.specs.declared.trouble.Trouble.TheVariants as trouble
use Rattle.gfxpipe.specs.Did.{IsAny, NoFault, IsReadWhole, WritesNothing, Ends, trouble_of}
use Rattle.gfxpipe.specs.Due.{Due, accepted_or, found_in, scripted}
use Rattle.gfxpipe.specs.Scripts.{ending_of, ReadsText, ReadsScript}

-- what an input is found to be --------------------------------------------------------------------------

found_long : (limit : ℕ) (bytes : List ℕ) → limit < length bytes → found_in limit bytes ≡ Err TooLong
unfolding found_in
found_long limit bytes over = ap (λ b. cond b (accepted_or (script_of bytes)) (Err TooLong)) (lt-leb (length bytes) limit over)

found_short : (limit : ℕ) (bytes : List ℕ) → length bytes ≤ limit → found_in limit bytes ≡ accepted_or (script_of bytes)
unfolding found_in
found_short limit bytes within = ap (λ b. cond b (accepted_or (script_of bytes)) (Err TooLong)) (le-leb (length bytes) limit within)

-- it is a script only where its text is one
accepted_by : (b : Bool) (found : Result Script Wrong) (script : Script) → cond b (accepted_or found) (Err TooLong) ≡ Ok script → found ≡ Ok script
accepted_by true (Ok x) script e = let same : x ≡ script = cc in ap (λ (z : Script). Ok z) same
accepted_by true (Err wrong) script e = cc
accepted_by false found script e = cc

pub found_script : (limit : ℕ) (bytes : List ℕ) (script : Script) → found_in limit bytes ≡ Ok script → script_of bytes ≡ Ok script
unfolding found_in
found_script limit bytes script e = accepted_by _ (script_of bytes) script e

-- and where it is none, the run isn't done
not_done : (b : Bool) (found : Result Script Wrong) → cond b (accepted_or found) (Err TooLong) ≡ Err Done → ⊥
not_done true (Ok x) e = cc
not_done true (Err wrong) e = cc
not_done false found e = cc

pub found_never_done : (limit : ℕ) (bytes : List ℕ) → found_in limit bytes ≡ Err Done → ⊥
unfolding found_in
found_never_done limit bytes e = not_done _ (script_of bytes) e

-- reading it ----------------------------------------------------------------------------------------------

-- a list of bytes that was given a script
abbrev pub Holds : List ℕ → List ℕ → Type 0
Holds text bytes = text ≡ bytes

abbrev pub Never : List ℕ → List ℕ → Type 0
Never text bytes = ⊥

-- it could not be read
pub not_read : (f : InputFault) (limit : ℕ) (i : Change) (text : List ℕ) → ReadsInput Holds Never IsAny silent (Err f) (fixed limit) i nowhere text → ReadsScript (Err (trouble_of f)) limit i
not_read input.Read limit i text (reads, (falls, rose), broke) = (reads, falls, rose)
not_read input.Write limit i text (reads, count, broke) = absurd (never_fails [] broke.broke)
not_read input.Memory limit i text (reads, count, broke) = (reads, count)

-- it is over the limit
pub too_long : (limit : ℕ) (i : Change) (text : List ℕ) → ReadsInput Holds Never IsAny silent (Ok read.TooLong) (fixed limit) i nowhere text → ReadsScript (Ok (Err TooLong)) limit i
too_long limit i text (reads, count, (over, is)) = (reads, count, tt, found_long limit (input_of reads) over)

-- a run that ends by its text has read all of it
pub read_to_end : (ending : Ending) (i : Change) → rest_of i.new ≡ [] → IsReadWhole ending i
read_to_end Done i all = all
read_to_end (Faulty step kind) i all = all
read_to_end other i all = tt

-- this is found of it
pub reads_text : (result : Result (Result Script Ending) Trouble) (limit : ℕ) (i : Change) (text : List ℕ) → ReadsInput Holds Never IsAny silent (Ok read.Whole) (fixed limit) i nowhere text → ReadsText result text → ReadsScript result limit i
reads_text (Ok found) limit i text (reads, count, (within, all, is)) finds =
    (reads, count, read_to_end (ending_of found) i all, found_short limit (input_of reads) within ∙ ap accepted_or (ap script_of (sym is.0)) ∙ finds)
reads_text (Err trouble.Memory) limit i text (reads, count, read) finds = (reads, count)
reads_text (Err trouble.Read) limit i text reads never = absurd never
reads_text (Err trouble.Write) limit i text reads never = absurd never

-- a script that was read is good
pub is_good : (limit : ℕ) (i : Change) (script : Script) → ReadsScript (Ok (Ok script)) limit i → IsAccepted script
is_good limit i script (reads, count, all, is) = accepted (input_of reads) script (found_script limit (input_of reads) script is)

-- a command that reads one ----------------------------------------------------------------------------------

-- it could not be read
pub ends_unread : (writes_on : Change → List ℕ → Type 0) (d : Due) (i : Change) (m : ℕ) (held : Option (List ℕ)) → i.before ≤ i.now → Rose i.before i.now
    → Ends (Err trouble.Read) WritesNothing writes_on d i (change m m held held)
ends_unread writes_on d i m held falls rose = (falls, rose, Gains_none m held)

-- what was read is none
pub ends_none : {X : Type 0} (ending : Ending) (writes_on : Change → List ℕ → Type 0) (text : X → List ℕ) (m : ℕ) (i : Change) (held : Option (List ℕ)) (found : Result X Ending) → NoFault i → IsReadWhole ending i
    → found ≡ Err ending → Ends (Ok ending) WritesNothing writes_on (scripted text found) i (change m m held held)
ends_none ending writes_on text m i held found count all is =
    (ap (λ z. (scripted text z).ending) (sym is), count, all, subst (λ z. Gains (change m m held held) (scripted text z).text) (sym is) (Gains_none m held))

-- what is due of it was written
pub ends_written : {X : Type 0} (writes_on : Change → List ℕ → Type 0) (text : X → List ℕ) (i o : Change) (x : X) (found : Result X Ending) → NoFault i → IsReadWhole Done i → found ≡ Ok x
    → Gains o (text x) → Ends (Ok Done) WritesNothing writes_on (scripted text found) i o
ends_written writes_on text i o x found count all is gains =
    (ap (λ z. (scripted text z).ending) (sym is), count, all, subst (λ z. Gains o (scripted text z).text) (sym is) gains)

-- a write failed
pub ends_broken : {X : Type 0} (writes_on : Change → List ℕ → Type 0) (text : X → List ℕ) (i o : Change) (x : X) (found : Result X Ending) → NoFault i → found ≡ Ok x
    → FailsAfter o (text x) → Ends (Err trouble.Write) WritesNothing writes_on (scripted text found) i o
ends_broken writes_on text i o x found count is fails = (count, subst (λ z. FailsAfter o (scripted text z).text) (sym is) fails)

-- no memory is left
pub ends_starved : {X : Type 0} (writes_on : Change → List ℕ → Type 0) (text : X → List ℕ) (i o : Change) (x : X) (found : Result X Ending) → NoFault i → found ≡ Ok x
    → writes_on o (text x) → Ends (Err trouble.Memory) WritesNothing writes_on (scripted text found) i o
ends_starved writes_on text i o x found count is writes = (count, subst (λ z. writes_on o (scripted text z).text) (sym is) writes)
