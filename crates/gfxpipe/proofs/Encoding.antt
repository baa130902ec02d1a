-- What the parts of `encode` come to.
use Rattle.std.proofs.Common.{ℕ, List, [], Option, None, Result, Ok, Err, refl, sym, subst}
use Rattle.gfx_base.specs.Stream.{Change, change}
use Rattle.gfx_base.proofs.Streams.{Gained_none}
use Rattle.gfx_chooser.specs.Choosing.{Chooser}
use Rattle.gfx_input.specs.Reading.{input_of}
use Rattle.gfx_script.specs.Scripted.{Script}
use Rattle.gfxpipe.specs.declared.ending.Ending.{Ending}
use Rattle.gfxpipe.specs.declared.ending.Ending.TheVariants.{Done}
use Rattle.gfxpipe.specs.declared.trouble.Trouble.{Trouble}
use Rattle.gfxpipe.specs.declared.trouble.Trouble.TheVariants as trouble
use Rattle.gfxpipe.specs.Did.{WritesPart}
use Rattle.gfxpipe.specs.Due.{found_in, stream_text}
use Rattle.gfxpipe.specs.Leaves.{LeavesStream}
use Rattle.gfxpipe.specs.Rule.{DidAll}
use Rattle.gfxpipe.specs.Rules.{encoding, script_input}
use Rattle.gfxpipe.specs.Scripts.{ReadsScript}
use Rattle.gfxpipe.specs.Stream.{WritesStream}
use Rattle.gfxpipe.proofs.Planning.{asks_nothing}
use Rattle.gfxpipe.proofs.ReadingScripts.{ends_none, ends_written, ends_broken, ends_starved, ends_unread}

-- nothing is a part of any text
pub nothing_written : (text : List ℕ) (m : ℕ) (held : Option (List ℕ)) → WritesPart (change m m held held) text
nothing_written text m held = (refl, record { sent = []; rest = text; cut = refl; gained = Gained_none held })

-- nothing was asked
pub unasked : (t : Trouble) (found : Result Script Ending) (choosers : List Chooser) (m : ℕ) (held : Option (List ℕ)) → LeavesStream (Err t) found choosers choosers (change m m held held)
unasked t (Ok script) choosers m held = asks_nothing script choosers m held
unasked t (Err ending) choosers m held = refl

-- the script could not be read
pub not_read : (t : Trouble) (choosers : List Chooser) (limit m : ℕ) (i : Change) (held : Option (List ℕ)) → ReadsScript (Err t) limit i
    → DidAll (Err t) None encoding script_input choosers choosers limit i (change m m held held)
not_read trouble.Read choosers limit m i held (reads, falls, rose) =
    ((reads, ends_unread WritesPart (encoding.due choosers limit (input_of reads)) i m held falls rose), refl, unasked trouble.Read (found_in limit (input_of reads)) choosers m held)
not_read trouble.Write choosers limit m i held never = absurd never
not_read trouble.Memory choosers limit m i held (reads, count) =
    ((reads, (count, nothing_written (encoding.due choosers limit (input_of reads)).text m held)), refl, unasked trouble.Memory (found_in limit (input_of reads)) choosers m held)

-- what was read is no script
pub no_script : (ending : Ending) (choosers : List Chooser) (limit m : ℕ) (i : Change) (held : Option (List ℕ)) → ReadsScript (Ok (Err ending)) limit i
    → DidAll (Ok ending) None encoding script_input choosers choosers limit i (change m m held held)
no_script ending choosers limit m i held (reads, count, all, is) = (
  (reads, ends_none ending WritesPart (stream_text choosers) m i held (found_in limit (input_of reads)) count all is),
  refl,
  subst (λ z. LeavesStream (Ok ending) z choosers choosers (change m m held held)) (sym is) refl,
)

-- the stream of a script could not be written
pub not_streamed : (t : Trouble) (choosers left : List Chooser) (limit : ℕ) (i o : Change) (script : Script) → ReadsScript (Ok (Ok script)) limit i → WritesStream (Err t) script choosers left o
    → DidAll (Err t) None encoding script_input choosers left limit i o
not_streamed trouble.Read choosers left limit i o script reads never = absurd never
not_streamed trouble.Write choosers left limit i o script (reads, count, all, is) (fails, ahead) = (
  (reads, ends_broken WritesPart (stream_text choosers) i o script (found_in limit (input_of reads)) count is fails),
  refl,
  subst (λ z. LeavesStream (Err trouble.Write) z choosers left o) (sym is) ahead,
)
not_streamed trouble.Memory choosers left limit i o script (reads, count, all, is) (falls, part, ahead) = (
  (reads, ends_starved WritesPart (stream_text choosers) i o script (found_in limit (input_of reads)) count is (falls, part)),
  refl,
  subst (λ z. LeavesStream (Err trouble.Memory) z choosers left o) (sym is) ahead,
)

-- it was written
pub streamed : (choosers left : List Chooser) (limit : ℕ) (i o : Change) (script : Script) → ReadsScript (Ok (Ok script)) limit i → WritesStream (Ok tt) script choosers left o
    → DidAll (Ok Done) None encoding script_input choosers left limit i o
streamed choosers left limit i o script (reads, count, all, is) (gains, alike) = (
  (reads, ends_written WritesPart (stream_text choosers) i o script (found_in limit (input_of reads)) count all is gains),
  refl,
  subst (λ z. LeavesStream (Ok Done) z choosers left o) (sym is) alike,
)
