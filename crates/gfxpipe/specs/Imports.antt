-- What is found in an input of `import`: this project's own rule.
use Rattle.std.specs.Prelude.{◌≡◌, ℕ, ◌≤◌, List, Result, Ok, Err}
use Rattle.gfx_base.specs.Stream.{Change, Rose}
use Rattle.gfx_bitmap_cache.specs.Slots.{Entry}
use Rattle.gfx_input.specs.Reading.{Reads, input_of}
use Rattle.gfx_kept_input.specs.Allowed.{allowed}
use Rattle.gfx_kept_input.specs.Due.{IsFine, ending_in}
use Rattle.gfx_kept_input.specs.declared.outcome.KeptInput.{KeptInput}
use Rattle.gfx_kept_input.specs.declared.outcome.KeptInput.TheVariants as kept
use Rattle.gfx_schedule.specs.Starts.{from_kept}
use Rattle.gfx_script.specs.Scripted.{Script}
use Rattle.gfx_script_text.specs.Text.{Wrong, script_kept}
use Rattle.gfx_session.specs.Session.{IsSession, digests_of, script_of}
use Rattle.gfx_session.specs.declared.digests.Digests.TheVariants.{On}
use Rattle.gfx_session.specs.declared.session.Session.{Session}
use Rattle.gfxpipe.specs.declared.ending.Ending.{Ending}
use Rattle.gfxpipe.specs.declared.ending.Ending.TheVariants.{Done, TooLong, Kept, Faulty}
use Rattle.gfxpipe.specs.declared.trouble.Trouble.{Trouble}
use Rattle.gfxpipe.specs.declared.trouble.Trouble.TheVariants as trouble
use Rattle.gfxpipe.specs.Did.{NoFault, IsReadWhole}
use Rattle.gfxpipe.specs.Sessions.{Beginning, IsBegun, beginning}

-- a script that is read with two files of kept bitmaps, and its start from them
abbrev pub imported_as : List Entry → List Entry → Result Script Wrong → Result Beginning Ending
imported_as server client (Ok script) = Ok (beginning (from_kept script server client) script)
imported_as server client (Err wrong) = Err (Faulty wrong.step wrong.kind)

-- what an input comes to that is to be two files and a script
abbrev pub imported_of : KeptInput → Result Beginning Ending
imported_of (kept.Whole server client text) = imported_as server client (script_kept server client text)
imported_of kept.TooLong = Err TooLong
imported_of (kept.Refused r) = Err (Kept r)

unfoldable pub kept_in : ℕ → List ℕ → Result Beginning Ending
kept_in limit bytes = imported_of (ending_in limit bytes)

-- a session in which nothing has happened, of a script and its start, whose digests are on
pub record IsOf (session : Session) (b : Beginning) : Type 0 where
  pub is : IsSession session
  pub script : script_of session ≡ b.script
  pub begun : IsBegun session b.start
  pub unqueued : session.server.last ≡ 0
  pub digests : digests_of session ≡ On

-- how a run ends that finds no session
pub record IsRefusedBy (found : Result Beginning Ending) (ending : Ending) : Type 0 where
  pub is : found ≡ Err ending
  pub not_done : ending ≡ Done → ⊥

-- what beginning the session answers of which this is found
abbrev pub Begins : Result (Result Session Ending) Trouble → Result Beginning Ending → Type 0
Begins (Ok (Ok session)) found = (b : Beginning) × (found ≡ Ok b) × IsOf session b
Begins (Ok (Err ending)) found = IsRefusedBy found ending
Begins (Err trouble.Memory) found = Unit {0}
Begins (Err other) found = ⊥

-- what reading such an input and beginning its session answers: there is an input, the one that is told where it is told, in
-- which it is found
abbrev pub ReadsSession : Result (Result Session Ending) Trouble → ℕ → Change → Type 0
ReadsSession (Ok (Ok session)) limit i =
    (reads : Reads IsFine (allowed limit) i) × NoFault i × IsReadWhole Done i × Begins (Ok (Ok session)) (kept_in limit (input_of reads))
ReadsSession (Ok (Err ending)) limit i =
    (reads : Reads IsFine (allowed limit) i) × NoFault i × IsReadWhole ending i × Begins (Ok (Err ending)) (kept_in limit (input_of reads))
ReadsSession (Err trouble.Read) limit i = Reads IsFine (allowed limit) i × (i.before ≤ i.now) × Rose i.before i.now
ReadsSession (Err trouble.Memory) limit i = Reads IsFine (allowed limit) i × NoFault i
ReadsSession (Err trouble.Write) limit i = ⊥
