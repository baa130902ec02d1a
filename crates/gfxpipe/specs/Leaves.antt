-- What a command leaves of the choosers that are brought to it: this project's own rule.
use Rattle.std.specs.Prelude.{◌≡◌, ℕ, ◌+◌, ◌≤◌, List, ◌++◌, length, take, drop, Result, Ok, Err}
use Rattle.gfx_base.specs.Stream.{Change, Gained}
use Rattle.gfx_chooser.specs.Choosing.{Chooser, AreAlike}
use Rattle.gfx_chooser.specs.Kinded.{Asks, kinded_steps, left_of}
use Rattle.gfx_planner.specs.Stream.{stream_of}
use Rattle.gfx_schedule.specs.ServerEnd.{first_frame}
use Rattle.gfx_script.specs.Scripted.{Script}
use Rattle.gfxpipe.specs.declared.ending.Ending.{Ending}
use Rattle.gfxpipe.specs.declared.trouble.Trouble.{Trouble}
use Rattle.gfxpipe.specs.Sessions.{Beginning}

-- no chooser was asked of a step beyond the frame behind those that were written whole
pub record AsksAhead (script : Script) (choosers left : List Chooser) (o : Change) : Type 0 where
  -- so many steps were written, and a part of the next frame
  pub written : ℕ
  pub part : List ℕ
  pub gained : Gained o.old (stream_of script (take written (kinded_steps script choosers)) ++ part) o.new
  -- and so many were asked of
  pub asked : ℕ
  pub asks : Asks script 0 asked choosers left
  pub near : asked ≤ written + length (first_frame (drop written (kinded_steps script choosers)))

-- what the writer of a stream leaves, of what was found: all of a script is asked of where it is done, and where
-- there is none nothing
abbrev pub LeavesStream : Result Ending Trouble → Result Script Ending → List Chooser → List Chooser → Change → Type 0
LeavesStream (Ok ending) (Ok script) choosers left o = AreAlike left (left_of script choosers)
LeavesStream (Err trouble) (Ok script) choosers left o = AsksAhead script choosers left o
LeavesStream ended (Err other) choosers left o = left ≡ choosers

-- what a session leaves
abbrev pub LeavesSession : Result Ending Trouble → Result Beginning Ending → List Chooser → List Chooser → Type 0
LeavesSession (Ok ending) (Ok b) choosers left = AreAlike left (left_of b.script choosers)
LeavesSession (Err trouble) (Ok b) choosers left = Unit {0}
LeavesSession ended (Err other) choosers left = left ≡ choosers
