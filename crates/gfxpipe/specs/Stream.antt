-- How the stream of a script is written, frame by frame: this project's own rule.
use Rattle.std.specs.Prelude.{◌≡◌, ℕ, ◌+◌, ◌-◌, ◌<◌, ◌≤◌, List, ◌++◌, length, take, drop, Result, Ok, Err}
use Rattle.gfx_base.specs.Stream.{Change, Gains, GainsPart, FailsAfter}
use Rattle.gfx_base.specs.declared.answer.NoMemory.{NoMemory}
use Rattle.gfx_chooser.specs.Choosing.{Chooser, AreAlike}
use Rattle.gfx_chooser.specs.Kinded.{Asks, kinded_steps, left_of}
use Rattle.gfx_planner.specs.Planned.{Planned, ready}
use Rattle.gfx_planner.specs.Stream.{end_after, stream_of}
use Rattle.gfx_schedule.specs.ServerEnd.{first_frame}
use Rattle.gfx_script.specs.Kinds.{KindedStep}
use Rattle.gfx_script.specs.Scripted.{Script}
use Rattle.gfxpipe.specs.declared.trouble.Trouble.{Trouble}
use Rattle.gfxpipe.specs.declared.trouble.Trouble.TheVariants as trouble
use Rattle.gfxpipe.specs.Due.{stream_text}
use Rattle.gfxpipe.specs.Leaves.{AsksAhead}

-- what writing a stream answers, and what it leaves of the choosers
abbrev pub WritesStream : Result (Unit {0}) Trouble → Script → List Chooser → List Chooser → Change → Type 0
WritesStream (Ok done) script choosers left o = Gains o (stream_text choosers script) × AreAlike left (left_of script choosers)
WritesStream (Err trouble.Write) script choosers left o = FailsAfter o (stream_text choosers script) × AsksAhead script choosers left o
WritesStream (Err trouble.Memory) script choosers left o =
    (o.now ≡ o.before) × GainsPart o (stream_text choosers script) × AsksAhead script choosers left o
WritesStream (Err trouble.Read) script choosers left o = ⊥

-- the steps before one of a number
abbrev pub steps_before : Script → List Chooser → ℕ → List KindedStep
steps_before script choosers number = take (number - 1) (kinded_steps script choosers)

-- a planner has put the steps before a number, as choosers chose that are now these
pub record HasPut (script : Script) (number : ℕ) (planned : Planned) (choosers left : List Chooser) : Type 0 where
  pub planner : planned ≡ ready (end_after script (steps_before script choosers number))
  pub asks : Asks script 0 (number - 1) choosers left

-- it may put the step of a number: there were choosers that chose so
pub record MayGoOn (script : Script) (number : ℕ) (planned : Planned) (left : List Chooser) : Type 0 where
  pub choosers : List Chooser
  pub has_put : HasPut script number planned choosers left

-- the number behind the frame that begins with the step of this number
abbrev pub behind : Script → List Chooser → ℕ → ℕ
behind script choosers first = first + length (first_frame (drop (first - 1) (kinded_steps script choosers)))

-- the planner has gone on by the steps from one number up to another, and their stream was put out
pub record Plans (script : Script) (choosers left : List Chooser) (first next : ℕ) (planned : Planned) (before now : List ℕ) : Type 0 where
  pub further : first < next
  pub within : next ≤ length script.steps + 1
  pub frame : next ≤ behind script choosers first
  pub has_put : HasPut script next planned choosers left
  pub bytes : List ℕ
  pub gained : now ≡ before ++ bytes
  pub due : stream_of script (steps_before script choosers next) ≡ stream_of script (steps_before script choosers first) ++ bytes

-- choosers were asked of the first steps of a frame alone
pub record AsksWithin (script : Script) (choosers left : List Chooser) (first : ℕ) : Type 0 where
  pub asked : ℕ
  pub asks : Asks script 0 asked choosers left
  pub near : asked + 1 ≤ behind script choosers first

-- what planning a frame answers, where a planner has put the steps before its first
abbrev pub PlansFrame : Result ℕ NoMemory → Script → List Chooser → List Chooser → ℕ → Planned → List ℕ → List ℕ → Type 0
PlansFrame (Ok next) script choosers left first planned before now = Plans script choosers left first next planned before now
PlansFrame (Err e) script choosers left first planned before now = AsksWithin script choosers left first
