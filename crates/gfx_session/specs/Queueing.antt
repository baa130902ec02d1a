-- Which steps a turn of a server's end queues, and what queueing them does. No public clause names these words.
use Rattle.std.specs.Prelude.{◌≡◌, ◌+◌, ℕ, List, ◌++◌, drop, length, Result, Ok, Err}
use Rattle.gfx_base.specs.declared.answer.NoMemory.{NoMemory}
use Rattle.gfx_chooser.specs.Choosing.{Chooser}
use Rattle.gfx_chooser.specs.Kinded.{Asks, kinded}
use Rattle.gfx_schedule.specs.ServerEnd.{first_frame, numbered}
use Rattle.gfx_script.specs.Kinds.{KindedStep}
use Rattle.gfx_script.specs.Scripted.{Script}
use Rattle.gfx_window.specs.Window.{Window, with_pending}

-- the steps of a script behind this number, up to and including the next of the word `frame`, as these choosers
-- choose
abbrev pub next_steps : Script → List Chooser → ℕ → List KindedStep
next_steps script choosers last = first_frame (kinded script (last + 1) choosers (drop last script.steps))

-- these steps are queued, and the number of the last is answered; the choosers were asked of them alone. Without memory
-- only what waits has changed
abbrev pub QueuesFrame : Result ℕ NoMemory → Script → ℕ → List Chooser → List Chooser → Window → Window → Type 0
QueuesFrame (Ok number) script last before after old new =
    (number ≡ last + length (next_steps script before last))
    × (new ≡ with_pending old (old.pending ++ numbered (last + 1) (next_steps script before last)))
    × Asks script last number before after
QueuesFrame (Err e) script last before after old new = new ≡ with_pending old new.pending
