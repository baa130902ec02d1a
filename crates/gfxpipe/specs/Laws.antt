-- What the commands have to do with each other, and what each line of `session` says: this project's own
-- promises.
use Rattle.std.specs.Prelude.{◌≡◌, ℕ, ◌≤◌, List, length, Ok}
use Rattle.std.specs.List.{AllByRecursion}
use Rattle.gfx_chooser.specs.Choosing.{Chooser}
use Rattle.gfx_chooser.specs.Kinded.{kinded_steps}
use Rattle.gfx_planner.specs.Want.{want}
use Rattle.gfx_schedule.specs.Schedule.{KeepsWorldFrom}
use Rattle.gfx_schedule.specs.World.{Acknowledged}
use Rattle.gfx_script.specs.Scripted.{Script}
use Rattle.gfx_script_text.specs.Text.{script_of}
use Rattle.gfx_session.specs.Kept.{digest_in}
use Rattle.gfxpipe.specs.declared.ending.Ending.TheVariants.{Done}
use Rattle.gfxpipe.specs.declared.render.Dump.{Dump}
use Rattle.gfxpipe.specs.Dump.{dump_of}
use Rattle.gfxpipe.specs.Imports.{kept_in}
use Rattle.gfxpipe.specs.Due.{shown, stream_text}
use Rattle.gfxpipe.specs.Sessions.{Beginning, from_scratch, whole_session}

-- what a script wants of a dump, where these choosers are asked
abbrev pub wanted_text : Dump → List Chooser → Script → List ℕ
wanted_text dump choosers script = dump_of dump (want script (kinded_steps script choosers)).shown

-- within the limit of a recording `render` of what `encode` wrote refuses nothing, and prints, of the
-- surfaces or of the output, what the script wants, whatever choosers were asked
abbrev pub EncodeThenRender : Type 0
EncodeThenRender =
    (limit : ℕ) (text : List ℕ) (script : Script) (choosers : List Chooser) (dump : Dump) → script_of text ≡ Ok script
    → length (stream_text choosers script) ≤ limit
    → shown (dump_of dump) limit (stream_text choosers script) ≡ record { text = wanted_text dump choosers script; ending = Done }

-- an acknowledged frame has the same digest at both ends
abbrev pub HasEqualDigests : Acknowledged → Type 0
HasEqualDigests ack = digest_in ack.client ≡ digest_in ack.server

-- a session that is printed, whatever choosers are asked: neither end refuses anything, the two ends are the same at each
-- acknowledged frame and show the script up to its recorded step, and so each line has equal digests
pub record SessionAgrees (choosers : List Chooser) (b : Beginning) : Type 0 where
  pub keeps : KeepsWorldFrom b.start b.script (kinded_steps b.script choosers) (whole_session choosers b)
  pub equal : AllByRecursion HasEqualDigests (whole_session choosers b).acks

-- so for every script that is accepted
abbrev pub EveryLineHasEqualDigests : Type 0
EveryLineHasEqualDigests =
    (text : List ℕ) (script : Script) (choosers : List Chooser) → script_of text ≡ Ok script → SessionAgrees choosers (from_scratch script)

-- and for every session that `import` finds, whose two files agree
abbrev pub EveryLineOfAnImportHasEqualDigests : Type 0
EveryLineOfAnImportHasEqualDigests =
    (limit : ℕ) (bytes : List ℕ) (b : Beginning) (choosers : List Chooser) → kept_in limit bytes ≡ Ok b → SessionAgrees choosers b
