-- What is printed of what a client shows.
use Rattle.std.specs.Prelude.{ℕ, List, [], Result, Ok, Err}
use Rattle.gfx_base.specs.Stream.{Change, Gains, FailsAfter}
use Rattle.gfx_report.specs.Texts.{dump_text, output_text}
use Rattle.gfx_surface_map.specs.Shown.{Shown}
use Rattle.gfxpipe.specs.declared.render.Dump.{Dump}
use Rattle.gfxpipe.specs.declared.render.Dump.TheVariants.{Surfaces, Output}
use Rattle.gfxpipe.specs.declared.trouble.Trouble.{Trouble}
use Rattle.gfxpipe.specs.declared.trouble.Trouble.TheVariants as trouble

-- the text of a dump
abbrev pub dump_of : Dump → Shown → List ℕ
dump_of Surfaces shown = dump_text shown.surfaces
dump_of Output shown = output_text shown

-- what printing it answers
abbrev pub Prints : Result (Unit {0}) Trouble → Change → List ℕ → Type 0
Prints (Ok done) o due = Gains o due
Prints (Err trouble.Write) o due = FailsAfter o due
Prints (Err trouble.Memory) o due = Gains o []
Prints (Err trouble.Read) o due = ⊥
