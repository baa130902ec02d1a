-- Inner: what the types of the code show to each other. No clause of a public call cites it.
use Rattle.std.specs.Prelude.{ℕ, List, Result}
use Rattle.gfx_base.specs.declared.refusal.Refusal.{Refusal}
use Rattle.gfx_clear_runs.specs.Elements.{Element, run_at, segment_at}
use Rattle.gfx_clear_runs.specs.Writing.{Run, run_spelled, segment_spelled}
use Rattle.gfx_clear_runs.specs.declared.coding.Coding.{Coding}
use Rattle.gfx_clear_runs.specs.declared.coding.Coding.TheVariants.{Runs, Segments}

-- how the elements of a coding are read
abbrev pub reading : Coding → List ℕ → Result Element Refusal
reading Runs = run_at
reading (Segments palette) = segment_at palette.colours.items

-- how a coding spells a run
abbrev pub spelling : Coding → Run → List ℕ
spelling Runs = run_spelled
spelling (Segments palette) = segment_spelled palette.colours.items
