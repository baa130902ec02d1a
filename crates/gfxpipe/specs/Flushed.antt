-- The last word of a run whose output is buffered: this project's own rule.
use Rattle.std.specs.Prelude.{◌≡◌, ℕ, List, codes, Result, Ok, Err, ◌⊎◌}
use Rattle.gfx_base.specs.Stream.{Change, Gains, FailsAfter}
use Rattle.gfx_base.specs.declared.answer.Failed.{Failed}
use Rattle.gfxpipe.specs.declared.status.Status.{Status}
use Rattle.gfxpipe.specs.declared.status.Status.TheVariants.{WriteFault}

-- the status once the output is flushed
abbrev pub flushed_status : Status → Result (Unit {0}) Failed → Status
flushed_status status (Ok done) = status
flushed_status status (Err e) = WriteFault

-- and the line: that of a write that failed first stays
abbrev pub flushed_line : Status → Result (Unit {0}) Failed → List ℕ → List ℕ
flushed_line status (Ok done) line = line
flushed_line WriteFault (Err e) line = line
flushed_line status (Err e) line = codes "output: write failed\n"

-- the line was written, and the status is that; or it was not, and a write has failed
abbrev pub IsSaid : Status → Status → Result (Unit {0}) Failed → List ℕ → Change → Type 0
IsSaid answer status flushed line e =
    ((answer ≡ flushed_status status flushed) × Gains e (flushed_line status flushed line))
    ⊎ ((answer ≡ WriteFault) × FailsAfter e (flushed_line status flushed line))
