-- What reading comes to for takers that write nothing.
use Rattle.std.proofs.Common.{ℕ, ◌<◌, List, arith}
use Rattle.gfx_base.specs.Stream.{Change, FailsAfter}
use Rattle.gfx_input.specs.declared.reading.Read.{Read}
use Rattle.gfx_input.specs.declared.reading.Read.TheVariants as read
use Rattle.gfx_input.specs.Reading.{EndsBy, Wrote}
use Rattle.gfx_input.specs.Taking.{nowhere}

-- where nothing is kept, no write fails
pub never_fails : (due : List ℕ) → FailsAfter nowhere due → ⊥
never_fails due fails = let up : 0 < 0 = fails.rose (omega arith) in omega arith

-- how a reading ended, whatever was written
pub ends_only : {S : Type 0} (stands stops : S → List ℕ → Type 0) (written : List ℕ → List ℕ) (o : Change) (last : Read) (limit : ℕ) (bytes left : List ℕ) (new : S)
    → EndsBy (Wrote stands written o) (Wrote stops written o) last limit bytes left new → EndsBy stands stops last limit bytes left new
ends_only stands stops written o read.Whole limit bytes left new (within, all, there) = (within, all, there.0)
ends_only stands stops written o read.TooLong limit bytes left new (over, there) = (over, there.0)
ends_only stands stops written o read.Stopped limit bytes left new s =
    record { front = s.front; behind = s.behind; cut = s.cut; within = s.within; stopped = s.stopped.0 }
