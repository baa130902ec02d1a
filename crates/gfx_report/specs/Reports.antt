-- What a report that takes memory answers, and what its sink gained.
use Rattle.std.specs.Prelude.{ℕ, List, [], Result, Ok, Err}
use Rattle.gfx_base.specs.Stream.{Change, Gains, FailsAfter}
use Rattle.gfx_report.specs.declared.fault.ReportFault.{ReportFault}
use Rattle.gfx_report.specs.declared.fault.ReportFault.TheVariants.{Failed, Memory}

-- all of the text, a fault after a front of it, or nothing at all where memory is missing
abbrev pub Reports : Result (Unit {0}) ReportFault → Change → List ℕ → Type 0
Reports (Ok x) c due = Gains c due
Reports (Err Failed) c due = FailsAfter c due
Reports (Err Memory) c due = Gains c []
