use Rattle.std.proofs.Common.{◌-◌, length}
use Rattle.gfx_chooser.specs.Choosing.{chosen}
use Rattle.gfx_chooser.specs.Seen.{seen}
use Rattle.gfx_chooser.proofs.Answering.{IsAskedTo}
use Rattle.gfx_chooser.proofs.choosing.choose.Given as goal

abbrev pub invariant-choosers : goal.invariant-choosers
invariant-choosers g l =
    IsAskedTo g.C.Chooser.reply g.C.Chooser.is_spent l.facts (chosen (seen g.C.Chooser.reply g.C.Chooser.is_spent l.fn.choosers.items) l.facts) l.choosers.items l.at

abbrev pub decreases-choosers : goal.decreases-choosers
decreases-choosers g l = length l.choosers.items - l.at
