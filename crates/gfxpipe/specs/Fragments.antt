-- What is due of an input of `fragment` or `join`, as a run of the program: this project's own rule.
use Rattle.std.specs.Prelude.{ℕ, List}
use Rattle.gfx_fragments.specs.Due.{due_in}
use Rattle.gfx_fragments.specs.Found.{Found}
use Rattle.gfx_fragments.specs.declared.ended.Ended.{Ended}
use Rattle.gfx_fragments.specs.declared.ended.Ended.TheVariants as fragments
use Rattle.gfxpipe.specs.declared.ending.Ending.{Ending}
use Rattle.gfxpipe.specs.declared.ending.Ending.TheVariants.{Done, TooLong, Refused}
use Rattle.gfxpipe.specs.Due.{Due}

-- how such a command ended, as a run ends
abbrev pub ending_as : Ended → Ending
ending_as fragments.Done = Done
ending_as fragments.TooLong = TooLong
ending_as (fragments.Refused number r) = Refused number r

-- what is due of its input, of which so many bytes count
abbrev pub worked : (List ℕ → Found) → ℕ → List ℕ → Due
worked find limit bytes = record { text = (due_in find limit bytes).text; ending = ending_as (due_in find limit bytes).ending }
