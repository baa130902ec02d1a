-- What `fragment` and `join` come to, as runs of the program.
use Rattle.std.proofs.Common.{ℕ, List, Ok, Err, ap}
use Rattle.gfx_base.specs.Stream.{Change}
use Rattle.gfx_fragments.specs.Due.{Does}
use Rattle.gfx_fragments.specs.Due as fragments
use Rattle.gfx_fragments.specs.Found.{Found}
use Rattle.gfx_fragments.specs.declared.ended.Ended.{Ended}
use Rattle.gfx_fragments.specs.declared.ended.Ended.TheVariants.{Done, TooLong, Refused}
use Rattle.gfx_input.specs.declared.fault.InputFault.{InputFault}
use Rattle.gfx_input.specs.declared.fault.InputFault.TheVariants as input
use Rattle.gfxpipe.specs.Did.{IsReadWhole, trouble_of}
use Rattle.gfxpipe.specs.Fragments.{ending_as}
use Rattle.gfxpipe.specs.Rules.{Works}

read_whole : (ended : Ended) (i : Change) → fragments.IsReadWhole ended i → IsReadWhole (ending_as ended) i
read_whole Done i e = e
read_whole TooLong i e = e
read_whole (Refused number r) i e = e

pub worked_off : (find : List ℕ → Found) (ended : Ended) (limit : ℕ) (i o : Change) → Does find (Ok ended) limit i o → Works find (Ok (ending_as ended)) limit i o
worked_off find ended limit i o (reads, (ending, count, whole, gains)) = (reads, (ap ending_as ending, count, read_whole ended i whole, gains))

pub broke_off : (find : List ℕ → Found) (f : InputFault) (limit : ℕ) (i o : Change) → Does find (Err f) limit i o → Works find (Err (trouble_of f)) limit i o
broke_off find input.Read limit i o done = done
broke_off find input.Write limit i o done = done
broke_off find input.Memory limit i o done = done
