-- A client as what a recording is given to, and how a recording ends that was given to it.
use Rattle.std.specs.Prelude.{ℕ, List, Result, Err}
use Rattle.gfx_base.specs.declared.refusal.Refusal.{Refusal}
use Rattle.gfx_client.specs.declared.client.Client.{Client}
use Rattle.gfx_client.specs.declared.fault.ClientFault.{ClientFault}
use Rattle.gfx_client.specs.declared.fault.ClientFault.TheVariants as fault
use Rattle.gfx_client.specs.Standing.{StandsFor, IsDrained, IsRefused}
use Rattle.gfx_input.specs.declared.reading.Read.{Read}
use Rattle.gfx_input.specs.declared.reading.Read.TheVariants as read
use Rattle.gfxpipe.specs.declared.ending.Ending.{Ending}
use Rattle.gfxpipe.specs.declared.ending.Ending.TheVariants.{Done, TooLong, Refused}

-- it has taken these bytes, and applied all that is whole in them
abbrev pub HasPlayed : Client → List ℕ → Type 0
HasPlayed client bytes = StandsFor client bytes × IsDrained client

-- it has refused these bytes, at some message
pub record HasRefused (client : Client) (bytes : List ℕ) : Type 0 where
  pub number : ℕ
  pub reason : Refusal
  pub refused : IsRefused client bytes number reason

-- how a recording ends, by why it was read no further and what its client says of its end
abbrev pub ending_by : Read → Result (Unit {0}) ClientFault → Ending
ending_by read.TooLong answer = TooLong
ending_by read.Whole (Err (fault.Refused number r)) = Refused number r
ending_by read.Stopped (Err (fault.ClosedRefused number r)) = Refused number r
ending_by other answer = Done
