use Rattle.std.proofs.Common.{◌≡◌, false, sym, subst, IfOk, IfSome, Result, Ok, Err}
use Rattle.std.specs.Result.{result_ok}
use Rattle.gfx_base.specs.declared.answer.NoMemory.{NoMemory}
use Rattle.gfx_script.specs.Checks.{held_first, sides_of_all}
use Rattle.gfx_script.specs.Scripted.{Script}
use Rattle.gfx_session.specs.Kept.{IsServerEnd, IsServerEndFrom}
use Rattle.gfx_session.specs.declared.digests.Digests.{Digests}
use Rattle.gfx_session.specs.declared.digests.Digests.TheVariants.{Off}
use Rattle.gfx_session.specs.declared.server_end.ServerEnd.{ServerEnd}
use Rattle.server_example.proofs.start.Goals as goal

is_one : (result : Result ServerEnd NoMemory) (script : Script) (asked : Digests) → IfOk result (λ end. IsServerEndFrom (held_first (sides_of_all script.pictures) script.small) end × (end.script ≡ script) × (end.closed ≡ false) × (end.digests ≡ asked)) → IfSome (result_ok result) IsServerEnd
is_one (Ok end) script asked is = (_, is.0)
is_one (Err e) script asked is = tt

pub returns-in-Ok : goal.returns-in-Ok
returns-in-Ok c = subst (λ z. IfSome z IsServerEnd) (sym c.ok.ensures.value) (is_one c.new.result c.in-Ok.script Off c.new.ensures.is)
