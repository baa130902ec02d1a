-- Want of memory, where it may come.
use Rattle.std.proofs.Common.{◌≡◌, Bool, true, Result, Ok, Err, ap}
use Rattle.std.specs.Result.{is_ok}
use Rattle.gfx_base.specs.declared.answer.Cause.{Cause}
use Rattle.gfx_base.specs.declared.answer.Cause.TheVariants.{Refused, Memory}
use Rattle.gfx_base.specs.Outcome.{WantsOnlyIf}

-- any answer may come where memory may be wanting
pub wants_any : {X R : Type 0} (result : Result X (Cause R)) (may : Bool) → may ≡ true → WantsOnlyIf result may
wants_any (Ok x) may e = tt
wants_any (Err Memory) may e = e
wants_any (Err (Refused r)) may e = tt

-- and so where what is due is no refusal
pub wants_due : {X Y R : Type 0} (result : Result X (Cause R)) (due : Result Y R) (y : Y) → due ≡ Ok y → WantsOnlyIf result (is_ok due)
wants_due result due y e = wants_any result (is_ok due) (ap is_ok e)

-- what wants memory only where this holds wants it only where something wider does
pub wants_wider : {X R : Type 0} (result : Result X (Cause R)) (may wider : Bool) → WantsOnlyIf result may → (may ≡ true → wider ≡ true) → WantsOnlyIf result wider
wants_wider (Ok x) may wider w more = tt
wants_wider (Err Memory) may wider w more = more w
wants_wider (Err (Refused r)) may wider w more = tt
