-- A fault of a part, as reading tells of it.
use Rattle.std.proofs.Common.{◌≡◌, ℕ, Result, Err}
use Rattle.gfx_script.specs.declared.error.ScriptKind.{ScriptKind}
use Rattle.gfx_base.specs.declared.answer.Cause.{Cause}
use Rattle.gfx_base.specs.declared.answer.Cause.TheVariants.{Refused, Memory}
use Rattle.gfx_base.specs.Outcome.{Gives}
use Rattle.gfx_script_text.specs.Text.{Wrong}
use Rattle.gfx_script_text.specs.Told.{error_at, Reads}

-- a flaw of the step of this number, where the kind of such a fault is due
pub told_at : {X Y Z W : Type 0} (view : X → Y) (seen : Z → W) (found : Result Y ScriptKind) (due : Result W Wrong) (number : ℕ) (flaw : Cause ScriptKind)
    → ((kind : ScriptKind) → found ≡ Err kind → due ≡ Err record { step = number; kind = kind }) → Gives view (Err flaw) found → Reads seen (Err (error_at number flaw)) due
told_at view seen found due number Memory owes finds = tt
told_at view seen found due number (Refused kind) owes finds = owes kind finds

-- a flaw of one of many, where the kind of such a fault is due of all
pub passed_on : {X Y Z W : Type 0} (view : X → Y) (seen : Z → W) (found : Result Y ScriptKind) (due : Result W ScriptKind) (flaw : Cause ScriptKind)
    → ((kind : ScriptKind) → found ≡ Err kind → due ≡ Err kind) → Gives view (Err flaw) found → Gives seen (Err flaw) due
passed_on view seen found due Memory owes finds = tt
passed_on view seen found due (Refused kind) owes finds = owes kind finds
