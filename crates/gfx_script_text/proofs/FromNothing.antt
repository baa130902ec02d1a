-- What is read of a text where the kept files have nothing.
use Rattle.std.proofs.Common.{◌≡◌, ◌∙◌, ◌≤◌, ap, subst, List, [], ℕ, length, Result, Ok, Err}
use Rattle.std.specs.Prelude.{IfOk}
use Rattle.gfx_bitmap_cache.specs.Slots.{Entry}
use Rattle.gfx_script.specs.declared.TheConstants.{MOST_PICTURES, MOST_STEPS_READ}
use Rattle.gfx_script.specs.Script.{IsAccepted}
use Rattle.gfx_script.specs.Scripted.{Script}
use Rattle.gfx_script_text.specs.declared.error.ScriptError.{ScriptError}
use Rattle.gfx_script_text.specs.Text.{script_kept, script_of}
use Rattle.gfx_script_text.specs.Told.{Reads}
use Rattle.gfx_script_text.proofs.Accepted.{accepted, few_pictures, few_steps, starts_with_nothing}
use Rattle.gfx_script_text.proofs.Documents.{kept_none}

module _ (result : Result Script ScriptError) (bytes : List ℕ) where
  -- it is what is read without them
  pub read_none : (server client : List Entry) → client ≡ [] → Reads (λ (script : Script). script) result (script_kept server client bytes)
      → Reads (λ (script : Script). script) result (script_of bytes)
  read_none server client none due = subst (Reads (λ (script : Script). script) result) (ap (λ files. script_kept server files bytes) none ∙ kept_none server bytes) due

pub read_good : (result : Result Script ScriptError) (bytes : List ℕ) → Reads (λ (script : Script). script) result (script_of bytes) → IfOk result IsAccepted
read_good (Ok script) bytes due = accepted bytes script due
read_good (Err error) bytes due = tt

-- and there is no bitmap before the first step
pub read_empty : (result : Result Script ScriptError) (bytes : List ℕ) → Reads (λ (script : Script). script) result (script_of bytes)
    → IfOk result (λ script. script.start ≡ [])
read_empty (Ok script) bytes due = starts_with_nothing bytes script due
read_empty (Err error) bytes due = tt

-- and its pictures are as few as those of every script that is read
pub read_few : (result : Result Script ScriptError) (bytes : List ℕ) → Reads (λ (script : Script). script) result (script_of bytes)
    → IfOk result (λ script. length script.pictures ≤ MOST_PICTURES)
read_few (Ok script) bytes due = few_pictures bytes script due
read_few (Err error) bytes due = tt

-- and so are its steps
pub read_steps_few : (result : Result Script ScriptError) (bytes : List ℕ) → Reads (λ (script : Script). script) result (script_of bytes)
    → IfOk result (λ script. length script.steps ≤ MOST_STEPS_READ)
read_steps_few (Ok script) bytes due = few_steps bytes script due
read_steps_few (Err error) bytes due = tt
