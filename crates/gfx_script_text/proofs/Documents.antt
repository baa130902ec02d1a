-- The script of bytes, by whether they are UTF-8.
use Rattle.std.proofs.Common.{◌≡◌, Bool, List, [], ℕ, true, Result, Ok, Err, sym, ap, ◌∙◌, inl, inr}
use Rattle.std.specs.Prelude.{IfErr}
use Rattle.std.proofs.lemmas.Bool.{cases_Bool}
use Rattle.std.proofs.lemmas.Str.{IsUtf8-from_is_utf8, is_utf8-from_IsUtf8}
use Rattle.std.specs.Str.{IsUtf8, is_utf8}
use Rattle.gfx_base.proofs.ResultLemmas.{and_then_at}
use Rattle.gfx_base.specs.Results.{and_then, check}
use Rattle.gfx_bitmap_cache.specs.Slots.{Entry, budget, last_slot}
use Rattle.gfx_import.specs.Imported.{imported}
use Rattle.gfx_import.proofs.TakingLemmas.{taken-end}
use Rattle.gfx_script.specs.declared.error.ScriptKind.TheVariants.{Toml}
use Rattle.gfx_script.specs.declared.start.StartBitmap.{StartBitmap}
use Rattle.gfx_script.specs.Parts.{parts_seen}
use Rattle.gfx_script.specs.Scripted.{Script}
use Rattle.gfx_script.specs.Starting.{starts_of}
use Rattle.gfx_script_text.specs.declared.error.ScriptError.{ScriptError}
use Rattle.gfx_script_text.specs.declared.error.ScriptError.TheVariants.{Fault, Memory}
use Rattle.gfx_script_text.specs.Text.{at_step, script_from, script_in, script_kept, script_of}
use Rattle.gfx_script_text.specs.Told.{Reads}

module _ (starts : Bool → List StartBitmap) (bytes : List ℕ) where
  -- bytes that are UTF-8 are the script of their text
  from_read : (text : List ℕ) → text ≡ bytes → IsUtf8 bytes → script_from starts bytes ≡ script_in starts text
  unfolding script_from
  from_read text same utf8 =
      and_then_at (at_step 0 (check Toml (is_utf8 bytes))) tt _ (ap (λ b. at_step 0 (check Toml b)) (is_utf8-from_IsUtf8 bytes utf8)) ∙ ap (script_in starts) (sym same)

  -- others are none
  from_other : (IsUtf8 bytes → ⊥) → script_from starts bytes ≡ Err record { step = 0; kind = Toml }
  unfolding script_from and_then
  from_other other =
      elim (cases_Bool (is_utf8 bytes)) [
        | inl utf8 ↦ absurd (other (IsUtf8-from_is_utf8 bytes utf8))
        | inr none ↦ ap (λ b. and_then (at_step 0 (check Toml b)) (λ _. script_in starts bytes)) none
      ]

module _ (server client : List Entry) (bytes : List ℕ) where
  -- the same where these are imported
  pub script_read : (text : List ℕ) → text ≡ bytes → IsUtf8 bytes → script_kept server client bytes ≡ script_in (λ small. starts_of (imported server client small)) text
  unfolding script_kept
  script_read text same utf8 = from_read (λ small. starts_of (imported server client small)) bytes text same utf8

  pub script_other : (IsUtf8 bytes → ⊥) → script_kept server client bytes ≡ Err record { step = 0; kind = Toml }
  unfolding script_kept
  script_other other = from_other (λ small. starts_of (imported server client small)) bytes other

  -- a fault of the text is one of the bytes
  pub fault_read : (text : List ℕ) (error : ScriptError) → text ≡ bytes → IsUtf8 bytes
      → Reads parts_seen (Err error) (script_in (λ small. starts_of (imported server client small)) text) → Reads (λ (script : Script). script) (Err error) (script_kept server client bytes)
  fault_read text Memory same utf8 due = tt
  fault_read text (Fault step kind) same utf8 due = script_read text same utf8 ∙ due

-- where bytes are UTF-8, memory may be wanting
pub may_want : {X : Type 0} (bytes : List ℕ) (result : Result X ScriptError) → IsUtf8 bytes → IfErr result (λ error. error ≡ Memory → is_utf8 bytes ≡ true)
may_want bytes (Ok x) utf8 = tt
may_want bytes (Err error) utf8 = λ _. is_utf8-from_IsUtf8 bytes utf8

-- of files with nothing, nothing is imported
none_imported : (server : List Entry) (small : Bool) → imported server [] small ≡ []
none_imported server small = taken-end server (last_slot small) (budget small)

pub kept_none : (server : List Entry) (bytes : List ℕ) → script_kept server [] bytes ≡ script_of bytes
unfolding script_kept script_of
kept_none server bytes = λ i. script_from (λ small. starts_of (none_imported server small i)) bytes
