-- Want of memory where a message is applied and noted.
use Rattle.std.proofs.Common.{◌≡◌, ◌∙◌, ℕ, true, List, Option, Some, None, Result, is_some, refl, sym, ap}
use Rattle.gfx_base.proofs.Wanting.{wants_any, wants_wider}
use Rattle.gfx_base.specs.Outcome.{WantsOnlyIf}
use Rattle.gfx_base.specs.declared.answer.Cause.{Cause}
use Rattle.gfx_base.specs.declared.geometry.Rect.{Rect}
use Rattle.gfx_base.specs.declared.refusal.Refusal.{Refusal}
use Rattle.gfx_pdu.specs.declared.pdu.Pdu.{Pdu}
use Rattle.gfx_state.specs.Memory.{takes_memory}
use Rattle.gfx_state.specs.State.{State}
use Rattle.gfx_state.specs.Written.{written}
use Rattle.gfx_damage.specs.Drawing.{drawing_in}
use Rattle.gfx_damage.specs.Memory.{may_want}
use Rattle.gfx_damage.specs.declared.drawing.Drawing.{Drawing}
use Rattle.gfx_damage.proofs.MarkLemmas.{first-or, second-or}

module _ {X : Type 0} (state : State) (pdu : Pdu) (result : Result X (Cause Refusal)) where
  -- its effect takes some
  pub effect_wants : WantsOnlyIf result (takes_memory state pdu) → WantsOnlyIf result (may_want state pdu)
  effect_wants wants = wants_wider result (takes_memory state pdu) (may_want state pdu) wants (λ takes. first-or (takes_memory state pdu) (is_some (written state pdu)) takes)

  -- it writes on a surface that is there
  pub note_wants : is_some (written state pdu) ≡ true → WantsOnlyIf result (may_want state pdu)
  note_wants writes = wants_any result (may_want state pdu) (second-or (takes_memory state pdu) (is_some (written state pdu)) writes)

some_drawn : (drawing : Option Drawing) → is_some drawing ≡ true → is_some (drawing_in drawing) ≡ true
some_drawn None e = e
some_drawn (Some one) e = refl

-- what is drawn is written
pub drawn_written : (drawing : Option Drawing) (drawn : Option (ℕ × List Rect)) → drawing_in drawing ≡ drawn → is_some drawing ≡ true → is_some drawn ≡ true
drawn_written drawing drawn same e = sym (ap is_some same) ∙ some_drawn drawing e
