-- Want of memory, where a client may have it.
use Rattle.std.proofs.Common.{◌≡◌, ◌∙◌, ◌==◌, Bool, true, false, List, [], ℕ, length, Option, Err, cond, refl, sym, ap}
use Rattle.std.proofs.lemmas.Bool.{eqb-true}
use Rattle.std.proofs.lemmas.List.{nil_from_length}
use Rattle.gfx_base.specs.Outcome.{WantsOnlyIf}
use Rattle.gfx_base.specs.declared.answer.Cause.{Cause}
use Rattle.gfx_base.specs.declared.answer.Cause.TheVariants.{Refused, Memory}
use Rattle.gfx_base.specs.declared.refusal.Refusal.{Refusal}
use Rattle.gfx_layout.specs.Header.{is_headed, size_of}
use Rattle.gfx_pdu.specs.Id.{id_of_number}
use Rattle.gfx_segment.specs.Framing.{may_give}
use Rattle.gfx_state.specs.Cursor.{Cursor}
use Rattle.gfx_client.specs.Client.{cursor_of, IsAtPayloadEnd, OpensMessage, TakesMessage}
use Rattle.gfx_client.specs.Wanting.{may_want}
use Rattle.gfx_client.specs.declared.client.Client.{Client}
use Rattle.gfx_client.specs.declared.stepped.Stepped.{Stepped}
use Rattle.gfx_client.proofs.ClientLemmas.{left_at_end}

-- a fault that is passed on
pub wants_passed : (X Y : Type 0) {R : Type 0} (f : Cause R) (may : Bool) → WantsOnlyIf {X = X} (Err f) may → WantsOnlyIf {X = Y} (Err f) may
wants_passed X Y Memory may w = w
wants_passed X Y (Refused r) may w = tt

-- no bytes begin with a header
no_header : (bytes : List ℕ) → bytes ≡ [] → is_headed id_of_number bytes ≡ false
unfolding size_of
no_header bytes none = ap (is_headed id_of_number) none

-- where a header is accepted, bytes are left
headed_wants : (at : Cursor) → is_headed id_of_number at.left ≡ true → may_want at ≡ true
headed_wants at headed =
    elim (length at.left == 0) as (λ b. length at.left == 0 ≡ b → cond b (may_give at.splitter) (is_headed id_of_number at.left) ≡ true) [
      | true ↦ λ zero. let no : false ≡ true = sym (no_header at.left (nil_from_length at.left (eqb-true (length at.left) 0 zero))) ∙ headed in absurd cc
      | false ↦ λ some. headed
    ] refl

-- where none are left, it is for the channel message
ended_wants : (at : Cursor) → at.left ≡ [] → may_give at.splitter ≡ true → may_want at ≡ true
ended_wants at none gives = ap (λ (left : List ℕ). cond (length left == 0) (may_give at.splitter) (is_headed id_of_number left)) none ∙ gives

-- a message wasn't taken
pub message_wants : (old new : Client) (f : Cause Refusal) → TakesMessage (Err f) old new → WantsOnlyIf {X = Option Stepped} (Err f) (is_headed id_of_number (cursor_of old).left)
    → WantsOnlyIf {X = Stepped} (Err f) (may_want (cursor_of new))
message_wants old new Memory same w = ap (λ z. may_want (cursor_of z)) same ∙ headed_wants (cursor_of old) w
message_wants old new (Refused r) refused w = tt

-- a channel message wasn't opened
pub channel_wants : (old new : Client) (f : Cause Refusal) → IsAtPayloadEnd old → OpensMessage (Err f) old new → WantsOnlyIf {X = Bool} (Err f) (may_give (cursor_of old).splitter)
    → WantsOnlyIf {X = Stepped} (Err f) (may_want (cursor_of new))
channel_wants old new Memory end same w = ap (λ z. may_want (cursor_of z)) same ∙ ended_wants (cursor_of old) (left_at_end (cursor_of old).left end) w
channel_wants old new (Refused r) end refused w = tt
