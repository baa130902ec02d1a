-- What a client's messages have written, through its calls.
use Rattle.std.proofs.Common.{◌≡◌, List, ℕ, false, Option, Some, None, Result, Ok, Err, IsTrue, refl, sym, ap, ◌∙◌}
use Rattle.std.specs.Prelude.{OnOk}
use Rattle.gfx_client.specs.declared.client.Client.{Client}
use Rattle.gfx_client.specs.declared.fault.ClientFault.{ClientFault}
use Rattle.gfx_client.specs.declared.stepped.Stepped.{Stepped}
use Rattle.gfx_client.specs.declared.stepped.Stepped.TheVariants as stepped
use Rattle.gfx_client.specs.Client.{cursor_of, closed_by, damage_of, MovesBy, Steps, Takes}
use Rattle.gfx_client.proofs.NextEffects.{still_coming}
use Rattle.gfx_client.proofs.Playing.{open_step}
use Rattle.gfx_damage.specs.Damage.{Damage}
use Rattle.gfx_damage.specs.History.{damaged}
use Rattle.gfx_state.specs.Cursor.{given}
use Rattle.gfx_state.specs.History.{coming}
use Rattle.gfx_state.proofs.Coming.{coming_needs}

-- what its damage will come to with no more input
abbrev pub due_damage : Client → Damage
due_damage client = damaged (damage_of client) (cursor_of client).state (coming (cursor_of client))

-- a message that is applied was due
moved_due : (old new : Client) (said : Stepped) → MovesBy old new said → due_damage new ≡ due_damage old
moved_due old new said m =
    ap (λ (d : Damage). damaged d (cursor_of new).state (coming (cursor_of new))) m.damage
    ∙ sym (ap (λ z. damaged (damage_of old) (cursor_of old).state z) m.first)

pub still_due : (old new : Client) (said : Stepped) → (said ≡ stepped.Need → IsTrue false) → closed_by old ≡ None → Steps (closed_by old) (Ok said) old new → due_damage new ≡ due_damage old
still_due old new stepped.Need other none s = let more = other refl in absurd cc
still_due old new said other none s = moved_due old new said (open_step old new (Ok said) none s)

-- where more bytes are needed, nothing is due
pub noted_all : (old new : Client) → closed_by old ≡ None → Steps (closed_by old) (Ok stepped.Need) old new → damage_of new ≡ due_damage old
noted_all old new none s =
    let w = open_step old new (Ok stepped.Need) none s in
    w.damage ∙ sym (ap (λ z. damaged (damage_of old) (cursor_of old).state z) (still_coming (cursor_of old) (cursor_of new) w.moves.reaches ∙ coming_needs (cursor_of new) w.needs))

-- a piece is taken and then all is applied
taken_is : (closed : Option ClientFault) (old mid : Client) (piece : List ℕ) → Takes closed (Ok tt) old mid piece → cursor_of mid ≡ given (cursor_of old) piece
taken_is (Some f) old mid piece t = let same = t.0 in absurd cc
taken_is None old mid piece t = t.0

pub played_damage : (closed : Option ClientFault) (old mid new : Client) (piece : List ℕ) (result : Result (Unit {0}) ClientFault) → Takes closed (Ok tt) old mid piece → damage_of mid ≡ damage_of old
    → OnOk result (damage_of new ≡ due_damage mid) → OnOk result (damage_of new ≡ damaged (damage_of old) (cursor_of old).state (coming (given (cursor_of old) piece)))
played_damage closed old mid new piece (Ok done) took same noted =
    noted ∙ (λ i. damaged (same i) (taken_is closed old mid piece took i).state (coming (taken_is closed old mid piece took i)))
played_damage closed old mid new piece (Err f) took same noted = noted
