-- What is taken is shared, within the limits, and as long as it can be.
use Rattle.std.proofs.Common.{◌≡◌, sym, refl, subst, cond, Bool, true, false, ◌&&◌, nat_lt, nat_le, ◌==◌, ℕ, ◌+◌, ◌-◌, ◌≤◌, ◌<◌, List, [], ◌∷◌, Option, Some, None, zero, suc, inl, inr, arith}
use Rattle.std.specs.Prelude.{◌⊎◌}
use Rattle.std.proofs.lemmas.Bool.Decides.{nat_tests}
use Rattle.std.proofs.lemmas.Bool.{eqb-true}
use Rattle.std.proofs.lemmas.List.Sums.{sum_by-cons}
use Rattle.gfx_bitmap_cache.specs.Slots.{Image, Entry, entry, bytes_for, bytes_of, last_slot, budget}
use Rattle.gfx_import.specs.Entries.{image_at}
use Rattle.gfx_import.specs.Offered.{offered_of, offers_of}
use Rattle.gfx_import.specs.Imported.{with_length, taken}
use Rattle.gfx_import.specs.Taking.{fits, found_in}
use Rattle.gfx_import.specs.Chosen.{IsLeftOut, IsEnded, IsChosen, ImportedIsChosen}
use Rattle.gfx_import.proofs.KeyLemmas.{both_true}
use Rattle.gfx_import.proofs.TakingLemmas.{chosen, not_chosen, taken-one, taken-none, taken-end}

-- what fits is the server's, of this length, within the room
record Fits (found : Option Image) (size slots room : ℕ) (image : Image) : Type 0 where
  there : found ≡ Some image
  long : bytes_for image.width image.height ≡ size
  slot : 0 < slots
  within : bytes_for image.width image.height ≤ room

fits-of : (found : Option Image) (size slots room : ℕ) (image : Image) → found_in slots room (with_length size found) ≡ Some image → Fits found size slots room image
fits-of None size slots room image e = absurd cc
fits-of (Some held) size slots room image e = by (bytes_for held.width held.height == size) refl e
  where
    by : (b : Bool) → (bytes_for held.width held.height == size) ≡ b → found_in slots room (cond b (Some held) None) ≡ Some image → Fits (Some held) size slots room image
    by false same e = absurd cc
    by true same e =
        let is = chosen (fits slots room held) held image e in
        let fit = both_true (nat_lt 0 slots) (nat_le (bytes_for held.width held.height) room) is.0 in
        let low : 0 < slots = grind (arith, nat_tests, fit.0) in
        let room_for : bytes_for held.width held.height ≤ room = grind (arith, nat_tests, fit.1) in
        subst (λ z. Fits (Some held) size slots room z) is.1 record { there = refl; long = eqb-true _ _ same; slot = low; within = room_for }

-- what doesn't is left out behind none
left_out : (server : List Entry) (one : Entry) (slots room : ℕ) → found_in slots room (with_length (bytes_of one) (image_at server one.key)) ≡ None → IsLeftOut server slots room [] one
left_out server one slots room = by (image_at server one.key)
  where
    under : (size : ℕ) (held : Image) (b : Bool) → (bytes_for held.width held.height == size) ≡ b → found_in slots room (cond b (Some held) None) ≡ None
        → (cond b (Some held) None ≡ None) ⊎ ((0 ≡ slots) ⊎ (room < 0 + size))
    under size held false same e = inl refl
    under size held true same e = full slots (bytes_for held.width held.height) (eqb-true _ _ same) (not_chosen (fits slots room held) held e)
      where
        full : (slots bytes : ℕ) → bytes ≡ size → (nat_lt 0 slots && nat_le bytes room) ≡ false → (Some held ≡ None) ⊎ ((0 ≡ slots) ⊎ (room < 0 + size))
        full zero bytes long e = inr (inl refl)
        full (suc slots) bytes long e = inr (inr (over (nat_le bytes room) refl e))
          where
            over : (b : Bool) → nat_le bytes room ≡ b → (nat_lt 0 (suc slots) && b) ≡ false → room < 0 + size
            over false test e = grind (arith, nat_tests)
            over true test e = let some : nat_lt 0 (suc slots) ≡ true = grind (arith, nat_tests) in absurd cc

    by : (found : Option Image) → found_in slots room (with_length (bytes_of one) found) ≡ None → (with_length (bytes_of one) found ≡ None) ⊎ ((0 ≡ slots) ⊎ (room < 0 + bytes_of one))
    by None e = inl refl
    by (Some held) e = under (bytes_of one) held (bytes_for held.width held.height == bytes_of one) refl e

-- the end of the others is the end of all
ended : (server list rest : List Entry) (first : Entry) (slots less room left : ℕ) → less + 1 ≡ slots → left ≡ room - bytes_of first → bytes_of first ≤ room
    → IsEnded server less left list rest → IsEnded server slots room (first ∷ list) rest
ended server list [] first slots less room left e f g is = tt
ended server list (one ∷ rest) first slots less room left e f g (inl none) = inl none
ended server list (one ∷ rest) first slots less room left e f g (inr (inl full)) = inr (inl (omega arith))
ended server list (one ∷ rest) first slots less room left e f g (inr (inr over)) = inr (inr (omega (arith, sum_by-cons bytes_of first list)))

pub taken-chosen : (server client : List Entry) (slots room : ℕ) → IsChosen server client slots room (taken server slots room (offers_of client))
taken-chosen server [] slots room =
    subst (IsChosen server [] slots room) (sym (taken-end server slots room)) record { shared = tt; few = omega arith; small = omega arith; ended = tt }
taken-chosen server (one ∷ client) slots room = by (found_in slots room (with_length (bytes_of one) (image_at server one.key))) refl (λ less left. taken-chosen server client less left)
  where
    by : (found : Option Image) → found_in slots room (with_length (bytes_of one) (image_at server one.key)) ≡ found
        → ((less left : ℕ) → IsChosen server client less left (taken server less left (offers_of client)))
        → IsChosen server (one ∷ client) slots room (taken server slots room (offered_of one ∷ offers_of client))
    by None e others =
        subst (IsChosen server (one ∷ client) slots room) (sym (taken-none server (offered_of one) (offers_of client) slots room e))
        record { shared = tt; few = omega arith; small = omega arith; ended = left_out server one slots room e }
    by (Some image) e others =
        let fit = fits-of (image_at server one.key) (bytes_of one) slots room image e in
        let first = entry one.key image in
        let less : slots - 1 + 1 ≡ slots = omega (arith, fit.slot) in
        let rest = others (slots - 1) (room - bytes_of first) in
        subst (IsChosen server (one ∷ client) slots room)
        (sym (taken-one server (offered_of one) (offers_of client) slots (slots - 1) room (room - bytes_of first) image e less refl))
        record {
          shared = (refl, (fit.there, (fit.long, rest.shared)));
          few = omega (arith, rest.few, less);
          small = omega (arith, rest.small, fit.within, sum_by-cons bytes_of first (taken server (slots - 1) (room - bytes_of first) (offers_of client)));
          ended = ended server _ _ first slots (slots - 1) room (room - bytes_of first) less refl fit.within rest.ended;
        }

pub imported-chosen : ImportedIsChosen
imported-chosen server client small = taken-chosen server client (last_slot small) (budget small)
