-- The place that a look-up answers is the least.
use Rattle.std.proofs.Common.{◌≡◌, ◌≢◌, ◌⊎◌, inl, inr, ℕ, ◌<◌, ◌≤◌, true, false, List, length, Option, Some, None, refl, sym, ◌∙◌, arith}
use Rattle.std.specs.List.{position_or_len}
use Rattle.std.proofs.lemmas.Bool.{cases_lt}
use Rattle.std.proofs.lemmas.List.{get_or_past}
use Rattle.std.proofs.lemmas.List.Quantifiers.{position-Some}
use Rattle.std.proofs.lemmas.List.Sums.{fails_before_first}
use Rattle.gfx_base.specs.declared.pixel.Rgb.{Rgb}
use Rattle.gfx_clear_store.specs.Rings.{Places, IsLeast, least_place, slot_at, stands}
use Rattle.gfx_clear_store.proofs.Walks.{stands_is, is_stands, position_at}

-- a place that fails the test has other pixels
other : (pixels : List Rgb) (ring : Places) (place : ℕ) → stands pixels (slot_at ring place) ≡ false → slot_at ring place ≢ Some pixels
other pixels ring place fails is = let clash : true ≡ false = sym (is_stands pixels (slot_at ring place) is) ∙ fails in cc

pub is_least : (pixels : List Rgb) (ring : Places) → IsLeast pixels ring (least_place pixels ring)
is_least pixels ring = by (least_place pixels ring) refl
  where
    first : ℕ
    first = position_or_len (stands pixels) ring.slots

    by : (o : Option ℕ) → least_place pixels ring ≡ o → IsLeast pixels ring o
    by (Some least) e =
        let found = position-Some (stands pixels) ring.slots least None e in
        (stands_is pixels (slot_at ring least) found.1, λ place below. other pixels ring place (found.2 place below))
    by None e = λ place. side place (cases_lt first (length ring.slots)) (cases_lt place (length ring.slots))
      where
        side : (place : ℕ) → ((first < length ring.slots) ⊎ (length ring.slots ≤ first)) → ((place < length ring.slots) ⊎ (length ring.slots ≤ place)) → slot_at ring place ≢ Some pixels
        side place (inl some) w = let clash : Some first ≡ None = position_at ring.slots (stands pixels) first refl some ∙ e in absurd cc
        side place (inr none) (inl within) = other pixels ring place (fails_before_first (stands pixels) ring.slots place None (omega arith))
        side place (inr none) (inr past) = λ is. (let clash : None ≡ Some pixels = sym (get_or_past ring.slots place None past) ∙ is in cc)
