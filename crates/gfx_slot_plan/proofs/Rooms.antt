-- What is made room for, and how many keys go for it.
use Rattle.std.proofs.Common.{◌≡◌, ◌∙◌, ◌⊎◌, ◌≢◌, ◌<◌, ◌≤◌, ◌+◌, not, inl, inr, ap, cond, Bool, true, false, ℕ, zero, suc, List, [], ◌∷◌, length, take, Some, nat_le, refl, arith}
use Rattle.std.specs.Prelude.{slice_get, slice_index}
use Rattle.std.proofs.lemmas.Bool.{and_parts, cases_eq}
use Rattle.std.proofs.lemmas.Bool.Decides.{nat_tests}
use Rattle.gfx_slot_plan.specs.Pool.{is_none}
use Rattle.gfx_slot_plan.specs.Plan.{Allocations, total, is_used, free_slots, takes_more, staying, left_for, least_free, without}
use Rattle.gfx_slot_plan.proofs.Dropping.{denied}
use Rattle.gfx_slot_plan.proofs.Order.{room_alone, staying_stops, staying_goes}
use Rattle.gfx_slot_plan.proofs.Ranges.{first_passes}

-- there is room for so many bytes in the least free slot
pub record Room (last most bytes : ℕ) (left : Allocations) : Type 0 where
  pub from : 1 ≤ least_free last left
  pub to : least_free last left ≤ last
  pub unused : is_used left (least_free last left) ≡ false
  pub within : total left + bytes ≤ most

first_there : (xs : List ℕ) → not (is_none xs) ≡ true → slice_get xs 0 ≡ Some (slice_index xs 0)
first_there [] some = absurd cc
first_there (x ∷ xs) some = refl

pub room_of : (last most bytes : ℕ) (left : Allocations) → takes_more last most bytes left ≡ true → Room last most bytes left
room_of last most bytes left room =
    let parts = and_parts (not (is_none (free_slots last left))) (nat_le (total left + bytes) most) room in
    let first = first_passes (λ slot. not (is_used left slot)) 1 last (least_free last left) (first_there (free_slots last left) parts.0) in
    let below : least_free last left < 1 + last = first.1.0 in
    record {
      from = first.0;
      to = omega (arith, below);
      unused = denied (is_used left (least_free last left)) first.1.1;
      within = (let test = parts.1 in grind (arith, nat_tests));
    }

-- those that stay leave room
pub room_left : (last most bytes : ℕ) (places : Allocations) (n : ℕ) → 1 ≤ last → bytes ≤ most
    → takes_more last most bytes (take (staying last most bytes places n) places) ≡ true
room_left last most bytes places zero first alone = room_alone last most bytes first alone
room_left last most bytes places (suc n) first alone = by (takes_more last most bytes (take (suc n) places)) refl (room_left last most bytes places n first alone)
  where
    by : (b : Bool) → takes_more last most bytes (take (suc n) places) ≡ b → takes_more last most bytes (take (staying last most bytes places n) places) ≡ true
        → takes_more last most bytes (take (staying last most bytes places (suc n)) places) ≡ true
    by true room rest = ap (λ k. takes_more last most bytes (take k places)) (staying_stops last most bytes places (suc n) room) ∙ room
    by false full rest = ap (λ k. takes_more last most bytes (take k places)) (staying_goes last most bytes places n full) ∙ rest

-- where a key is kept, the least slot that no other has is free, and the bytes are within the limit
pub room_for : (last most key bytes : ℕ) (places : Allocations) → 1 ≤ last → bytes ≤ most
    → Room last most bytes (left_for last most bytes (without key places))
room_for last most key bytes places first alone =
    room_of last most bytes (left_for last most bytes (without key places)) (room_left last most bytes (without key places) (length (without key places)) first alone)

-- and with more of them there would be none
pub none_needlessly : (last most bytes : ℕ) (places : Allocations) (n more : ℕ) → staying last most bytes places n < more → more ≤ n
    → takes_more last most bytes (take more places) ≡ false
none_needlessly last most bytes places zero more over within = absurd (omega arith)
none_needlessly last most bytes places (suc n) more over within =
    by (takes_more last most bytes (take (suc n) places)) refl (cases_eq more (suc n)) (none_needlessly last most bytes places n more)
  where
    by : (b : Bool) → takes_more last most bytes (take (suc n) places) ≡ b → ((more ≡ suc n) ⊎ (more ≢ suc n))
        → (staying last most bytes places n < more → more ≤ n → takes_more last most bytes (take more places) ≡ false)
        → takes_more last most bytes (take more places) ≡ false
    by true room at rest = let all : staying last most bytes places (suc n) ≡ suc n = staying_stops last most bytes places (suc n) room in absurd (omega arith)
    by false full (inl same) rest = ap (λ k. takes_more last most bytes (take k places)) same ∙ full
    by false full (inr apart) rest =
        let fewer : staying last most bytes places (suc n) ≡ staying last most bytes places n = staying_goes last most bytes places n full in
        rest (omega arith) (omega arith)

-- no more stay than there are
pub staying_most : (last most bytes : ℕ) (places : Allocations) (n : ℕ) → staying last most bytes places n ≤ n
staying_most last most bytes places zero = omega arith
staying_most last most bytes places (suc n) = by (takes_more last most bytes (take (suc n) places)) (staying_most last most bytes places n)
  where
    by : (b : Bool) → staying last most bytes places n ≤ n → cond b (suc n) (staying last most bytes places n) ≤ suc n
    by true less = omega arith
    by false less = omega arith
