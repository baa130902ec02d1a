-- Keys that are kept one after another in a plan with none.
use Rattle.std.proofs.Common.{◌≡◌, ◌∙◌, ◌⊎◌, ◌≢◌, ◌<◌, ◌≤◌, ◌+◌, ◌&&◌, ◌||◌, not, inl, inr, ap, sym, refl, subst, nat_eq, nat_le, Bool, true, false, ℕ, List, [], ◌∷◌, ◌++◌, map, length, take, drop, Option, Some, None, Ok, arith}
use Rattle.std.specs.Prelude.{slice_get, slice_index}
use Rattle.std.specs.List.{AllByRecursion, IsDistinct, sum_by}
use Rattle.std.specs.Map.{lookup}
use Rattle.std.specs.Option.{option_map, option_to_list}
use Rattle.std.proofs.lemmas.Bool.{cases_eq}
use Rattle.std.proofs.lemmas.Bool.Decides.{nat_tests}
use Rattle.std.proofs.lemmas.List.{drop_all, take_all}
use Rattle.std.proofs.lemmas.List.Sums.{sum_by-cons}
use Rattle.std.proofs.lemmas.Map.Keys.{IsDistinct-head, IsDistinct-tail}
use Rattle.gfx_base.specs.declared.refusal.Refusal.TheVariants.{CacheBudget}
use Rattle.gfx_base.specs.Results.{check}
use Rattle.gfx_base.proofs.ResultLemmas.{and_then_at}
use Rattle.gfx_bitmap_cache.specs.Slots.{last_slot, budget, bytes_for}
use Rattle.gfx_slot_plan.specs.declared.allocation.Allocation.{Allocation}
use Rattle.gfx_slot_plan.specs.Pool.{is_none}
use Rattle.gfx_slot_plan.specs.Plan.{Allocations, AreKeys, AreSlots, IsPlan, chosen, free_slots, gone_for, is_used, keeps, least_free, left_for, place, plan, slot_of, slots_back, staying, takes_more, total, without}
use Rattle.gfx_slot_plan.specs.Started.{placed_from, plan_with, KeepsInTurn}
use Rattle.gfx_slot_plan.proofs.Order.{not_among, staying_stops}
use Rattle.gfx_slot_plan.proofs.Ranges.{first_from, some_from}
use Rattle.gfx_slot_plan.proofs.UseOrder.{skip}

-- ---- behind some keys others go on

pub placed_append : (places : Allocations) (at : ℕ) (front more : List (ℕ × ℕ)) → placed_from places at (front ++ more) ≡ placed_from (placed_from places at front) (at + length front) more
placed_append places at [] more =
    let same : at ≡ at + length {A = ℕ × ℕ} [] = omega arith in
    ap (λ n. placed_from places n more) same
placed_append places at (one ∷ front) more =
    let next : Allocations = (one.0, place at one.1) ∷ places in
    let same : at + 1 + length front ≡ at + length (one ∷ front) = omega arith in
    placed_append next (at + 1) front more ∙ ap (λ n. placed_from (placed_from next (at + 1) front) n more) same

-- one more, in the next slot and the most recently used
pub placed_last : (front : List (ℕ × ℕ)) (one : ℕ × ℕ) → placed_from [] 1 (front ++ one ∷ []) ≡ (one.0, place (length front + 1) one.1) ∷ placed_from [] 1 front
placed_last front one =
    let same : 1 + length front ≡ length front + 1 = omega arith in
    placed_append [] 1 front (one ∷ []) ∙ ap (λ n. (one.0, place n one.1) ∷ placed_from [] 1 front) same

-- how many bytes they take together
pub total_placed : (places : Allocations) (at : ℕ) (keys : List (ℕ × ℕ)) → total (placed_from places at keys) ≡ total places + sum_by (λ one. one.1) keys
total_placed places at [] = omega arith
total_placed places at (one ∷ more) =
    let rest = total_placed ((one.0, place at one.1) ∷ places) (at + 1) more in
    let first : total ((one.0, place at one.1) ∷ places) ≡ one.1 + total places = sum_by-cons (λ (h : ℕ × Allocation). h.1.bytes) (one.0, place at one.1) places in
    let sum : sum_by (λ (k : ℕ × ℕ). k.1) (one ∷ more) ≡ one.1 + sum_by (λ (k : ℕ × ℕ). k.1) more = sum_by-cons (λ (k : ℕ × ℕ). k.1) one more in
    omega (arith, rest)

-- ---- what holds of all holds of those in front

keys_behind : (places : Allocations) (at : ℕ) (more : List (ℕ × ℕ)) → AreKeys (placed_from places at more) → AreKeys places
keys_behind places at [] keys = keys
keys_behind places at (one ∷ more) keys = (keys_behind ((one.0, place at one.1) ∷ places) (at + 1) more keys).1

slots_behind : (last : ℕ) (places : Allocations) (at : ℕ) (more : List (ℕ × ℕ)) → AreSlots last (placed_from places at more) → AreSlots last places
slots_behind last places at [] slots = slots
slots_behind last places at (one ∷ more) slots = (slots_behind last ((one.0, place at one.1) ∷ places) (at + 1) more slots).3

plan_behind : (small : Bool) (places : Allocations) (at : ℕ) (more : List (ℕ × ℕ)) → IsPlan (plan (placed_from places at more) small) → IsPlan (plan places small)
plan_behind small places at more is = record {
  keys = keys_behind places at more is.keys;
  slots = slots_behind (last_slot small) places at more is.slots;
  within = (let all = is.within in omega (arith, total_placed places at more));
}

-- the first of the keys are a plan too
pub front_planned : (small : Bool) (front more : List (ℕ × ℕ)) → IsPlan (plan_with (front ++ more) small) → IsPlan (plan_with front small)
front_planned small front more is =
    plan_behind small (placed_from [] 1 front) (1 + length front) more (subst (λ l. IsPlan (plan l small)) (placed_append [] 1 front more) is)

-- a key may be kept behind these
pub record IsNext (small : Bool) (front : List (ℕ × ℕ)) (one : ℕ × ℕ) : Type 0 where
  pub before : IsPlan (plan_with front small)
  pub fresh : slot_of one.0 (plan_with front small).places ≡ None
  pub slot : length front < last_slot small
  pub room : sum_by (λ held. held.1) front + one.1 ≤ budget small

-- and so each of the keys of a plan
pub next_planned : (small : Bool) (front : List (ℕ × ℕ)) (one : ℕ × ℕ) (more : List (ℕ × ℕ)) → IsPlan (plan_with (front ++ one ∷ more) small) → IsNext small front one
next_planned small front one more is =
    let places = placed_from [] 1 front in
    let at = 1 + length front in
    let here : IsPlan (plan ((one.0, place at one.1) ∷ places) small) =
    plan_behind small ((one.0, place at one.1) ∷ places) (at + 1) more (subst (λ l. IsPlan (plan l small)) (placed_append [] 1 front (one ∷ more)) is) in
    let low : at ≤ last_slot small = here.slots.1 in
    let within = here.within in
    let first : total ((one.0, place at one.1) ∷ places) ≡ one.1 + total places = sum_by-cons (λ (h : ℕ × Allocation). h.1.bytes) (one.0, place at one.1) places in
    let all = total_placed [] 1 front in
    record {
      before = front_planned small front (one ∷ more) is;
      fresh = ap (option_map (λ (held : Allocation). held.slot)) here.keys.0;
      slot = omega (arith, low);
      room = omega (arith, within, first, all);
    }

-- ---- which slots are taken

used_still : (places : Allocations) (at : ℕ) (keys : List (ℕ × ℕ)) (n : ℕ) → is_used places n ≡ true → is_used (placed_from places at keys) n ≡ true
used_still places at [] n used = used
used_still places at (one ∷ more) n used = used_still ((one.0, place at one.1) ∷ places) (at + 1) more n (later (nat_eq n at) (is_used places n) used)
  where
    later : (a b : Bool) → b ≡ true → (a || b) ≡ true
    later true b holds = refl
    later false b holds = holds

used_below : (places : Allocations) (at : ℕ) (keys : List (ℕ × ℕ)) (n : ℕ) → at ≤ n → n < at + length keys → is_used (placed_from places at keys) n ≡ true
used_below places at [] n from below = absurd (omega arith)
used_below places at (one ∷ more) n from below = by (cases_eq n at) (λ on. used_below ((one.0, place at one.1) ∷ places) (at + 1) more n on)
  where
    by : ((n ≡ at) ⊎ (n ≢ at)) → (at + 1 ≤ n → n < at + 1 + length more → is_used (placed_from ((one.0, place at one.1) ∷ places) (at + 1) more) n ≡ true)
        → is_used (placed_from ((one.0, place at one.1) ∷ places) (at + 1) more) n ≡ true
    by (inl same) rest =
        let here : nat_eq n at ≡ true = grind (arith, nat_tests) in
        used_still ((one.0, place at one.1) ∷ places) (at + 1) more n (ap (λ b. b || is_used places n) here)
    by (inr apart) rest = rest (omega arith) (omega arith)

unused_past : (places : Allocations) (at : ℕ) (keys : List (ℕ × ℕ)) (n : ℕ) → at + length keys ≤ n → is_used places n ≡ false → is_used (placed_from places at keys) n ≡ false
unused_past places at [] n past unused = unused
unused_past places at (one ∷ more) n past unused =
    let long : at + 1 + length more ≤ n = omega arith in
    let apart : n ≢ at = λ same. omega arith in
    let differ : nat_eq n at ≡ false = grind (arith, nat_tests) in
    unused_past ((one.0, place at one.1) ∷ places) (at + 1) more n long (ap (λ b. b || is_used places n) differ ∙ unused)

no_slot : (found : Option Allocation) → option_map (λ held. held.slot) found ≡ None → found ≡ None
no_slot None none = refl
no_slot (Some held) none = absurd cc

turned : (x y : ℕ) → nat_eq x y ≡ nat_eq y x
turned x y = grind (arith, nat_tests)

past_at : (n at : ℕ) → at + 1 ≤ n → nat_eq n at ≡ false
past_at n at past = grind (arith, nat_tests)

first_is : (xs : List ℕ) (x : ℕ) → slice_get xs 0 ≡ Some x → slice_index xs 0 ≡ x
first_is [] x first = absurd cc
first_is (y ∷ ys) x first = cc

-- ---- one more key

module _ (last most bytes : ℕ) (keys : List (ℕ × ℕ)) where
  -- the next slot is the least that is free
  next_free : length keys < last → slice_get (free_slots last (placed_from [] 1 keys)) 0 ≡ Some (length keys + 1)
  next_free few =
      first_from (λ slot. not (is_used (placed_from [] 1 keys) slot)) 1 last (length keys + 1) (omega arith) (omega arith)
      (ap not (unused_past [] 1 keys (length keys + 1) (omega arith) refl))
      (λ q from below. ap not (used_below [] 1 keys q from (omega arith)))

  takes_next : length keys < last → sum_by (λ one. one.1) keys + bytes ≤ most → takes_more last most bytes (placed_from [] 1 keys) ≡ true
  takes_next few room =
      let some : is_none (free_slots last (placed_from [] 1 keys)) ≡ false =
      some_from (λ slot. not (is_used (placed_from [] 1 keys) slot)) 1 last (length keys + 1) (omega arith) (omega arith)
      (ap not (unused_past [] 1 keys (length keys + 1) (omega arith) refl)) in
      let all = total_placed [] 1 keys in
      let less : total (placed_from [] 1 keys) + bytes ≤ most = omega (arith, all) in
      let within : nat_le (total (placed_from [] 1 keys) + bytes) most ≡ true = grind (arith, nat_tests) in
      λ i. not (some i) && within i

  -- all stay
  all_stay : length keys < last → sum_by (λ one. one.1) keys + bytes ≤ most
      → staying last most bytes (placed_from [] 1 keys) (length (placed_from [] 1 keys)) ≡ length (placed_from [] 1 keys)
  all_stay few room =
      let all : take (length (placed_from [] 1 keys)) (placed_from [] 1 keys) ≡ placed_from [] 1 keys = take_all (length (placed_from [] 1 keys)) (placed_from [] 1 keys) (omega arith) in
      staying_stops last most bytes (placed_from [] 1 keys) (length (placed_from [] 1 keys)) (ap (takes_more last most bytes) all ∙ takes_next few room)

  all_left : length keys < last → sum_by (λ one. one.1) keys + bytes ≤ most → left_for last most bytes (placed_from [] 1 keys) ≡ placed_from [] 1 keys
  all_left few room =
      ap (λ n. take n (placed_from [] 1 keys)) (all_stay few room) ∙ take_all (length (placed_from [] 1 keys)) (placed_from [] 1 keys) (omega arith)

  none_gone : length keys < last → sum_by (λ one. one.1) keys + bytes ≤ most → gone_for last most bytes (placed_from [] 1 keys) ≡ []
  none_gone few room =
      ap (λ n. drop n (placed_from [] 1 keys)) (all_stay few room) ∙ drop_all (length (placed_from [] 1 keys)) (placed_from [] 1 keys) (omega arith)

chosen_next : (small : Bool) (keys : List (ℕ × ℕ)) (key bytes : ℕ) → slot_of key (placed_from [] 1 keys) ≡ None
    → length keys < last_slot small → sum_by (λ one. one.1) keys + bytes ≤ budget small
    → chosen (plan_with keys small) key bytes ≡ (plan_with (keys ++ (key, bytes) ∷ []) small, record { dropped = []; slot = length keys + 1 })
chosen_next small keys key bytes fresh few room =
    let places : Allocations = placed_from [] 1 keys in
    let others : without key places ≡ places = (not_among key places (no_slot (lookup (nat_eq key) places) fresh)).0 in
    let left : left_for (last_slot small) (budget small) bytes (without key places) ≡ places =
    ap (left_for (last_slot small) (budget small) bytes) others ∙ all_left (last_slot small) (budget small) bytes keys few room in
    let gone : gone_for (last_slot small) (budget small) bytes (without key places) ≡ [] =
    ap (gone_for (last_slot small) (budget small) bytes) others ∙ none_gone (last_slot small) (budget small) bytes keys few room in
    let slot : least_free (last_slot small) (left_for (last_slot small) (budget small) bytes (without key places)) ≡ length keys + 1 =
    ap (least_free (last_slot small)) left ∙ first_is (free_slots (last_slot small) places) (length keys + 1) (next_free (last_slot small) (budget small) bytes keys few) in
    (λ i. (plan ((key, place (slot i) bytes) ∷ left i) small, record { dropped = option_to_list (fresh i) ++ slots_back (gone i); slot = slot i }))
    ∙ sym (λ i. (plan (placed_last keys (key, bytes) i) small, record { dropped = []; slot = length keys + 1 }))

-- the law
pub keeps_in_turn : KeepsInTurn
unfolding keeps
keeps_in_turn small keys key width height is fresh few room =
    let alone : bytes_for width height ≤ budget small = omega (arith, room) in
    let fits : nat_le (bytes_for width height) (budget small) ≡ true = grind (arith, nat_tests) in
    and_then_at (check CacheBudget (nat_le (bytes_for width height) (budget small))) tt _ (ap (check CacheBudget) fits)
    ∙ ap Ok (chosen_next small keys key (bytes_for width height) fresh few room)

-- ---- keys of which none is there twice

-- a key that none of these has
differ_first : (key : ℕ) (one : ℕ × ℕ) (at : ℕ) (places : Allocations) → nat_eq one.0 key ≡ false → lookup (nat_eq key) places ≡ None
    → lookup (nat_eq key) ((one.0, place at one.1) ∷ places) ≡ None
differ_first key one at places apart none =
    let differ : nat_eq key one.0 ≡ false = turned key one.0 ∙ apart in
    skip key (one.0, place at one.1) places differ ∙ none

fresh_still : (one : ℕ × ℕ) (at : ℕ) (places : Allocations) (keys : List (ℕ × ℕ)) → AllByRecursion (λ key. nat_eq one.0 key ≡ false) (map (λ held. held.0) keys)
    → AllByRecursion (λ held. lookup (nat_eq held.0) places ≡ None) keys → AllByRecursion (λ held. lookup (nat_eq held.0) ((one.0, place at one.1) ∷ places) ≡ None) keys
fresh_still one at places [] apart fresh = tt
fresh_still one at places (other ∷ more) apart fresh =
    (differ_first other.0 one at places apart.0 fresh.0, fresh_still one at places more apart.1 fresh.1)

keys_placed : (places : Allocations) (at : ℕ) (keys : List (ℕ × ℕ)) → AreKeys places → AllByRecursion (λ held. lookup (nat_eq held.0) places ≡ None) keys
    → IsDistinct nat_eq (map (λ held. held.0) keys) → AreKeys (placed_from places at keys)
keys_placed places at [] are fresh distinct = are
keys_placed places at (one ∷ more) are fresh distinct =
    keys_placed ((one.0, place at one.1) ∷ places) (at + 1) more (fresh.0, are) (fresh_still one at places more (IsDistinct-head nat_eq one.0 (map (λ (held : ℕ × ℕ). held.0) more) distinct) fresh.1)
    (IsDistinct-tail nat_eq one.0 (map (λ (held : ℕ × ℕ). held.0) more) distinct)

slots_placed : (last : ℕ) (places : Allocations) (at : ℕ) (keys : List (ℕ × ℕ)) → 1 ≤ at → at + length keys ≤ last + 1 → AreSlots last places
    → ((n : ℕ) → at ≤ n → is_used places n ≡ false) → AreSlots last (placed_from places at keys)
slots_placed last places at [] from within are free = are
slots_placed last places at (one ∷ more) from within are free =
    slots_placed last ((one.0, place at one.1) ∷ places) (at + 1) more (omega arith) (omega arith) (from, omega arith, free at (omega arith), are)
    (λ n past. ap (λ b. b || is_used places n) (past_at n at past) ∙ free n (omega arith))

all_fresh : (keys : List (ℕ × ℕ)) → AllByRecursion (λ held. lookup {X = Allocation} (nat_eq held.0) [] ≡ None) keys
all_fresh [] = tt
all_fresh (one ∷ more) = (refl, all_fresh more)

-- such keys are a plan, if there are slots and room for all
pub keys_planned : (small : Bool) (keys : List (ℕ × ℕ)) → IsDistinct nat_eq (map (λ held. held.0) keys) → length keys ≤ last_slot small → sum_by (λ held. held.1) keys ≤ budget small
    → IsPlan (plan_with keys small)
keys_planned small keys distinct few room = record {
  keys = keys_placed [] 1 keys tt (all_fresh keys) distinct;
  slots = slots_placed (last_slot small) [] 1 keys (omega arith) (omega arith) tt (λ n past. refl);
  within = (let all = total_placed [] 1 keys in omega (arith, all));
}
