-- After any history the keys stand in the order of their use, so that those that go were used before those that stay.
use Rattle.std.proofs.Common.{◌≡◌, ◌≢◌, ◌∙◌, ◌<◌, ◌≤◌, ◌||◌, ap, sym, refl, subst, cond, nat_eq, nat_le, Bool, true, false, ℕ, suc, List, [], ◌∷◌, ◌++◌, length, take, drop, Option, Some, None, is_some, Ok, arith, length-take}
use Rattle.std.specs.Prelude.{IsSome}
use Rattle.std.specs.List.{list_any}
use Rattle.std.specs.Map.{lookup, lookup_entry}
use Rattle.std.specs.Option.{option_map, option_map_or, option_to_list}
use Rattle.std.proofs.lemmas.Bool.Decides.{nat_tests}
use Rattle.std.proofs.lemmas.List.Folds.{list_any-append}
use Rattle.gfx_base.specs.declared.refusal.Refusal.TheVariants.{CacheBudget}
use Rattle.gfx_base.specs.Results.{check}
use Rattle.gfx_base.proofs.ResultLemmas.{and_then_ok, check_ok}
use Rattle.gfx_bitmap_cache.specs.Slots.{last_slot, budget, bytes_for}
use Rattle.gfx_slot_plan.specs.declared.allocation.Allocation.{Allocation}
use Rattle.gfx_slot_plan.specs.declared.kept.Kept.{Kept}
use Rattle.gfx_slot_plan.specs.Plan.{Allocations, Plan, plan, place, AreKeys, AreSlots, is_used, slots_back, without, slot_of, staying, left_for, least_free, chosen, keeps, touched, forgotten}
use Rattle.gfx_slot_plan.specs.History.{Event, Keep, Show, Forget, uses, last_use, after_event, after_history, unless_dropped, DropsByUse, KeepsByUse}
use Rattle.gfx_slot_plan.proofs.Keys.{keys_without, keys_kept}
use Rattle.gfx_slot_plan.proofs.Order.{among, not_among}
use Rattle.gfx_slot_plan.proofs.Rooms.{room_for, none_needlessly, staying_most}
use Rattle.gfx_slot_plan.proofs.Ties.{slots_middle}
use Rattle.gfx_slot_plan.proofs.UseOrder.{skip, meet, InOrder, order_take, order_without, order_alike, order_first, alike_others, alike_all, first_later, lookup_without, slots_take, first_apart, behind_used, first_same, back_used, used_at, last_use_now, last_use_then, last_use_most}

-- what holds of the places after a history
pub record Stands (history : List Event) (last : ℕ) (places : Allocations) : Type 0 where
  pub keys : AreKeys places
  pub slots : AreSlots last places
  pub order : InOrder history places

itself : (key : ℕ) → nat_eq key key ≡ true
itself key = grind (arith, nat_tests)

other_number : (key q : ℕ) → nat_eq key q ≡ false → nat_eq q key ≡ false
other_number key q differ = grind (arith, nat_tests)

apart_tested : (key q : ℕ) → q ≢ key → nat_eq q key ≡ false
apart_tested key q apart = grind (arith, nat_tests)

-- without a key
slots_without : (last key : ℕ) (places : Allocations) → AreSlots last places → AreSlots last (without key places)
slots_without last key places slots = by (lookup (nat_eq key) places) refl
  where
    by : (o : Option Allocation) → lookup (nat_eq key) places ≡ o → AreSlots last (without key places)
    by None none = subst (AreSlots last) (sym (not_among key places none).0) slots
    by (Some held) there =
        let a = among key held places there in
        subst (AreSlots last) (sym a.rest) (slots_middle last a.xs a.ys (key, held) (subst (AreSlots last) a.cut slots)).0

stands_without : (history : List Event) (last key : ℕ) (places : Allocations) → Stands history last places → Stands history last (without key places)
stands_without history last key places stands = record {
  keys = (keys_without key places stands.keys).0;
  slots = slots_without last key places stands.slots;
  order = order_without history key places stands.order;
}

-- a key is forgotten
stands_forgotten : (earlier : List Event) (last key : ℕ) (places : Allocations) → Stands earlier last places → Stands (Forget key ∷ earlier) last (without key places)
stands_forgotten earlier last key places stands =
    let less = stands_without earlier last key places stands in
    record {
      keys = less.keys;
      slots = less.slots;
      order = order_alike (Forget key ∷ earlier) earlier (without key places) (alike_all (Forget key) earlier (without key places) (λ q. refl)) less.order;
    }

-- a key is shown
stands_shown : (earlier : List Event) (last key : ℕ) (places : Allocations) → Stands earlier last places
    → Stands (Show key ∷ earlier) last (option_map_or (λ held. held ∷ without key places) (lookup_entry (nat_eq key) places) places)
stands_shown earlier last key places stands = by (lookup (nat_eq key) places) refl
  where
    by : (o : Option Allocation) → lookup (nat_eq key) places ≡ o → Stands (Show key ∷ earlier) last (option_map_or (λ held. held ∷ without key places) (lookup_entry (nat_eq key) places) places)
    by None none =
        subst (λ found. Stands (Show key ∷ earlier) last (option_map_or (λ held. held ∷ without key places) found places)) (sym (not_among key places none).1)
        record {
          keys = stands.keys;
          slots = stands.slots;
          order = order_alike (Show key ∷ earlier) earlier places (alike_others key (Show key) earlier places (other_number key) none) stands.order;
        }
    by (Some held) there =
        let a = among key held places there in
        let parts = slots_middle last a.xs a.ys (key, held) (subst (AreSlots last) a.cut stands.slots) in
        let less = stands_without earlier last key places stands in
        let gone = keys_without key places stands.keys in
        subst (λ found. Stands (Show key ∷ earlier) last (option_map_or (λ held. held ∷ without key places) found places)) (sym a.found)
        record {
          keys = (gone.1, gone.0);
          slots = subst (λ l. AreSlots last ((key, held) ∷ l)) (sym a.rest) (parts.1.0, parts.1.1.0, parts.1.1.1, parts.0);
          order = order_first key (Show key) earlier held (without key places) (itself key) (alike_others key (Show key) earlier (without key places) (other_number key) gone.1) less.order;
        }

-- a key is kept
stands_kept : (earlier : List Event) (last most key width height bytes : ℕ) (places : Allocations) → 1 ≤ last → bytes ≤ most → Stands earlier last places
    → Stands (Keep key width height ∷ earlier) last
    ((key, place (least_free last (left_for last most bytes (without key places))) bytes) ∷ left_for last most bytes (without key places))
stands_kept earlier last most key width height bytes places first alone stands =
    let others = without key places in
    let n = staying last most bytes others (length others) in
    let room = room_for last most key bytes places first alone in
    let less = stands_without earlier last key places stands in
    let held = place (least_free last (left_for last most bytes others)) bytes in
    let keys : AreKeys ((key, held) ∷ take n others) = keys_kept key held last most bytes places stands.keys in
    record {
      keys = keys;
      slots = (room.from, room.to, room.unused, slots_take last n others less.slots);
      order = order_first key (Keep key width height) earlier held (take n others) (itself key)
          (alike_others key (Keep key width height) earlier (take n others) (other_number key) keys.0) (order_take earlier n others less.order);
    }

first_slot_there : (small : Bool) → 1 ≤ last_slot small
first_slot_there true = omega arith
first_slot_there false = omega arith

le_told : (m n : ℕ) → nat_le m n ≡ true → m ≤ n
le_told m n told = grind (arith, nat_tests)

-- what a keep that isn't refused gives
keeps_is : (old : Plan) (key width height : ℕ) (given : Plan × Kept) → keeps old key width height ≡ Ok given
    → (bytes_for width height ≤ budget old.small) × (given ≡ chosen old key (bytes_for width height))
unfolding keeps
keeps_is old key width height given is =
    let alone = and_then_ok (check CacheBudget (nat_le (bytes_for width height) (budget old.small))) _ given is in
    let fits : nat_le (bytes_for width height) (budget old.small) ≡ true = check_ok CacheBudget _ alone.1 in
    let same : given ≡ chosen old key (bytes_for width height) = let last = alone.2 in cc in
    (le_told (bytes_for width height) (budget old.small) fits, same)

-- what holds of a plan after a history
HasHistory : List Event → Plan → Type 0
HasHistory history p = Stands history (last_slot p.small) p.places

stands_event : (earlier : List Event) (event : Event) (old new : Plan) → HasHistory earlier old → after_event old event ≡ Ok new → HasHistory (event ∷ earlier) new
unfolding after_event HasHistory
stands_event earlier (Keep key width height) old new stands is =
    let given = and_then_ok (keeps old key width height) _ new is in
    let kept = keeps_is old key width height given.0 given.1 in
    let same : given.0.0 ≡ new = let last = given.2 in cc in
    subst (HasHistory (Keep key width height ∷ earlier)) (ap (λ z. z.0) (sym kept.1) ∙ same)
    (stands_kept earlier (last_slot old.small) (budget old.small) key width height (bytes_for width height) old.places (first_slot_there old.small) kept.0 stands)
stands_event earlier (Show key) old new stands is =
    let same : touched old key ≡ new = cc in
    subst (HasHistory (Show key ∷ earlier)) same (stands_shown earlier (last_slot old.small) key old.places stands)
stands_event earlier (Forget key) old new stands is =
    let same : forgotten old key ≡ new = cc in
    subst (HasHistory (Forget key ∷ earlier)) same (stands_forgotten earlier (last_slot old.small) key old.places stands)

has_history : (small : Bool) (history : List Event) (p : Plan) → after_history small history ≡ Ok p → HasHistory history p
unfolding after_history HasHistory
has_history small [] p is =
    let same : plan [] small ≡ p = cc in
    subst (HasHistory []) same record { keys = tt; slots = tt; order = tt }
has_history small (event ∷ earlier) p is =
    let first = and_then_ok (after_history small earlier) _ p is in
    stands_event earlier event first.0 p (has_history small earlier first.0 first.1) first.2

-- the keys that are left, and those that went -------------------------------------------------------------

some_of : (o : Option Allocation) → IsSome (option_map (λ held. held.slot) o) → IsSome o
some_of (Some held) some = refl
some_of None some = some

none_of : (o : Option Allocation) → option_map (λ held. held.slot) o ≡ None → o ≡ None
none_of (Some held) none = absurd cc
none_of None none = refl

-- a key that went was used before each that is held
went_before : (earlier : List Event) (event : Event) (key n gone stays : ℕ) (held : Allocation) (places : Allocations)
    → ((q : ℕ) → nat_eq q key ≡ false → uses q event ≡ false) → uses key event ≡ true → InOrder earlier (without key places)
    → nat_eq gone key ≡ false → IsSome (lookup (nat_eq gone) places) → lookup (nat_eq gone) ((key, held) ∷ take n (without key places)) ≡ None
    → IsSome (lookup (nat_eq stays) ((key, held) ∷ take n (without key places))) → last_use gone (event ∷ earlier) < last_use stays (event ∷ earlier)
went_before earlier event key n gone stays held places only used order apart there out within = by (nat_eq stays key) refl
  where
    was : last_use gone (event ∷ earlier) ≡ last_use gone earlier
    was = last_use_then gone event earlier (only gone apart)

    by : (b : Bool) → nat_eq stays key ≡ b → last_use gone (event ∷ earlier) < last_use stays (event ∷ earlier)
    by true same =
        let is : key ≡ stays = grind (arith, nat_tests) in
        let now : last_use key (event ∷ earlier) ≡ suc (length earlier) = last_use_now key event earlier used in
        let most : last_use gone earlier ≤ length earlier = last_use_most gone earlier in
        subst (λ k. last_use gone (event ∷ earlier) < last_use k (event ∷ earlier)) is (omega (arith, was))
    by false differ =
        let then : last_use stays (event ∷ earlier) ≡ last_use stays earlier = last_use_then stays event earlier (only stays differ) in
        let less : last_use gone earlier < last_use stays earlier =
        first_later earlier n (without key places) gone stays order (ap is_some (lookup_without key gone places apart) ∙ there)
        (sym (skip gone (key, held) (take n (without key places)) apart) ∙ out)
        (ap is_some (sym (skip stays (key, held) (take n (without key places)) differ)) ∙ within) in
        omega (arith, was)

-- the slot that the key had is no other's
own_apart : (last key q : ℕ) (held : Allocation) (places : Allocations) → AreSlots last places → lookup (nat_eq q) (without key places) ≡ Some held
    → list_any (nat_eq held.slot) (option_to_list (slot_of key places)) ≡ false
own_apart last key q held places slots there = by (lookup (nat_eq key) places) refl
  where
    differ : (a b : ℕ) (rest : Allocations) → is_used rest a ≡ false → is_used rest b ≡ true → (c : Bool) → nat_eq b a ≡ c → (c || false) ≡ false
    differ a b rest unused used true same = let is : b ≡ a = grind (arith, nat_tests) in let no : true ≡ false = sym used ∙ ap (is_used rest) is ∙ unused in absurd cc
    differ a b rest unused used false apart = refl

    by : (o : Option Allocation) → lookup (nat_eq key) places ≡ o → list_any (nat_eq held.slot) (option_to_list (option_map (λ h. h.slot) (lookup (nat_eq key) places))) ≡ false
    by None none = ap (λ o. list_any (nat_eq held.slot) (option_to_list (option_map (λ h. h.slot) o))) none
    by (Some own) some =
        let a = among key own places some in
        let parts = slots_middle last a.xs a.ys (key, own) (subst (AreSlots last) a.cut slots) in
        ap (λ o. list_any (nat_eq held.slot) (option_to_list (option_map (λ h. h.slot) o))) some
        ∙ differ own.slot held.slot (without key places) (ap (λ l. is_used l own.slot) a.rest ∙ parts.1.1.1) (used_at q held (without key places) there) (nat_eq held.slot own.slot) refl

-- exactly those went whose slots are told
others_told : (last key n q : ℕ) (places : Allocations) → AreSlots last places → nat_eq q key ≡ false
    → slot_of q (take n (without key places))
    ≡ unless_dropped (option_to_list (slot_of key places) ++ slots_back (drop n (without key places))) (slot_of q places)
others_told last key n q places slots apart =
    by (lookup (nat_eq q) (take n others)) refl (lookup (nat_eq q) others) refl
    ∙ ap (λ o. unless_dropped dropped (option_map (λ h. h.slot) o)) (lookup_without key q places apart)
  where
    others : Allocations
    others = without key places

    dropped : List ℕ
    dropped = option_to_list (slot_of key places) ++ slots_back (drop n (without key places))

    told : (held : Allocation) (b : Bool) → lookup (nat_eq q) (without key places) ≡ Some held → is_used (drop n (without key places)) held.slot ≡ b
        → list_any (nat_eq held.slot) (option_to_list (slot_of key places) ++ slots_back (drop n (without key places))) ≡ b
    told held b there is =
        list_any-append (nat_eq held.slot) (option_to_list (slot_of key places)) (slots_back (drop n (without key places)))
        ∙ (λ i. own_apart last key q held places slots there i || (back_used held.slot (drop n (without key places)) ∙ is) i)

    by : (o : Option Allocation) → lookup (nat_eq q) (take n (without key places)) ≡ o → (p : Option Allocation) → lookup (nat_eq q) (without key places) ≡ p
        → slot_of q (take n (without key places))
        ≡ unless_dropped (option_to_list (slot_of key places) ++ slots_back (drop n (without key places))) (slot_of q (without key places))
    by (Some held) left p there =
        let same = first_same n q held (without key places) left in
        ap (option_map (λ h. h.slot)) left
        ∙ sym (ap (λ o. unless_dropped (option_to_list (slot_of key places) ++ slots_back (drop n (without key places))) (option_map (λ h. h.slot) o)) same
        ∙ ap (λ b. cond b None (Some held.slot)) (told held false same (first_apart last n q held (without key places) (slots_without last key places slots) left)))
    by None left (Some held) there =
        ap (option_map (λ h. h.slot)) left
        ∙ sym (ap (λ o. unless_dropped (option_to_list (slot_of key places) ++ slots_back (drop n (without key places))) (option_map (λ h. h.slot) o)) there
        ∙ ap (λ b. cond b None (Some held.slot)) (told held true there (behind_used n q held (without key places) there left)))
    by None left None there =
        ap (option_map (λ h. h.slot)) left
        ∙ sym (ap (λ o. unless_dropped (option_to_list (slot_of key places) ++ slots_back (drop n (without key places))) (option_map (λ h. h.slot) o)) there)

-- keeping a key, at places that a history left
kept_by_use : (earlier : List Event) (key width height : ℕ) (old : Plan) → HasHistory earlier old → bytes_for width height ≤ budget old.small
    → DropsByUse (Keep key width height ∷ earlier) key (bytes_for width height) old (chosen old key (bytes_for width height)).0 (chosen old key (bytes_for width height)).1
unfolding HasHistory
kept_by_use earlier key width height old stands alone =
    let bytes = bytes_for width height in
    let last = last_slot old.small in
    let most = budget old.small in
    let others = without key old.places in
    let n = staying last most bytes others (length others) in
    let held = place (least_free last (left_for last most bytes others)) bytes in
    let less = stands_without earlier last key old.places stands in
    record {
      by_use = λ gone stays apart there out within.
          went_before earlier (Keep key width height) key n gone stays held old.places (λ q differ. differ) (itself key) less.order (apart_tested key gone apart)
          (some_of (lookup (nat_eq gone) old.places) there) (none_of (lookup (nat_eq gone) ((key, held) ∷ take n others)) out)
          (some_of (lookup (nat_eq stays) ((key, held) ∷ take n others)) within);
      others = λ other apart.
          ap (option_map (λ h. h.slot)) (skip other (key, held) (take n others) (apart_tested key other apart))
          ∙ others_told last key n other old.places stands.slots (apart_tested key other apart);
      needed = λ more over within.
          let few : n ≤ length others = staying_most last most bytes others (length others) in
          let long : length (take n others) ≡ n = simp length-take (omega arith) in
          none_needlessly last most bytes others (length others) more (omega (arith, over)) within;
      own = ap (option_map (λ h. h.slot)) (meet key (key, held) (take n others) (itself key));
    }

-- the law
pub keeps_by_use : KeepsByUse
keeps_by_use small earlier key width height old new kept after is =
    let given = keeps_is old key width height (new, kept) is in
    subst (λ (z : Plan × Kept). DropsByUse (Keep key width height ∷ earlier) key (bytes_for width height) old z.0 z.1) (sym given.1)
    (kept_by_use earlier key width height old (has_history small earlier old after) given.0)
