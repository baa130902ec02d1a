-- The plan of the slots and the cache stay tied, so no message of the plan is refused.
use Rattle.std.proofs.Common.{◌≡◌, ◌∙◌, ◌≤◌, ◌+◌, ap, sym, refl, subst, nat_eq, nat_le, Bool, true, false, ℕ, List, [], ◌∷◌, ◌++◌, map, length, Option, Some, None, Ok, arith}
use Rattle.std.specs.FinMap as finmap
use Rattle.std.specs.FinMap.{FinMap, get, insert, remove}
use Rattle.std.specs.List.{AllByRecursion}
use Rattle.std.specs.Map.{lookup}
use Rattle.std.specs.Option.{option_map, option_map_or, ok_or}
use Rattle.std.specs.Ordering.{nat_cmp}
use Rattle.std.proofs.lemmas.Bool.Decides.{nat_tests}
use Rattle.gfx_base.specs.Geometry.{lies_in, width_of, height_of, sized}
use Rattle.gfx_base.specs.Results.{check}
use Rattle.gfx_base.proofs.ResultLemmas.{and_then_at, and_then_ok, check_ok}
use Rattle.gfx_base.specs.declared.geometry.Point.{Point}
use Rattle.gfx_base.specs.declared.geometry.Rect.{Rect}
use Rattle.gfx_base.specs.declared.refusal.Refusal.TheVariants.{NoSurface, RectOutside, SlotRange, SlotEmpty, CacheBudget}
use Rattle.gfx_bitmap_cache.specs.declared.limits.TheConstants.{MOST_SLOTS}
use Rattle.gfx_bitmap_cache.specs.Slots.{Entry, Cached, cached, entry, bytes_of, bytes_at, is_slot, takes_slot, stored, shown, evicted}
use Rattle.gfx_bitmap_cache.specs.Slots.{total as total_in}
use Rattle.gfx_bitmap_cache.specs.Slots.{last_slot, budget, bytes_for}
use Rattle.gfx_bitmap_cache.proofs.Sound.{stored-ok}
use Rattle.gfx_bitmap_cache.proofs.Totals.{total-empty}
use Rattle.gfx_pdu.specs.declared.pdu.Pdu.{Pdu}
use Rattle.gfx_pdu.specs.declared.pdu.Pdu.TheVariants.{SurfaceToCache, CacheToSurface, EvictCacheEntry}
use Rattle.gfx_script.specs.declared.held.Sides.{Sides}
use Rattle.gfx_slot_plan.specs.declared.kept.Kept.{Kept}
use Rattle.gfx_slot_plan.specs.declared.allocation.Allocation.{Allocation}
use Rattle.gfx_slot_plan.specs.Plan.{Allocations, Plan, AreKeys, plan, place, total, keeps, chosen, touched, forgotten, without, slot_of, dropped_for}
use Rattle.gfx_slot_plan.proofs.Keys.{keys_without, keys_kept}
use Rattle.gfx_slot_plan.proofs.Order.{found_entry}
use Rattle.gfx_slot_plan.proofs.Ties.{total_middle}
use Rattle.gfx_state.specs.Sending.{all_steps}
use Rattle.gfx_state.specs.State.{State}
use Rattle.gfx_state.specs.Step.{step, caching, showing, rect_stored, slot_put, image_in}
use Rattle.gfx_surface.specs.Picture.{Picture}
use Rattle.gfx_surface_map.specs.Shown.{pixels_put}
use Rattle.gfx_planner.specs.Bitmaps.{emptied, sides_in}
use Rattle.gfx_planner.specs.Slots.{InSlot, PlanFitsCache, SidesIn, SidesFitSlots}
use Rattle.gfx_planner.proofs.SlotLists.{Filled, cut_at, get-insert_here, get-insert_apart, filled-out, filled-touched, filled-kept, left_of, slot_for, room_for, dropped-within, length-dropped}

-- both ways to say it ----------------------------------------------------------------------------

in_slot-counts : (held : ℕ × Allocation) (o : Option Entry) → InSlot o held → bytes_at o ≡ held.1.bytes
in_slot-counts held o (e, there, key, bytes) = ap bytes_at there ∙ bytes

filled : (p : Plan) (cache : Cached) → PlanFitsCache p cache → Filled InSlot (last_slot p.small) p.places cache.slots
filled p cache fits_cache = record { apart = fits_cache.sound.slots; each = fits_cache.each; counts = in_slot-counts; bytes = fits_cache.bytes }

fits_cache_from : (p : Plan) (cache : Cached) → AreKeys p.places → total p.places ≤ budget p.small → Filled InSlot (last_slot p.small) p.places cache.slots → PlanFitsCache p cache
fits_cache_from p cache keys within f = record {
  sound = record { keys = keys; slots = f.apart; within = within };
  each = f.each;
  bytes = f.bytes;
}

-- with the sides beside them
abbrev Both : FinMap nat_cmp Sides → Option Entry → ℕ × Allocation → Type 0
Both sides o held = InSlot o held × SidesIn sides o held

all-zip : {X : Type 0} (P Q : X → Type 0) (xs : List X) → AllByRecursion P xs → AllByRecursion Q xs → AllByRecursion (λ x. P x × Q x) xs
all-zip P Q [] ps qs = tt
all-zip P Q (x ∷ xs) ps qs = ((ps.0, qs.0), all-zip P Q xs ps.1 qs.1)

all-second : {X : Type 0} (P Q : X → Type 0) (xs : List X) → AllByRecursion (λ x. P x × Q x) xs → AllByRecursion Q xs
all-second P Q [] each = tt
all-second P Q (x ∷ xs) each = (each.0.1, all-second P Q xs each.1)

both-counts : (sides : FinMap nat_cmp Sides) (held : ℕ × Allocation) (o : Option Entry) → Both sides o held → bytes_at o ≡ held.1.bytes
both-counts sides held o says = in_slot-counts held o says.0

filled_both : (p : Plan) (cache : Cached) (sides : FinMap nat_cmp Sides) → PlanFitsCache p cache → SidesFitSlots p.places sides cache.slots → Filled (Both sides) (last_slot p.small) p.places cache.slots
filled_both p cache sides fits_cache sides_fit = record {
  apart = fits_cache.sound.slots;
  each = all-zip (λ held. InSlot (get cache.slots held.1.slot) held) (λ held. SidesIn sides (get cache.slots held.1.slot) held) p.places fits_cache.each sides_fit;
  counts = both-counts sides;
  bytes = fits_cache.bytes;
}

sides_fit_from : (last : ℕ) (places : Allocations) (sides : FinMap nat_cmp Sides) (slots : FinMap nat_cmp Entry) → Filled (Both sides) last places slots → SidesFitSlots places sides slots
sides_fit_from last places sides slots f = all-second (λ held. InSlot (get slots held.1.slot) held) (λ held. SidesIn sides (get slots held.1.slot) held) places f.each

-- at the start -----------------------------------------------------------------------------------

pub fits_cache-start : (small : Bool) → PlanFitsCache (plan [] small) (cached finmap.empty small)
fits_cache-start small = record {
  sound = record { keys = tt; slots = tt; within = omega arith };
  each = tt;
  bytes = total-empty;
}

-- a key that is held -------------------------------------------------------------------------------

-- no plan has a slot that no cache has
slots_most : (small : Bool) (n : ℕ) → n ≤ last_slot small → n ≤ MOST_SLOTS
slots_most true n within = omega (arith, within)
slots_most false n within = within

slots_some : (small : Bool) → 1 ≤ last_slot small
slots_some true = omega arith
slots_some false = omega arith

slot_from : (slot : ℕ) → 1 ≤ slot → slot ≤ MOST_SLOTS → is_slot slot ≡ true
slot_from slot from to = grind (arith, nat_tests)

slot_taken : (small : Bool) (slot : ℕ) → 1 ≤ slot → slot ≤ last_slot small → takes_slot small slot ≡ true
slot_taken true slot from to = grind (arith, nat_tests)
slot_taken false slot from to = grind (arith, nat_tests)

-- a key's place, by its slot
pub record At (key slot : ℕ) (places : Allocations) : Type 0 where
  pub held : Allocation
  pub there : lookup (nat_eq key) places ≡ Some held
  pub is : held.slot ≡ slot

pub at_slot : (key slot : ℕ) (places : Allocations) → slot_of key places ≡ Some slot → At key slot places
at_slot key slot places some = by (lookup (nat_eq key) places) refl
  where
    by : (o : Option Allocation) → lookup (nat_eq key) places ≡ o → At key slot places
    by None none = let no : None ≡ Some slot = sym (ap (option_map (λ (h : Allocation). h.slot)) none) ∙ some in absurd cc
    by (Some held) there =
        let one : Some held.slot ≡ Some slot = sym (ap (option_map (λ (h : Allocation). h.slot)) there) ∙ some in
        record { held = held; there = there; is = cc }

-- the touched places
places_touched : (p : Plan) (key : ℕ) (held : Allocation) → lookup (nat_eq key) p.places ≡ Some held → touched p key ≡ plan ((key, held) ∷ without key p.places) p.small
places_touched p key held there =
    ap (λ o. plan (option_map_or (λ h. h ∷ without key p.places) o p.places) p.small) (found_entry key held p.places there)

total_touched : (key : ℕ) (held : Allocation) (places : Allocations) → lookup (nat_eq key) places ≡ Some held → total places ≡ held.bytes + total (without key places)
total_touched key held places there =
    let cut = cut_at key held places there in
    ap total cut.whole ∙ total_middle cut.before cut.behind (key, held) ∙ ap (λ l. held.bytes + total l) (sym cut.rest)

total_first : (key : ℕ) (held : Allocation) (places : Allocations) → lookup (nat_eq key) places ≡ Some held → total ((key, held) ∷ without key places) ≡ total places
total_first key held places there =
    let cut = cut_at key held places there in
    total_middle [] (without key places) (key, held) ∙ sym (total_touched key held places there)

-- what a held key's slot holds
pub record Showing (cache : Cached) (key slot : ℕ) : Type 0 where
  pub entry : Entry
  pub there : get cache.slots slot ≡ Some entry
  pub keyed : entry.key ≡ key
  pub is : is_slot slot ≡ true

pub fits_cache-shows : (p : Plan) (cache : Cached) (key slot : ℕ) → PlanFitsCache p cache → slot_of key p.places ≡ Some slot → Showing cache key slot
fits_cache-shows p cache key slot fits_cache some =
    let at = at_slot key slot p.places some in
    let f = filled-touched InSlot (last_slot p.small) key at.held p.places cache.slots at.there (filled p cache fits_cache) in
    let front = f.each.0 in
    let to : at.held.slot ≤ MOST_SLOTS = slots_most p.small at.held.slot f.apart.1 in
    record {
      entry = front.0;
      there = ap (get cache.slots) (sym at.is) ∙ front.1;
      keyed = front.2;
      is = ap is_slot (sym at.is) ∙ slot_from at.held.slot f.apart.0 to;
    }

pub shown-ok : (cache : Cached) (key slot : ℕ) (at : Showing cache key slot) → shown cache slot ≡ Ok at.entry.image
unfolding shown
shown-ok cache key slot at =
    and_then_at (check SlotRange (is_slot slot)) tt _ (ap (check SlotRange) at.is)
    ∙ and_then_at (ok_or (get cache.slots slot) SlotEmpty) at.entry (λ e. Ok e.image) (ap (λ o. ok_or o SlotEmpty) at.there)

-- so the message that shows it is refused for no slot
pub shown-step : (state : State) (key slot id : ℕ) (points : List Point) (at : Showing state.cache key slot)
    → step state (CacheToSurface slot id points)
    ≡ showing state (pixels_put state.shown id (sized at.entry.image.width at.entry.image.height) at.entry.image.pixels points)
unfolding step slot_put
shown-step state key slot id points at =
    and_then_at (shown state.cache slot) at.entry.image _ (shown-ok state.cache key slot at)

pub fits_cache-touched : (p : Plan) (cache : Cached) (key slot : ℕ) → PlanFitsCache p cache → slot_of key p.places ≡ Some slot → PlanFitsCache (touched p key) cache
fits_cache-touched p cache key slot fits_cache some =
    let at = at_slot key slot p.places some in
    let keys = keys_without key p.places fits_cache.sound.keys in
    let within : total ((key, at.held) ∷ without key p.places) ≤ budget p.small = subst (λ n. n ≤ budget p.small) (sym (total_first key at.held p.places at.there)) fits_cache.sound.within in
    subst (λ q. PlanFitsCache q cache) (sym (places_touched p key at.held at.there))
    (fits_cache_from (plan ((key, at.held) ∷ without key p.places) p.small) cache (keys.1, keys.0) within
    (filled-touched InSlot (last_slot p.small) key at.held p.places cache.slots at.there (filled p cache fits_cache)))

pub sides_fit-touched : (p : Plan) (cache : Cached) (sides : FinMap nat_cmp Sides) (key slot : ℕ) → PlanFitsCache p cache → slot_of key p.places ≡ Some slot
    → SidesFitSlots p.places sides cache.slots → SidesFitSlots (touched p key).places sides cache.slots
sides_fit-touched p cache sides key slot fits_cache some sides_fit =
    let at = at_slot key slot p.places some in
    subst (λ (q : Plan). SidesFitSlots q.places sides cache.slots) (sym (places_touched p key at.held at.there))
    (sides_fit_from (last_slot p.small) ((key, at.held) ∷ without key p.places) sides cache.slots
    (filled-touched (Both sides) (last_slot p.small) key at.held p.places cache.slots at.there (filled_both p cache sides fits_cache sides_fit)))

-- the sides beside a held key's slot are those of what it holds
pub sides_fit-shows : (p : Plan) (cache : Cached) (sides : FinMap nat_cmp Sides) (key slot : ℕ) → PlanFitsCache p cache → slot_of key p.places ≡ Some slot
    → SidesFitSlots p.places sides cache.slots → (shows : Showing cache key slot) → get sides slot ≡ Some (sides_in shows.entry)
sides_fit-shows p cache sides key slot fits_cache some sides_fit shows =
    let at = at_slot key slot p.places some in
    let f = filled-touched (Both sides) (last_slot p.small) key at.held p.places cache.slots at.there (filled_both p cache sides fits_cache sides_fit) in
    subst (λ n. get sides n ≡ option_map sides_in (get cache.slots n)) at.is f.each.0.1 ∙ ap (option_map sides_in) shows.there

-- a key that is forgotten ---------------------------------------------------------------------------

pub evicted-ok : (cache : Cached) (slot : ℕ) → is_slot slot ≡ true → evicted cache slot ≡ Ok (cached (remove cache.slots slot) cache.small)
unfolding evicted
evicted-ok cache slot is = and_then_at (check SlotRange (is_slot slot)) tt (λ _. Ok (cached (remove cache.slots slot) cache.small)) (ap (check SlotRange) is)

pub fits_cache-evicts : (p : Plan) (cache : Cached) (key slot : ℕ) → PlanFitsCache p cache → slot_of key p.places ≡ Some slot
    → evicted cache slot ≡ Ok (cached (remove cache.slots slot) cache.small)
fits_cache-evicts p cache key slot fits_cache some = evicted-ok cache slot (fits_cache-shows p cache key slot fits_cache some).is

-- a key's place and its slot are taken out
filled-forgotten : (says : Option Entry → ℕ × Allocation → Type 0) (last key : ℕ) (held : Allocation) (places : Allocations) (slots : FinMap nat_cmp Entry)
    → lookup (nat_eq key) places ≡ Some held → Filled says last places slots → Filled says last (without key places) (remove slots held.slot)
filled-forgotten says last key held places slots there f =
    filled-out says last [] (without key places) (key, held) slots (filled-touched says last key held places slots there f)

pub fits_cache-forgotten : (p : Plan) (cache : Cached) (key slot : ℕ) → PlanFitsCache p cache → slot_of key p.places ≡ Some slot
    → PlanFitsCache (forgotten p key) (cached (remove cache.slots slot) cache.small)
fits_cache-forgotten p cache key slot fits_cache some =
    let at = at_slot key slot p.places some in
    let all = total_touched key at.held p.places at.there in
    let most = fits_cache.sound.within in
    subst (λ n. PlanFitsCache (forgotten p key) (cached (remove cache.slots n) cache.small)) at.is
    (fits_cache_from (forgotten p key) (cached (remove cache.slots at.held.slot) cache.small) (keys_without key p.places fits_cache.sound.keys).0 (omega (arith, all, most))
    (filled-forgotten InSlot (last_slot p.small) key at.held p.places cache.slots at.there (filled p cache fits_cache)))

pub sides_fit-forgotten : (p : Plan) (cache : Cached) (sides : FinMap nat_cmp Sides) (key slot : ℕ) → PlanFitsCache p cache → slot_of key p.places ≡ Some slot
    → SidesFitSlots p.places sides cache.slots → SidesFitSlots (forgotten p key).places sides (remove cache.slots slot)
sides_fit-forgotten p cache sides key slot fits_cache some sides_fit =
    let at = at_slot key slot p.places some in
    subst (λ n. SidesFitSlots (forgotten p key).places sides (remove cache.slots n)) at.is
    (sides_fit_from (last_slot p.small) (without key p.places) sides (remove cache.slots at.held.slot)
    (filled-forgotten (Both sides) (last_slot p.small) key at.held p.places cache.slots at.there (filled_both p cache sides fits_cache sides_fit)))

-- the messages -------------------------------------------------------------------------------------

evict-step : (state : State) (slot : ℕ) → is_slot slot ≡ true
    → step state (EvictCacheEntry slot) ≡ Ok (record state { cache = cached (remove state.cache.slots slot) state.cache.small })
unfolding step caching
evict-step state slot is =
    and_then_at (evicted state.cache slot) (cached (remove state.cache.slots slot) state.cache.small) (λ cache. Ok (record state { cache = cache })) (evicted-ok state.cache slot is)

-- slots are emptied, and then the rest is sent
pub evict-all : (gone : List ℕ) (state : State) (rest : List Pdu) → AllByRecursion (λ slot. (1 ≤ slot) × (slot ≤ MOST_SLOTS)) gone
    → all_steps state (map EvictCacheEntry gone ++ rest) ≡ all_steps (record state { cache = cached (emptied state.cache.slots gone) state.cache.small }) rest
unfolding all_steps
evict-all [] state rest each = refl
evict-all (slot ∷ gone) state rest each =
    let next : State = record state { cache = cached (remove state.cache.slots slot) state.cache.small } in
    and_then_at (step state (EvictCacheEntry slot)) next (λ s. all_steps s (map EvictCacheEntry gone ++ rest)) (evict-step state slot (slot_from slot each.0.0 each.0.1))
    ∙ evict-all gone next rest each.1

-- and where a key is forgotten
pub forgotten-steps : (state : State) (p : Plan) (key slot : ℕ) → PlanFitsCache p state.cache → slot_of key p.places ≡ Some slot
    → all_steps state (EvictCacheEntry slot ∷ []) ≡ Ok (record state { cache = cached (remove state.cache.slots slot) state.cache.small })
unfolding all_steps
forgotten-steps state p key slot fits_cache some =
    and_then_at (step state (EvictCacheEntry slot)) (record state { cache = cached (remove state.cache.slots slot) state.cache.small }) (λ s. all_steps s [])
    (evict-step state slot (fits_cache-shows p state.cache key slot fits_cache some).is)

-- a rectangle is stored
store-step : (state : State) (id key slot : ℕ) (rect : Rect) (picture : Picture) → get state.shown.surfaces id ≡ Some picture
    → takes_slot state.cache.small slot ≡ true → lies_in picture.width picture.height rect ≡ true
    → total_in (insert state.cache.slots slot (entry key (image_in picture rect))) ≤ budget state.cache.small
    → step state (SurfaceToCache id key slot rect) ≡ Ok (record state { cache = cached (insert state.cache.slots slot (entry key (image_in picture rect))) state.cache.small })
unfolding step rect_stored caching
store-step state id key slot rect picture there taken inside within =
    let held : Entry = entry key (image_in picture rect) in
    and_then_at (ok_or (get state.shown.surfaces id) NoSurface) picture _ (ap (λ o. ok_or o NoSurface) there)
    ∙ and_then_at (check SlotRange (takes_slot state.cache.small slot)) tt _ (ap (check SlotRange) taken)
    ∙ and_then_at (check RectOutside (lies_in picture.width picture.height rect)) tt _ (ap (check RectOutside) inside)
    ∙ and_then_at (stored state.cache slot held) (cached (insert state.cache.slots slot held) state.cache.small) (λ cache. Ok (record state { cache = cache }))
    (stored-ok state.cache slot held taken within)

pub store-one : (state : State) (id key slot : ℕ) (rect : Rect) (picture : Picture) → get state.shown.surfaces id ≡ Some picture
    → takes_slot state.cache.small slot ≡ true → lies_in picture.width picture.height rect ≡ true
    → total_in (insert state.cache.slots slot (entry key (image_in picture rect))) ≤ budget state.cache.small
    → all_steps state (SurfaceToCache id key slot rect ∷ []) ≡ Ok (record state { cache = cached (insert state.cache.slots slot (entry key (image_in picture rect))) state.cache.small })
unfolding all_steps
store-one state id key slot rect picture there taken inside within =
    and_then_at (step state (SurfaceToCache id key slot rect)) (record state { cache = cached (insert state.cache.slots slot (entry key (image_in picture rect))) state.cache.small }) (λ s. all_steps s [])
    (store-step state id key slot rect picture there taken inside within)

-- a key that is kept -------------------------------------------------------------------------------

-- the cache after a rectangle is kept
abbrev pub cache_kept : State → ℕ → Rect → Picture → Kept → Cached
cache_kept state key rect picture kept = cached (insert (emptied state.cache.slots kept.dropped) kept.slot (entry key (image_in picture rect))) state.cache.small

-- no message is refused, each slot fits its field, and the plan and the cache are tied again
pub record Keeping (state : State) (p : Plan) (id key : ℕ) (rect : Rect) (picture : Picture) (next : Plan) (kept : Kept) : Type 0 where
  pub accepted : all_steps state (map EvictCacheEntry kept.dropped ++ (SurfaceToCache id key kept.slot rect ∷ []))
      ≡ Ok (record state { cache = cache_kept state key rect picture kept })
  pub fits_cache : PlanFitsCache next (cache_kept state key rect picture kept)
  pub slot : (1 ≤ kept.slot) × (kept.slot ≤ MOST_SLOTS)
  pub slots : AllByRecursion (λ slot. (1 ≤ slot) × (slot ≤ MOST_SLOTS)) kept.dropped
  pub fewer : length kept.dropped ≤ length p.places

-- a plan that keeps is the chosen one
keeps_chosen : (p next : Plan) (kept : Kept) (key width height : ℕ) → keeps p key width height ≡ Ok (next, kept)
    → (bytes_for width height ≤ budget p.small) × (chosen p key (bytes_for width height) ≡ (next, kept))
unfolding keeps
keeps_chosen p next kept key width height due =
    let first = and_then_ok (check CacheBudget (nat_le (bytes_for width height) (budget p.small))) _ (next, kept) due in
    let test : nat_le (bytes_for width height) (budget p.small) ≡ true = check_ok CacheBudget (nat_le (bytes_for width height) (budget p.small)) first.1 in
    (grind (arith, nat_tests), (let same = first.2 in cc))

-- and has the limits of the old one
pub small_kept : (p next : Plan) (kept : Kept) (key width height : ℕ) → keeps p key width height ≡ Ok (next, kept) → next.small ≡ p.small
small_kept p next kept key width height due = ap (λ (z : Plan × Kept). z.0.small) (sym (keeps_chosen p next kept key width height due).1)

all-most : (small : Bool) (gone : List ℕ) → AllByRecursion (λ slot. (1 ≤ slot) × (slot ≤ last_slot small)) gone → AllByRecursion (λ slot. (1 ≤ slot) × (slot ≤ MOST_SLOTS)) gone
all-most small [] each = tt
all-most small (slot ∷ gone) each = ((each.0.0, slots_most small slot each.0.1), all-most small gone each.1)

keeping_chosen : (state : State) (p : Plan) (id key : ℕ) (rect : Rect) (picture : Picture) (bytes : ℕ) → p.small ≡ state.cache.small → PlanFitsCache p state.cache
    → get state.shown.surfaces id ≡ Some picture → lies_in picture.width picture.height rect ≡ true → bytes ≤ budget p.small → bytes_of (entry key (image_in picture rect)) ≡ bytes
    → Keeping state p id key rect picture (chosen p key bytes).0 (chosen p key bytes).1
keeping_chosen state p id key rect picture bytes limits fits_cache there inside alone counted =
    let last = last_slot p.small in
    let most = budget p.small in
    let held : Entry = entry key (image_in picture rect) in
    let slot = slot_for last most key bytes p.places in
    let gone = dropped_for last most key bytes p.places in
    let left = left_of last most key bytes p.places in
    let room = room_for last most key bytes p.places (slots_some p.small) alone in
    let f = filled-kept InSlot InSlot last most key bytes p.places state.cache.slots held (slots_some p.small) alone (filled p state.cache fits_cache) counted
    (λ h o other says. says) in_slot-counts (held, refl, refl, counted) in
    let all : total ((key, place slot bytes) ∷ left) ≡ bytes + total left = total_middle [] left (key, place slot bytes) in
    let fits = room.within in
    let within : total ((key, place slot bytes) ∷ left) ≤ most = omega (arith, all, fits) in
    let slots = all-most p.small gone (dropped-within last most key bytes p.places fits_cache.sound.slots) in
    let to = slots_most p.small slot room.to in
    let stood : State = record state { cache = cached (emptied state.cache.slots gone) state.cache.small } in
    let room_there : total_in (insert (emptied state.cache.slots gone) slot held) ≤ most = subst (λ n. n ≤ most) (sym f.bytes) within in
    record {
      accepted = evict-all gone state (SurfaceToCache id key slot rect ∷ []) slots
          ∙ store-one stood id key slot rect picture there (subst (λ b. takes_slot b slot ≡ true) limits (slot_taken p.small slot room.from room.to)) inside
          (subst (λ b. total_in (insert (emptied state.cache.slots gone) slot held) ≤ budget b) limits room_there);
      fits_cache = fits_cache_from (chosen p key bytes).0 (cached (insert (emptied state.cache.slots gone) slot held) state.cache.small)
          (keys_kept key (place slot bytes) last most bytes p.places fits_cache.sound.keys) within f;
      slot = (room.from, to);
      slots = slots;
      fewer = length-dropped last most key bytes p.places;
    }

pub fits_cache-kept : (state : State) (p next : Plan) (kept : Kept) (id key : ℕ) (rect : Rect) (picture : Picture) → p.small ≡ state.cache.small → PlanFitsCache p state.cache
    → get state.shown.surfaces id ≡ Some picture → lies_in picture.width picture.height rect ≡ true → keeps p key (width_of rect) (height_of rect) ≡ Ok (next, kept)
    → Keeping state p id key rect picture next kept
fits_cache-kept state p next kept id key rect picture limits fits_cache there inside due =
    let parts = keeps_chosen p next kept key (width_of rect) (height_of rect) due in
    subst (λ (z : Plan × Kept). Keeping state p id key rect picture z.0 z.1) parts.1
    (keeping_chosen state p id key rect picture (bytes_for (width_of rect) (height_of rect)) limits fits_cache there inside parts.0 refl)

-- the sides of the rectangle go beside its slot
abbrev pub rect_sides : Rect → Sides
rect_sides rect = record { width = width_of rect; height = height_of rect }

sides_fit_chosen : (p : Plan) (cache : Cached) (sides : FinMap nat_cmp Sides) (key bytes : ℕ) (e : Entry) → PlanFitsCache p cache → SidesFitSlots p.places sides cache.slots
    → bytes ≤ budget p.small → e.key ≡ key → bytes_of e ≡ bytes
    → SidesFitSlots (chosen p key bytes).0.places (insert sides (chosen p key bytes).1.slot (sides_in e)) (insert (emptied cache.slots (chosen p key bytes).1.dropped) (chosen p key bytes).1.slot e)
sides_fit_chosen p cache sides key bytes e fits_cache sides_fit alone keyed counted =
    let last = last_slot p.small in
    let most = budget p.small in
    let slot = slot_for last most key bytes p.places in
    let gone = dropped_for last most key bytes p.places in
    let more : FinMap nat_cmp Sides = insert sides slot (sides_in e) in
    sides_fit_from last ((key, place slot bytes) ∷ left_of last most key bytes p.places) more (insert (emptied cache.slots gone) slot e)
    (filled-kept (Both sides) (Both more) last most key bytes p.places cache.slots e (slots_some p.small) alone (filled_both p cache sides fits_cache sides_fit) counted
    (λ h o other says. (says.0, get-insert_apart sides slot (sides_in e) h.1.slot other ∙ says.1)) (both-counts more)
    ((e, refl, keyed, counted), get-insert_here sides slot (sides_in e)))

pub sides_fit-kept : (state : State) (p next : Plan) (kept : Kept) (sides : FinMap nat_cmp Sides) (key : ℕ) (rect : Rect) (picture : Picture) → PlanFitsCache p state.cache
    → SidesFitSlots p.places sides state.cache.slots → keeps p key (width_of rect) (height_of rect) ≡ Ok (next, kept)
    → SidesFitSlots next.places (insert sides kept.slot (rect_sides rect)) (cache_kept state key rect picture kept).slots
sides_fit-kept state p next kept sides key rect picture fits_cache sides_fit due =
    let parts = keeps_chosen p next kept key (width_of rect) (height_of rect) due in
    let held : Entry = entry key (image_in picture rect) in
    subst (λ (z : Plan × Kept). SidesFitSlots z.0.places (insert sides z.1.slot (sides_in held)) (insert (emptied state.cache.slots z.1.dropped) z.1.slot held)) parts.1
    (sides_fit_chosen p state.cache sides key (bytes_for (width_of rect) (height_of rect)) held fits_cache sides_fit parts.0 refl refl)
