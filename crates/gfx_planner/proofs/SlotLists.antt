-- Allocations beside the slots that they name: one is taken out, one goes to the front, one is put in. What is
-- said of each place and its slot is a parameter, `says`.
use Rattle.std.proofs.Common.{◌≡◌, ◌∙◌, ◌<◌, ◌≤◌, ◌+◌, not, ap, sym, refl, subst, cond, nat_eq, nat_le, Bool, true, false, ℕ, zero, suc, List, [], ◌∷◌, ◌++◌, map, length, take, slice_get, slice_index, Option, Some, None, option_to_list, arith, append_assoc, append-nil, take-append-drop}
use Rattle.std.specs.Cmp.{nat_cmp_total}
use Rattle.std.specs.FinMap.{FinMap, get, insert, remove, get-insert, get-remove}
use Rattle.std.specs.List.{AllByRecursion}
use Rattle.std.specs.Map.{lookup, lookup_key}
use Rattle.std.specs.Option.{option_map}
use Rattle.std.specs.Ordering.{nat_cmp, eq_by_cmp}
use Rattle.std.proofs.lemmas.Bool.{and_parts, or_parts}
use Rattle.std.proofs.lemmas.Bool.Decides.{nat_tests}
use Rattle.std.proofs.lemmas.List.{reverse-append, length-map, length-reverse, length-append, length-drop}
use Rattle.std.proofs.lemmas.List.Sums.{sum_by-cons, fold-append}
use Rattle.lru.proofs.Matching.{entry_found}
use Rattle.lru.proofs.Splits.{all_left, all_right, all_both}
use Rattle.gfx_bitmap_cache.specs.Slots.{Entry, bytes_of, bytes_at}
use Rattle.gfx_bitmap_cache.specs.Slots.{total as total_in}
use Rattle.gfx_bitmap_cache.proofs.Totals.{total-insert, total-remove, bytes_at-most}
use Rattle.gfx_slot_plan.specs.declared.allocation.Allocation.{Allocation}
use Rattle.gfx_slot_plan.specs.Pool.{is_none}
use Rattle.gfx_slot_plan.specs.Plan.{Allocations, AreSlots, place, total, is_used, free_slots, takes_more, staying, left_for, gone_for, without, slot_of, slots_back, least_free, dropped_for}
use Rattle.gfx_slot_plan.proofs.Dropping.{denied}
use Rattle.gfx_slot_plan.proofs.Order.{not_among, room_alone, staying_stops, staying_goes, length-without, length-held}
use Rattle.gfx_slot_plan.proofs.Ranges.{first_passes}
use Rattle.gfx_slot_plan.proofs.Ties.{slots_middle, total_middle}
use Rattle.gfx_planner.specs.Bitmaps.{emptied}

-- finite maps -------------------------------------------------------------------------------------

pub get-remove_apart : {X : Type 0} (m : FinMap nat_cmp X) (k q : ℕ) → nat_eq k q ≡ false → get (remove m k) q ≡ get m q
get-remove_apart m k q apart =
    let miss : eq_by_cmp nat_cmp q k ≡ false = grind (arith, nat_tests) in
    get-remove nat_cmp_total m k q ∙ ap (λ b. cond b None (get m q)) miss

pub get-insert_apart : {X : Type 0} (m : FinMap nat_cmp X) (k : ℕ) (v : X) (q : ℕ) → nat_eq k q ≡ false → get (insert m k v) q ≡ get m q
get-insert_apart m k v q apart =
    let miss : eq_by_cmp nat_cmp q k ≡ false = grind (arith, nat_tests) in
    get-insert nat_cmp_total m k v q ∙ ap (λ b. cond b (Some v) (get m q)) miss

pub get-insert_here : {X : Type 0} (m : FinMap nat_cmp X) (k : ℕ) (v : X) → get (insert m k v) k ≡ Some v
get-insert_here m k v =
    let hit : eq_by_cmp nat_cmp k k ≡ true = grind (arith, nat_tests) in
    get-insert nat_cmp_total m k v k ∙ ap (λ b. cond b (Some v) (get m k)) hit

pub emptied-append : (slots : FinMap nat_cmp Entry) (xs ys : List ℕ) → emptied slots (xs ++ ys) ≡ emptied (emptied slots xs) ys
emptied-append slots xs ys = fold-append (λ (left : FinMap nat_cmp Entry) (slot : ℕ). remove left slot) slots xs ys

pub slots_back-more : (held : ℕ × Allocation) (places : Allocations) → slots_back (held ∷ places) ≡ slots_back places ++ (held.1.slot ∷ [])
slots_back-more held places = reverse-append (held.1.slot ∷ []) (map (λ (h : ℕ × Allocation). h.1.slot) places)

emptied-back : (slots : FinMap nat_cmp Entry) (held : ℕ × Allocation) (places : Allocations)
    → emptied slots (slots_back (held ∷ places)) ≡ remove (emptied slots (slots_back places)) held.1.slot
emptied-back slots held places = ap (emptied slots) (slots_back-more held places) ∙ emptied-append slots (slots_back places) (held.1.slot ∷ [])

-- places ------------------------------------------------------------------------------------------

-- what holds of places whose slots are others
pub all-apart : (P Q : ℕ × Allocation → Type 0) (places : Allocations) (slot : ℕ) → is_used places slot ≡ false
    → ((held : ℕ × Allocation) → nat_eq slot held.1.slot ≡ false → P held → Q held) → AllByRecursion P places → AllByRecursion Q places
all-apart P Q [] slot unused on each = tt
all-apart P Q (held ∷ places) slot unused on each =
    let parts = or_parts (nat_eq slot held.1.slot) (is_used places slot) unused in
    (on held parts.0 each.0, all-apart P Q places slot parts.1 on each.1)

-- and of one among others
pub all-middle : (P : ℕ × Allocation → Type 0) (xs ys : Allocations) (held : ℕ × Allocation) → AllByRecursion P (xs ++ held ∷ ys) → P held × AllByRecursion P (xs ++ ys)
all-middle P xs ys held each =
    let behind = all_right P xs (held ∷ ys) each in (behind.0, all_both P xs ys (all_left P xs (held ∷ ys) each) behind.1)

pub slots-right : (last : ℕ) (xs ys : Allocations) → AreSlots last (xs ++ ys) → AreSlots last ys
slots-right last [] ys apart = apart
slots-right last (x ∷ xs) ys apart = slots-right last xs ys apart.3

-- all slots are within the bounds
pub slots_back-within : (last : ℕ) (places : Allocations) → AreSlots last places → AllByRecursion (λ slot. (1 ≤ slot) × (slot ≤ last)) (slots_back places)
slots_back-within last [] apart = tt
slots_back-within last (held ∷ places) apart =
    subst (AllByRecursion (λ slot. (1 ≤ slot) × (slot ≤ last))) (sym (slots_back-more held places))
    (all_both (λ slot. (1 ≤ slot) × (slot ≤ last)) (slots_back places) (held.1.slot ∷ []) (slots_back-within last places apart.3) ((apart.0, apart.1), tt))

-- a held key stands once among the others
pub record Cut (key : ℕ) (held : Allocation) (places : Allocations) : Type 0 where
  pub before : Allocations
  pub behind : Allocations
  pub whole : places ≡ before ++ (key, held) ∷ behind
  pub rest : without key places ≡ before ++ behind

key_found : (key : ℕ) (held : Allocation) (places : Allocations) → lookup (nat_eq key) places ≡ Some held → lookup_key (nat_eq key) places ≡ Some key
key_found key held [] there = absurd cc
key_found key held (e ∷ es) there = by (nat_eq key e.0) refl (key_found key held es)
  where
    by : (b : Bool) → nat_eq key e.0 ≡ b → (lookup (nat_eq key) es ≡ Some held → lookup_key (nat_eq key) es ≡ Some key) → lookup_key (nat_eq key) (e ∷ es) ≡ Some key
    by true same rest =
        let is : e.0 ≡ key = grind (arith, nat_tests) in
        ap (λ b. cond b (Some e.0) (lookup_key (nat_eq key) es)) same ∙ ap Some is
    by false differ rest =
        ap (λ b. cond b (Some e.0) (lookup_key (nat_eq key) es)) differ
        ∙ rest (sym (ap (λ b. cond b (Some e.1) (lookup (nat_eq key) es)) differ) ∙ there)

pub cut_at : (key : ℕ) (held : Allocation) (places : Allocations) → lookup (nat_eq key) places ≡ Some held → Cut key held places
cut_at key held places there =
    let found = entry_found (nat_eq key) places key held (key_found key held places there) there in
    record { before = found.0; behind = found.1; whole = found.2; rest = found.3 }

-- places and slots --------------------------------------------------------------------------------

-- each place's slot is as it says, and nothing else counts
pub record Filled (says : Option Entry → ℕ × Allocation → Type 0) (last : ℕ) (places : Allocations) (slots : FinMap nat_cmp Entry) : Type 0 where
  pub apart : AreSlots last places
  pub each : AllByRecursion (λ held. says (get slots held.1.slot) held) places
  pub counts : (held : ℕ × Allocation) (o : Option Entry) → says o held → bytes_at o ≡ held.1.bytes
  pub bytes : total_in slots ≡ total places

-- one place is taken out, and its slot emptied
pub filled-out : (says : Option Entry → ℕ × Allocation → Type 0) (last : ℕ) (xs ys : Allocations) (held : ℕ × Allocation) (slots : FinMap nat_cmp Entry)
    → Filled says last (xs ++ held ∷ ys) slots → Filled says last (xs ++ ys) (remove slots held.1.slot)
filled-out says last xs ys held slots filled =
    let parts = slots_middle last xs ys held filled.apart in
    let here = all-middle (λ h. says (get slots h.1.slot) h) xs ys held filled.each in
    let share : bytes_at (get slots held.1.slot) ≡ held.1.bytes = filled.counts held (get slots held.1.slot) here.0 in
    let less : total_in (remove slots held.1.slot) + bytes_at (get slots held.1.slot) ≡ total_in slots = total-remove slots held.1.slot in
    let all : total (xs ++ held ∷ ys) ≡ held.1.bytes + total (xs ++ ys) = total_middle xs ys held in
    let was : total_in slots ≡ total (xs ++ held ∷ ys) = filled.bytes in
    record {
      apart = parts.0;
      each = all-apart (λ h. says (get slots h.1.slot) h) (λ h. says (get (remove slots held.1.slot) h.1.slot) h) (xs ++ ys) held.1.slot parts.1.1.1
          (λ h other said. subst (λ o. says o h) (sym (get-remove_apart slots held.1.slot h.1.slot other)) said) here.1;
      counts = filled.counts;
      bytes = omega (arith, share, less, all, was);
    }

-- one place goes to the front
pub filled-first : (says : Option Entry → ℕ × Allocation → Type 0) (last : ℕ) (xs ys : Allocations) (held : ℕ × Allocation) (slots : FinMap nat_cmp Entry)
    → Filled says last (xs ++ held ∷ ys) slots → Filled says last (held ∷ (xs ++ ys)) slots
filled-first says last xs ys held slots filled =
    let parts = slots_middle last xs ys held filled.apart in
    record {
      apart = (parts.1.0, parts.1.1.0, parts.1.1.1, parts.0);
      each = all-middle (λ h. says (get slots h.1.slot) h) xs ys held filled.each;
      counts = filled.counts;
      bytes = filled.bytes ∙ total_middle xs ys held ∙ sym (sum_by-cons (λ (h : ℕ × Allocation). h.1.bytes) held (xs ++ ys));
    }

-- the last places are taken out, from the back
pub filled-back : (says : Option Entry → ℕ × Allocation → Type 0) (last : ℕ) (xs ys : Allocations) (slots : FinMap nat_cmp Entry)
    → Filled says last (xs ++ ys) slots → Filled says last xs (emptied slots (slots_back ys))
filled-back says last xs [] slots filled = subst (λ l. Filled says last l slots) (append-nil xs) filled
filled-back says last xs (y ∷ ys) slots filled =
    let more : Filled says last (xs ++ y ∷ []) (emptied slots (slots_back ys)) =
    filled-back says last (xs ++ y ∷ []) ys slots (subst (λ l. Filled says last l slots) (sym (append_assoc xs (y ∷ []) ys)) filled) in
    subst (λ m. Filled says last xs m) (sym (emptied-back slots y ys))
    (subst (λ l. Filled says last l (remove (emptied slots (slots_back ys)) y.1.slot)) (append-nil xs) (filled-out says last xs [] y (emptied slots (slots_back ys)) more))

-- a slot that no place has takes no bytes
pub filled-unused : (says : Option Entry → ℕ × Allocation → Type 0) (last : ℕ) (places : Allocations) (slots : FinMap nat_cmp Entry) (slot : ℕ)
    → Filled says last places slots → is_used places slot ≡ false → bytes_at (get slots slot) ≡ 0
filled-unused says last [] slots slot filled unused =
    let most : bytes_at (get slots slot) ≤ total_in slots = bytes_at-most slots slot in
    let none : total_in slots ≡ 0 = filled.bytes in
    omega (arith, most, none)
filled-unused says last (held ∷ places) slots slot filled unused =
    let parts = or_parts (nat_eq slot held.1.slot) (is_used places slot) unused in
    let turned : nat_eq held.1.slot slot ≡ false = let apart = parts.0 in grind (arith, nat_tests) in
    ap bytes_at (sym (get-remove_apart slots held.1.slot slot turned))
    ∙ filled-unused says last places (remove slots held.1.slot) slot (filled-out says last [] places held slots filled) parts.1

-- a place is put in front, with a slot that no other has
pub filled-in : (says said : Option Entry → ℕ × Allocation → Type 0) (last : ℕ) (places : Allocations) (slots : FinMap nat_cmp Entry) (key slot bytes : ℕ) (e : Entry)
    → Filled says last places slots → 1 ≤ slot → slot ≤ last → is_used places slot ≡ false → bytes_of e ≡ bytes
    → ((held : ℕ × Allocation) (o : Option Entry) → nat_eq slot held.1.slot ≡ false → says o held → said o held)
    → ((held : ℕ × Allocation) (o : Option Entry) → said o held → bytes_at o ≡ held.1.bytes)
    → said (Some e) (key, place slot bytes)
    → Filled said last ((key, place slot bytes) ∷ places) (insert slots slot e)
filled-in says said last places slots key slot bytes e filled from to unused counted on counts front =
    let more : total_in (insert slots slot e) + bytes_at (get slots slot) ≡ total_in slots + bytes_of e = total-insert slots slot e in
    let none : bytes_at (get slots slot) ≡ 0 = filled-unused says last places slots slot filled unused in
    let was : total_in slots ≡ total places = filled.bytes in
    let all : total ((key, place slot bytes) ∷ places) ≡ bytes + total places = sum_by-cons (λ (h : ℕ × Allocation). h.1.bytes) (key, place slot bytes) places in
    record {
      apart = (from, to, unused, filled.apart);
      each = (
        subst (λ o. said o (key, place slot bytes)) (sym (get-insert_here slots slot e)) front,
        all-apart (λ h. says (get slots h.1.slot) h) (λ h. said (get (insert slots slot e) h.1.slot) h) places slot unused
            (λ h other holds. subst (λ o. said o h) (sym (get-insert_apart slots slot e h.1.slot other)) (on h (get slots h.1.slot) other holds)) filled.each,
      );
      counts = counts;
      bytes = omega (arith, more, none, was, all, counted);
    }

-- a key's place is taken out, where it is held
pub filled-without : (says : Option Entry → ℕ × Allocation → Type 0) (last key : ℕ) (places : Allocations) (slots : FinMap nat_cmp Entry)
    → Filled says last places slots → Filled says last (without key places) (emptied slots (option_to_list (slot_of key places)))
filled-without says last key places slots filled = by (lookup (nat_eq key) places) refl
  where
    by : (o : Option Allocation) → lookup (nat_eq key) places ≡ o → Filled says last (without key places) (emptied slots (option_to_list (slot_of key places)))
    by None none =
        subst (λ o. Filled says last (without key places) (emptied slots (option_to_list (option_map (λ (h : Allocation). h.slot) o)))) (sym none)
        (subst (λ l. Filled says last l slots) (sym (not_among key places none).0) filled)
    by (Some held) there =
        let cut = cut_at key held places there in
        subst (λ o. Filled says last (without key places) (emptied slots (option_to_list (option_map (λ (h : Allocation). h.slot) o)))) (sym there)
        (subst (λ l. Filled says last l (remove slots held.slot)) (sym cut.rest)
        (filled-out says last cut.before cut.behind (key, held) slots (subst (λ l. Filled says last l slots) cut.whole filled)))

-- a held key's place goes to the front
pub filled-touched : (says : Option Entry → ℕ × Allocation → Type 0) (last key : ℕ) (held : Allocation) (places : Allocations) (slots : FinMap nat_cmp Entry)
    → lookup (nat_eq key) places ≡ Some held → Filled says last places slots → Filled says last ((key, held) ∷ without key places) slots
filled-touched says last key held places slots there filled =
    let cut = cut_at key held places there in
    subst (λ l. Filled says last ((key, held) ∷ l) slots) (sym cut.rest)
    (filled-first says last cut.before cut.behind (key, held) slots (subst (λ l. Filled says last l slots) cut.whole filled))

-- the room that is made -----------------------------------------------------------------------------

-- there is room for so many bytes in the least free slot
pub record Room (last most bytes : ℕ) (left : Allocations) : Type 0 where
  pub from : 1 ≤ least_free last left
  pub to : least_free last left ≤ last
  pub unused : is_used left (least_free last left) ≡ false
  pub within : total left + bytes ≤ most

first_there : (xs : List ℕ) → not (is_none xs) ≡ true → slice_get xs 0 ≡ Some (slice_index xs 0)
first_there [] some = absurd cc
first_there (x ∷ xs) some = refl

pub room_of : (last most bytes : ℕ) (left : Allocations) → takes_more last most bytes left ≡ true → Room last most bytes left
room_of last most bytes left room =
    let parts = and_parts (not (is_none (free_slots last left))) (nat_le (total left + bytes) most) room in
    let first = first_passes (λ slot. not (is_used left slot)) 1 last (least_free last left) (first_there (free_slots last left) parts.0) in
    let below : least_free last left < 1 + last = first.1.0 in
    record {
      from = first.0;
      to = omega (arith, below);
      unused = denied (is_used left (least_free last left)) first.1.1;
      within = (let test = parts.1 in grind (arith, nat_tests));
    }

pub room-left : (last most bytes : ℕ) (places : Allocations) (n : ℕ) → 1 ≤ last → bytes ≤ most → takes_more last most bytes (take (staying last most bytes places n) places) ≡ true
room-left last most bytes places zero first alone = room_alone last most bytes first alone
room-left last most bytes places (suc n) first alone = by (takes_more last most bytes (take (suc n) places)) refl (room-left last most bytes places n first alone)
  where
    by : (b : Bool) → takes_more last most bytes (take (suc n) places) ≡ b → takes_more last most bytes (take (staying last most bytes places n) places) ≡ true
        → takes_more last most bytes (take (staying last most bytes places (suc n)) places) ≡ true
    by true room rest = ap (λ k. takes_more last most bytes (take k places)) (staying_stops last most bytes places (suc n) room) ∙ room
    by false full rest = ap (λ k. takes_more last most bytes (take k places)) (staying_goes last most bytes places n full) ∙ rest

-- what stays where a key is kept, and its slot
abbrev pub left_of : ℕ → ℕ → ℕ → ℕ → Allocations → Allocations
left_of last most key bytes places = left_for last most bytes (without key places)

abbrev pub slot_for : ℕ → ℕ → ℕ → ℕ → Allocations → ℕ
slot_for last most key bytes places = least_free last (left_of last most key bytes places)

pub room_for : (last most key bytes : ℕ) (places : Allocations) → 1 ≤ last → bytes ≤ most → Room last most bytes (left_of last most key bytes places)
room_for last most key bytes places first alone =
    room_of last most bytes (left_of last most key bytes places) (room-left last most bytes (without key places) (length (without key places)) first alone)

others_cut : (last most bytes : ℕ) (others : Allocations) → left_for last most bytes others ++ gone_for last most bytes others ≡ others
others_cut last most bytes others = take-append-drop (staying last most bytes others (length others)) others

-- what is dropped is emptied
pub filled-left : (says : Option Entry → ℕ × Allocation → Type 0) (last most key bytes : ℕ) (places : Allocations) (slots : FinMap nat_cmp Entry)
    → Filled says last places slots → Filled says last (left_of last most key bytes places) (emptied slots (dropped_for last most key bytes places))
filled-left says last most key bytes places slots filled =
    let own = option_to_list (slot_of key places) in
    let gone = gone_for last most bytes (without key places) in
    subst (λ m. Filled says last (left_of last most key bytes places) m) (sym (emptied-append slots own (slots_back gone)))
    (filled-back says last (left_of last most key bytes places) gone (emptied slots own)
    (subst (λ l. Filled says last l (emptied slots own)) (sym (others_cut last most bytes (without key places))) (filled-without says last key places slots filled)))

-- and the key's place put in
pub filled-kept : (says said : Option Entry → ℕ × Allocation → Type 0) (last most key bytes : ℕ) (places : Allocations) (slots : FinMap nat_cmp Entry) (e : Entry)
    → 1 ≤ last → bytes ≤ most → Filled says last places slots → bytes_of e ≡ bytes
    → ((held : ℕ × Allocation) (o : Option Entry) → nat_eq (slot_for last most key bytes places) held.1.slot ≡ false → says o held → said o held)
    → ((held : ℕ × Allocation) (o : Option Entry) → said o held → bytes_at o ≡ held.1.bytes)
    → said (Some e) (key, place (slot_for last most key bytes places) bytes)
    → Filled said last ((key, place (slot_for last most key bytes places) bytes) ∷ left_of last most key bytes places)
    (insert (emptied slots (dropped_for last most key bytes places)) (slot_for last most key bytes places) e)
filled-kept says said last most key bytes places slots e first alone filled counted on counts front =
    let room = room_for last most key bytes places first alone in
    filled-in says said last (left_of last most key bytes places) (emptied slots (dropped_for last most key bytes places)) key (slot_for last most key bytes places) bytes e
    (filled-left says last most key bytes places slots filled) room.from room.to room.unused counted on counts front

-- what is dropped -----------------------------------------------------------------------------------

slots-without : (last key : ℕ) (places : Allocations) → AreSlots last places
    → AreSlots last (without key places) × AllByRecursion (λ slot. (1 ≤ slot) × (slot ≤ last)) (option_to_list (slot_of key places))
slots-without last key places apart = by (lookup (nat_eq key) places) refl
  where
    by : (o : Option Allocation) → lookup (nat_eq key) places ≡ o
        → AreSlots last (without key places) × AllByRecursion (λ slot. (1 ≤ slot) × (slot ≤ last)) (option_to_list (slot_of key places))
    by None none = (
      subst (AreSlots last) (sym (not_among key places none).0) apart,
      subst (λ o. AllByRecursion (λ slot. (1 ≤ slot) × (slot ≤ last)) (option_to_list (option_map (λ (h : Allocation). h.slot) o))) (sym none) tt,
    )
    by (Some held) there =
        let cut = cut_at key held places there in
        let parts = slots_middle last cut.before cut.behind (key, held) (subst (AreSlots last) cut.whole apart) in (
          subst (AreSlots last) (sym cut.rest) parts.0,
          subst (λ o. AllByRecursion (λ slot. (1 ≤ slot) × (slot ≤ last)) (option_to_list (option_map (λ (h : Allocation). h.slot) o))) (sym there)
              ((parts.1.0, parts.1.1.0), tt),
        )

-- only slots are dropped
pub dropped-within : (last most key bytes : ℕ) (places : Allocations) → AreSlots last places
    → AllByRecursion (λ slot. (1 ≤ slot) × (slot ≤ last)) (dropped_for last most key bytes places)
dropped-within last most key bytes places apart =
    let gone = gone_for last most bytes (without key places) in
    let parts = slots-without last key places apart in
    all_both (λ slot. (1 ≤ slot) × (slot ≤ last)) (option_to_list (slot_of key places)) (slots_back gone) parts.1
    (slots_back-within last gone (slots-right last (left_of last most key bytes places) gone
    (subst (AreSlots last) (sym (others_cut last most bytes (without key places))) parts.0)))

-- and no more than there are places
pub length-dropped : (last most key bytes : ℕ) (places : Allocations) → length (dropped_for last most key bytes places) ≤ length places
length-dropped last most key bytes places =
    let others = without key places in
    let gone = gone_for last most bytes others in
    let n = staying last most bytes others (length others) in
    let back : length (slots_back gone) ≡ length gone = length-reverse (map (λ (h : ℕ × Allocation). h.1.slot) gone) ∙ length-map gone (λ (h : ℕ × Allocation). h.1.slot) in
    let some : length gone ≤ length others = (let dropped = length-drop n others in omega (arith, dropped)) in
    let two : length (dropped_for last most key bytes places) ≡ length (option_to_list (slot_of key places)) + length (slots_back gone) = length-append (option_to_list (slot_of key places)) (slots_back gone) in
    let own : length (option_to_list (slot_of key places)) + length others ≤ length places = by (lookup (nat_eq key) places) refl in
    omega (arith, back, some, two, own)
  where
    by : (o : Option Allocation) → lookup (nat_eq key) places ≡ o → length (option_to_list (slot_of key places)) + length (without key places) ≤ length places
    by None none =
        let one : length (option_to_list (slot_of key places)) ≡ 0 = ap (λ o. length (option_to_list (option_map (λ (h : Allocation). h.slot) o))) none in
        let less : length (without key places) ≤ length places = length-without key places in
        omega (arith, one, less)
    by (Some held) there =
        let one : length (option_to_list (slot_of key places)) ≡ 1 = ap (λ o. length (option_to_list (option_map (λ (h : Allocation). h.slot) o))) there in
        let less : length (without key places) + 1 ≡ length places = length-held key held places there in
        omega (arith, one, less)
