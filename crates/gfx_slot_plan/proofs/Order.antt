-- The order of use: a key among others, the last of them, and how many stay.
use Rattle.std.proofs.Common.{◌≡◌, ◌∙◌, ◌<◌, ◌≤◌, ◌+◌, ◌-◌, ◌^◌, ◌⊎◌, inl, inr, ◌&&◌, not, nat_lt, ap, sym, refl, subst, cond, nat_eq, nat_le, Bool, true, false, ℕ, zero, suc, [], ◌∷◌, ◌++◌, map, length, take, drop, Option, Some, None, arith, append-nil}
use Rattle.std.specs.Prelude.{reverse, slice_get, get_or}
use Rattle.std.proofs.lemmas.Option.{slice_get-get_or}
use Rattle.std.specs.Map.{lookup, lookup_entry}
use Rattle.std.specs.Option.{option_map, option_map_or}
use Rattle.std.proofs.lemmas.Bool.{cases_lt}
use Rattle.std.proofs.lemmas.Bool.Decides.{nat_tests}
use Rattle.std.proofs.lemmas.List.{reverse-append, map-append, take_all}
use Rattle.lru.specs.LruCache.{LruCache, put_entries, promoted, last_entry}
use Rattle.gfx_slot_plan.specs.declared.allocation.Allocation.{Allocation}
use Rattle.gfx_slot_plan.specs.Pool.{Pool, has_free, pool_slots, is_none}
use Rattle.gfx_slot_plan.specs.Plan.{Allocations, without, slots_back, staying, takes_more, free_slots, total}
use Rattle.gfx_slot_plan.specs.Tied.{IsTied, Gives}
use Rattle.gfx_slot_plan.proofs.Ranges.{some_from}
use Rattle.gfx_slot_plan.proofs.Ties.{tied_parts, tied_without, tied_moved, tied_free_slots}

-- a held key stands once among the others
pub record Among (key : ℕ) (held : Allocation) (all : Allocations) : Type 0 where
  pub xs : Allocations
  pub ys : Allocations
  pub cut : all ≡ xs ++ (key, held) ∷ ys
  pub rest : without key all ≡ xs ++ ys
  pub found : lookup_entry (nat_eq key) all ≡ Some (key, held)

pub among : (key : ℕ) (held : Allocation) (all : Allocations) → lookup (nat_eq key) all ≡ Some held → Among key held all
among key held [] there = cc
among key held (e ∷ es) there = by (nat_eq key e.0) refl (among key held es)
  where
    by : (b : Bool) → nat_eq key e.0 ≡ b → (lookup (nat_eq key) es ≡ Some held → Among key held es) → Among key held (e ∷ es)
    by true same rest =
        let is : e.0 ≡ key = grind (arith, nat_tests) in
        let some : Some e.1 ≡ Some held = sym (ap (λ b. cond b (Some e.1) (lookup (nat_eq key) es)) same) ∙ there in
        let place : e.1 ≡ held = cc in
        record {
          xs = [];
          ys = es;
          cut = λ i. (is i, place i) ∷ es;
          rest = ap (λ b. cond b es (e ∷ without key es)) same;
          found = ap (λ b. cond b (Some e) (lookup_entry (nat_eq key) es)) same ∙ (λ i. Some (is i, place i));
        }
    by false differ rest =
        let later = rest (sym (ap (λ b. cond b (Some e.1) (lookup (nat_eq key) es)) differ) ∙ there) in
        record {
          xs = e ∷ later.xs;
          ys = later.ys;
          cut = ap (λ l. e ∷ l) later.cut;
          rest = ap (λ b. cond b es (e ∷ without key es)) differ ∙ ap (λ l. e ∷ l) later.rest;
          found = ap (λ b. cond b (Some e) (lookup_entry (nat_eq key) es)) differ ∙ later.found;
        }

-- a key that isn't held
pub not_among : (key : ℕ) (all : Allocations) → lookup (nat_eq key) all ≡ None → (without key all ≡ all) × (lookup_entry (nat_eq key) all ≡ None)
not_among key [] none = (refl, refl)
not_among key (e ∷ es) none = by (nat_eq key e.0) refl (not_among key es)
  where
    by : (b : Bool) → nat_eq key e.0 ≡ b → (lookup (nat_eq key) es ≡ None → (without key es ≡ es) × (lookup_entry (nat_eq key) es ≡ None))
        → (without key (e ∷ es) ≡ e ∷ es) × (lookup_entry (nat_eq key) (e ∷ es) ≡ None)
    by true same rest = let no : Some e.1 ≡ None = sym (ap (λ b. cond b (Some e.1) (lookup (nat_eq key) es)) same) ∙ none in cc
    by false differ rest =
        let later = rest (sym (ap (λ b. cond b (Some e.1) (lookup (nat_eq key) es)) differ) ∙ none) in (
          ap (λ b. cond b es (e ∷ without key es)) differ ∙ ap (λ l. e ∷ l) later.0,
          ap (λ b. cond b (Some e) (lookup_entry (nat_eq key) es)) differ ∙ later.1,
        )

-- what a held key gives back
pub held_parts : (key : ℕ) (held : Allocation) (all : Allocations) (p : Pool) (b : ℕ) → IsTied all p b → lookup (nat_eq key) all ≡ Some held
    → (1 ≤ held.slot) × ((held.slot ≤ p.last) × ((has_free p held.slot ≡ false) × (held.bytes ≤ b)))
held_parts key held all p b tied there =
    let a = among key held all there in tied_parts a.xs a.ys (key, held) p b (subst (λ l. IsTied l p b) a.cut tied)

pub held_without : (key : ℕ) (held : Allocation) (all : Allocations) (old new : Pool) (b c : ℕ) → IsTied all old b → lookup (nat_eq key) all ≡ Some held
    → Gives old new held.slot → c + held.bytes ≡ b → IsTied (without key all) new c
held_without key held all old new b c tied there gives less =
    let a = among key held all there in
    subst (λ l. IsTied l new c) (sym a.rest) (tied_without a.xs a.ys (key, held) old new b c (subst (λ l. IsTied l old b) a.cut tied) gives less)

-- a key that is used goes first
pub held_first : (key : ℕ) (held : Allocation) (all : Allocations) (p : Pool) (b : ℕ) → IsTied all p b → lookup (nat_eq key) all ≡ Some held
    → IsTied (promoted (nat_eq key) all) p b
held_first key held all p b tied there =
    let a = among key held all there in
    subst (λ l. IsTied l p b) (sym (ap (λ o. option_map_or (λ e. e ∷ without key all) o all) a.found ∙ ap (λ l. (key, held) ∷ l) a.rest))
    (tied_moved a.xs a.ys (key, held) p b (subst (λ l. IsTied l p b) a.cut tied))

-- without a key there is no more
pub length-without : (key : ℕ) (all : Allocations) → length (without key all) ≤ length all
length-without key [] = omega arith
length-without key (e ∷ es) = by (nat_eq key e.0) (length-without key es)
  where
    by : (b : Bool) → length (without key es) ≤ length es → length (cond b es (e ∷ without key es)) ≤ suc (length es)
    by true less = omega arith
    by false less = omega arith

-- and with a held one less by one
pub length-held : (key : ℕ) (held : Allocation) (all : Allocations) → lookup (nat_eq key) all ≡ Some held → length (without key all) + 1 ≡ length all
length-held key held [] there = cc
length-held key held (e ∷ es) there = by (nat_eq key e.0) refl (length-held key held es)
  where
    by : (b : Bool) → nat_eq key e.0 ≡ b → (lookup (nat_eq key) es ≡ Some held → length (without key es) + 1 ≡ length es)
        → length (without key (e ∷ es)) + 1 ≡ suc (length es)
    by true same rest = ap (λ b. length (cond b es (e ∷ without key es)) + 1) same ∙ omega arith
    by false differ rest =
        let later = rest (sym (ap (λ b. cond b (Some e.1) (lookup (nat_eq key) es)) differ) ∙ there) in
        ap (λ b. length (cond b es (e ∷ without key es)) + 1) differ ∙ omega arith

-- what `put` leaves in a cache that has room
pub put_first : (c : LruCache ℕ Allocation) (key : ℕ) (v : Allocation) → c.cap ≡ 2 ^ 64 - 1 → length c.entries < 2 ^ 63
    → put_entries nat_eq c key v ≡ (key, v) ∷ without key c.entries
put_first c key v cap fits = by (lookup (nat_eq key) c.entries) refl
  where
    by : (o : Option Allocation) → lookup (nat_eq key) c.entries ≡ o → put_entries nat_eq c key v ≡ (key, v) ∷ without key c.entries
    by None none =
        let parts = not_among key c.entries none in
        ap (λ o. option_map_or (λ e. (e.0, v) ∷ without key c.entries) o ((key, v) ∷ take (c.cap - 1) c.entries)) parts.1
        ∙ ap (λ l. (key, v) ∷ l) (take_all (c.cap - 1) c.entries (omega arith) ∙ sym parts.0)
    by (Some held) there =
        ap (λ o. option_map_or (λ e. (e.0, v) ∷ without key c.entries) o ((key, v) ∷ take (c.cap - 1) c.entries)) (among key held c.entries there).found

-- and where the key is first already
pub put_again : (c : LruCache ℕ Allocation) (key : ℕ) (v w : Allocation) (left : Allocations) → c.entries ≡ (key, w) ∷ left
    → put_entries nat_eq c key v ≡ (key, v) ∷ left
put_again c key v w left is =
    let same : nat_eq key key ≡ true = grind (arith, nat_tests) in
    ap (λ l. option_map_or (λ e. (e.0, v) ∷ without key l) (lookup_entry (nat_eq key) l) ((key, v) ∷ take (c.cap - 1) l)) is
    ∙ ap (λ b. option_map_or (λ e. (e.0, v) ∷ cond b left ((key, w) ∷ without key left)) (cond b (Some (key, w)) (lookup_entry (nat_eq key) left)) ((key, v) ∷ take (c.cap - 1) ((key, w) ∷ left))) same

pub found_first : (key : ℕ) (w : Allocation) (left all : Allocations) → all ≡ (key, w) ∷ left → lookup (nat_eq key) all ≡ Some w
found_first key w left all is =
    let same : nat_eq key key ≡ true = grind (arith, nat_tests) in
    ap (lookup (nat_eq key)) is ∙ ap (λ b. cond b (Some w) (lookup (nat_eq key) left)) same

-- the last of some, behind the first
last_of : (n : ℕ) (all : Allocations) (held : ℕ × Allocation) → length all ≡ suc n → slice_get all n ≡ Some held → (drop n all ≡ held ∷ []) × (all ≡ take n all ++ held ∷ [])
last_of zero [] held long last = absurd (omega arith)
last_of zero (e ∷ []) held long last = let same : e ≡ held = cc in (ap (λ h. h ∷ []) same, ap (λ h. h ∷ []) same)
last_of zero (e ∷ f ∷ es) held long last = absurd (omega arith)
last_of (suc n) [] held long last = absurd (omega arith)
last_of (suc n) (e ∷ es) held long last =
    let rest = last_of n es held (omega arith) last in (rest.0, ap (λ l. e ∷ l) rest.1)

pub last_cut : (all : Allocations) (held : ℕ × Allocation) → 1 < length all → last_entry all ≡ Some held
    → (drop (length all - 1) all ≡ held ∷ []) × (drop 1 all ≡ drop 1 (take (length all - 1) all) ++ held ∷ [])
last_cut [] held some last = absurd (omega arith)
last_cut (e ∷ []) held some last = absurd (omega arith)
last_cut (e ∷ f ∷ es) held some last =
    let less : length (e ∷ f ∷ es) - 1 ≡ suc (length es) = omega arith in
    let rest = last_of (length es) (f ∷ es) held refl (sym (ap (slice_get (e ∷ f ∷ es)) less) ∙ last) in
    (ap (λ n. drop n (e ∷ f ∷ es)) less ∙ rest.0, rest.1 ∙ ap (λ n. drop 1 (take n (e ∷ f ∷ es)) ++ held ∷ []) (sym less))

-- there is a last one
pub last_there : (all : Allocations) → 1 < length all → last_entry all ≡ None → true ≡ false
last_there [] some none = absurd (omega arith)
last_there (e ∷ []) some none = absurd (omega arith)
last_there (e ∷ f ∷ es) some none =
    let less : length (e ∷ f ∷ es) - 1 ≡ suc (length es) = omega arith in
    let found : slice_get (f ∷ es) (length es) ≡ Some (get_or (f ∷ es) (length es) f) = slice_get-get_or (f ∷ es) (length es) f (omega arith) in
    let no : Some (get_or (f ∷ es) (length es) f) ≡ None = sym found ∙ sym (ap (slice_get (e ∷ f ∷ es)) less) ∙ none in cc

-- how many stay, once there is room
pub staying_stops : (last most bytes : ℕ) (places : Allocations) (n : ℕ) → takes_more last most bytes (take n places) ≡ true → staying last most bytes places n ≡ n
staying_stops last most bytes places zero room = refl
staying_stops last most bytes places (suc n) room = ap (λ b. cond b (suc n) (staying last most bytes places n)) room

-- and while there is none
pub staying_goes : (last most bytes : ℕ) (places : Allocations) (n : ℕ) → takes_more last most bytes (take (suc n) places) ≡ false
    → staying last most bytes places (suc n) ≡ staying last most bytes places n
staying_goes last most bytes places n full = ap (λ b. cond b (suc n) (staying last most bytes places n)) full

-- with nothing held there is room
pub room_alone : (last most bytes : ℕ) → 1 ≤ last → bytes ≤ most → takes_more last most bytes [] ≡ true
room_alone last most bytes first alone =
    let some : is_none (free_slots last []) ≡ false = some_from (λ slot. true) 1 last 1 (omega arith) (omega arith) refl in
    let within : nat_le (0 + bytes) most ≡ true = grind (arith, nat_tests) in
    λ i. not (some i) && within i

-- one more that goes
drop_split : (k : ℕ) (all : Allocations) → drop k all ≡ drop k (take (suc k) all) ++ drop (suc k) all
drop_split zero [] = refl
drop_split zero (e ∷ es) = refl
drop_split (suc k) [] = refl
drop_split (suc k) (e ∷ es) = drop_split k es

pub slots_back_more : (k : ℕ) (all : Allocations) → slots_back (drop k all) ≡ slots_back (drop (suc k) all) ++ slots_back (drop k (take (suc k) all))
slots_back_more k all =
    let slot : ℕ × Allocation → ℕ = λ held. held.1.slot in
    ap (λ l. reverse (map slot l)) (drop_split k all)
    ∙ ap reverse (map-append slot (drop k (take (suc k) all)) (drop (suc k) all))
    ∙ reverse-append (map slot (drop k (take (suc k) all))) (map slot (drop (suc k) all))

pub take_less : (k : ℕ) (all : Allocations) → take k (take (suc k) all) ≡ take k all
take_less zero all = refl
take_less (suc k) [] = refl
take_less (suc k) (e ∷ es) = ap (λ l. e ∷ l) (take_less k es)

-- what the last gives back
pub last_parts : (all : Allocations) (held : ℕ × Allocation) (p : Pool) (b : ℕ) → 1 < length all → last_entry all ≡ Some held → IsTied (drop 1 all) p b
    → (1 ≤ held.1.slot) × ((held.1.slot ≤ p.last) × ((has_free p held.1.slot ≡ false) × (held.1.bytes ≤ b)))
last_parts all held p b some last tied =
    tied_parts (drop 1 (take (length all - 1) all)) [] held p b (subst (λ l. IsTied l p b) (last_cut all held some last).1 tied)

pub last_without : (all : Allocations) (held : ℕ × Allocation) (old new : Pool) (b c : ℕ) → 1 < length all → last_entry all ≡ Some held → IsTied (drop 1 all) old b
    → Gives old new held.1.slot → c + held.1.bytes ≡ b → IsTied (drop 1 (take (length all - 1) all)) new c
last_without all held old new b c some last tied gives less =
    subst (λ l. IsTied l new c) (append-nil (drop 1 (take (length all - 1) all)))
    (tied_without (drop 1 (take (length all - 1) all)) [] held old new b c (subst (λ l. IsTied l old b) (last_cut all held some last).1 tied) gives less)

-- no slot is free
pub full_slots : (places : Allocations) (p : Pool) (b most bytes : ℕ) → IsTied places p b → is_none (pool_slots p) ≡ true → not (takes_more p.last most bytes places) ≡ true
full_slots places p b most bytes tied none =
    ap (λ t. not (not t && nat_le (total places + bytes) most)) (ap is_none (sym (tied_free_slots places p b tied)) ∙ none)

-- or so many bytes more are too many
pub full_bytes : (places : Allocations) (p : Pool) (b most bytes : ℕ) → IsTied places p b → bytes ≤ most → is_none (pool_slots p) ≡ false
    → not (takes_more p.last most bytes places) ≡ nat_lt (most - bytes) b
full_bytes places p b most bytes tied alone some =
    let counted : b ≡ total places = tied.counted in
    ap (λ t. not (not t && nat_le (total places + bytes) most)) (ap is_none (sym (tied_free_slots places p b tied)) ∙ some)
    ∙ ap (λ n. not (nat_le (n + bytes) most)) (sym counted) ∙ over
  where
    over : not (nat_le (b + bytes) most) ≡ nat_lt (most - bytes) b
    over = by (cases_lt (most - bytes) b)
      where
        by : ((most - bytes < b) ⊎ (b ≤ most - bytes)) → not (nat_le (b + bytes) most) ≡ nat_lt (most - bytes) b
        by (inl past) = let more : most < b + bytes = omega arith in grind (arith, nat_tests)
        by (inr within) = let less : b + bytes ≤ most = omega arith in grind (arith, nat_tests)

-- the entry that a look-up finds
pub found_entry : (key : ℕ) (held : Allocation) (all : Allocations) → lookup (nat_eq key) all ≡ Some held → lookup_entry (nat_eq key) all ≡ Some (key, held)
found_entry key held all there = (among key held all there).found

-- the last entry, by its place
pub last_found : (all : Allocations) (held : Allocation) → option_map (λ e. e.1) (last_entry all) ≡ Some held → (key : ℕ) × (last_entry all ≡ Some (key, held))
last_found all held there = by (last_entry all) refl
  where
    by : (o : Option (ℕ × Allocation)) → last_entry all ≡ o → (key : ℕ) × (last_entry all ≡ Some (key, held))
    by None none = let no : None ≡ Some held = sym (ap (option_map (λ e. e.1)) none) ∙ there in absurd cc
    by (Some e) some =
        let place : Some e.1 ≡ Some held = sym (ap (option_map (λ e. e.1)) some) ∙ there in
        let is : e.1 ≡ held = cc in
        (e.0, some ∙ ap (λ v. Some (e.0, v)) is)

pub last_none : (all : Allocations) → option_map (λ e. e.1) (last_entry all) ≡ None → last_entry all ≡ None
last_none all none = by (last_entry all) refl
  where
    by : (o : Option (ℕ × Allocation)) → last_entry all ≡ o → last_entry all ≡ None
    by None is = is
    by (Some e) some = let no : Some e.1 ≡ None = sym (ap (option_map (λ e. e.1)) some) ∙ none in absurd cc
