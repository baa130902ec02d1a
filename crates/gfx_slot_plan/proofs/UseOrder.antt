-- Keys in the order of use, and what some of the first of them are.
use Rattle.std.proofs.Common.{◌≡◌, ◌∙◌, ◌<◌, ◌≤◌, ◌||◌, ap, sym, refl, subst, cond, nat_eq, Bool, true, false, ℕ, zero, suc, List, [], ◌∷◌, length, take, drop, map, Option, Some, None, is_some, arith}
use Rattle.std.specs.Prelude.{IsSome, ⊤}
use Rattle.std.specs.List.{AllByRecursion, list_any}
use Rattle.std.specs.Map.{lookup}
use Rattle.std.proofs.lemmas.Bool.Decides.{nat_tests}
use Rattle.std.proofs.lemmas.List.{reverse-append}
use Rattle.std.proofs.lemmas.List.Folds.{list_any-append}
use Rattle.gfx_slot_plan.specs.declared.allocation.Allocation.{Allocation}
use Rattle.gfx_slot_plan.specs.Plan.{Allocations, AreSlots, is_used, slots_back, without}
use Rattle.gfx_slot_plan.specs.History.{Event, uses, last_use}

-- a key's place, seen at the first entry: it is this one, or it is among the others
pub skip : (q : ℕ) (e : ℕ × Allocation) (es : Allocations) → nat_eq q e.0 ≡ false → lookup (nat_eq q) (e ∷ es) ≡ lookup (nat_eq q) es
skip q e es differ = ap (λ b. cond b (Some e.1) (lookup (nat_eq q) es)) differ

pub meet : (q : ℕ) (e : ℕ × Allocation) (es : Allocations) → nat_eq q e.0 ≡ true → lookup (nat_eq q) (e ∷ es) ≡ Some e.1
meet q e es same = ap (λ b. cond b (Some e.1) (lookup (nat_eq q) es)) same

no_place : (o : Option Allocation) → IsSome o → o ≡ None → ⊥
no_place (Some x) some none = cc
no_place None some none = let no : false ≡ true = some in cc

-- no event is later than the last
pub last_use_most : (key : ℕ) (history : List Event) → last_use key history ≤ length history
last_use_most key [] = omega arith
last_use_most key (event ∷ earlier) = by (uses key event) (last_use_most key earlier)
  where
    by : (b : Bool) → last_use key earlier ≤ length earlier → cond b (suc (length earlier)) (last_use key earlier) ≤ suc (length earlier)
    by true less = omega arith
    by false less = omega arith

pub last_use_now : (key : ℕ) (event : Event) (earlier : List Event) → uses key event ≡ true → last_use key (event ∷ earlier) ≡ suc (length earlier)
last_use_now key event earlier used = ap (λ b. cond b (suc (length earlier)) (last_use key earlier)) used

pub last_use_then : (key : ℕ) (event : Event) (earlier : List Event) → uses key event ≡ false → last_use key (event ∷ earlier) ≡ last_use key earlier
last_use_then key event earlier unused = ap (λ b. cond b (suc (length earlier)) (last_use key earlier)) unused

-- each key was used later than those behind it
abbrev pub InOrder : List Event → Allocations → Type 0
InOrder history [] = ⊤
InOrder history (held ∷ places) = AllByRecursion (λ other. last_use other.0 history < last_use held.0 history) places × InOrder history places

module _ (P : ℕ × Allocation → Type 0) where
  all_take : (n : ℕ) (places : Allocations) → AllByRecursion P places → AllByRecursion P (take n places)
  all_take zero places all = tt
  all_take (suc n) [] all = tt
  all_take (suc n) (e ∷ es) all = (all.0, all_take n es all.1)

  all_without : (key : ℕ) (places : Allocations) → AllByRecursion P places → AllByRecursion P (without key places)
  all_without key [] all = tt
  all_without key (e ∷ es) all = by (nat_eq key e.0) (all_without key es all.1)
    where
      by : (b : Bool) → AllByRecursion P (without key es) → AllByRecursion P (cond b es (e ∷ without key es))
      by true rest = all.1
      by false rest = (all.0, rest)

pub order_take : (history : List Event) (n : ℕ) (places : Allocations) → InOrder history places → InOrder history (take n places)
order_take history zero places order = tt
order_take history (suc n) [] order = tt
order_take history (suc n) (e ∷ es) order = (all_take (λ other. last_use other.0 history < last_use e.0 history) n es order.0, order_take history n es order.1)

pub order_without : (history : List Event) (key : ℕ) (places : Allocations) → InOrder history places → InOrder history (without key places)
order_without history key [] order = tt
order_without history key (e ∷ es) order = by (nat_eq key e.0) (order_without history key es order.1)
  where
    by : (b : Bool) → InOrder history (without key es) → InOrder history (cond b es (e ∷ without key es))
    by true rest = order.1
    by false rest = (all_without (λ other. last_use other.0 history < last_use e.0 history) key es order.0, rest)

-- the last uses of these keys are the same after another event
abbrev pub AreUsedAlike : List Event → List Event → Allocations → Type 0
AreUsedAlike now before places = AllByRecursion (λ held. last_use held.0 now ≡ last_use held.0 before) places

order_alike_first : (now before : List Event) (key : ℕ) (places : Allocations) → last_use key now ≡ last_use key before → AreUsedAlike now before places
    → AllByRecursion (λ other. last_use other.0 before < last_use key before) places → AllByRecursion (λ other. last_use other.0 now < last_use key now) places
order_alike_first now before key [] same alike all = tt
order_alike_first now before key (e ∷ es) same alike all =
    (subst (λ n. n < last_use key now) (sym alike.0) (subst (λ n. last_use e.0 before < n) (sym same) all.0), order_alike_first now before key es same alike.1 all.1)

pub order_alike : (now before : List Event) (places : Allocations) → AreUsedAlike now before places → InOrder before places → InOrder now places
order_alike now before [] alike order = tt
order_alike now before (e ∷ es) alike order = (order_alike_first now before e.0 es alike.0 alike.1 order.0, order_alike now before es alike.1 order.1)

-- an event that uses no key but one leaves the last uses of the others
pub alike_others : (key : ℕ) (event : Event) (earlier : List Event) (places : Allocations) → ((q : ℕ) → nat_eq key q ≡ false → uses q event ≡ false)
    → lookup (nat_eq key) places ≡ None → AreUsedAlike (event ∷ earlier) earlier places
alike_others key event earlier [] only none = tt
alike_others key event earlier (e ∷ es) only none = by (nat_eq key e.0) refl (alike_others key event earlier es only)
  where
    by : (b : Bool) → nat_eq key e.0 ≡ b → (lookup (nat_eq key) es ≡ None → AreUsedAlike (event ∷ earlier) earlier es) → AreUsedAlike (event ∷ earlier) earlier (e ∷ es)
    by true same rest = let no : Some e.1 ≡ None = sym (meet key e es same) ∙ none in absurd cc
    by false differ rest = (last_use_then e.0 event earlier (only e.0 differ), rest (sym (skip key e es differ) ∙ none))

-- and an event that uses no key those of all
pub alike_all : (event : Event) (earlier : List Event) (places : Allocations) → ((q : ℕ) → uses q event ≡ false) → AreUsedAlike (event ∷ earlier) earlier places
alike_all event earlier [] unused = tt
alike_all event earlier (e ∷ es) unused = (last_use_then e.0 event earlier (unused e.0), alike_all event earlier es unused)

-- a key that is used now is later than all others
pub order_first : (key : ℕ) (event : Event) (earlier : List Event) (held : Allocation) (places : Allocations) → uses key event ≡ true
    → AreUsedAlike (event ∷ earlier) earlier places → InOrder earlier places → InOrder (event ∷ earlier) ((key, held) ∷ places)
order_first key event earlier held places used alike order = (later places alike, order_alike (event ∷ earlier) earlier places alike order)
  where
    later : (es : Allocations) → AreUsedAlike (event ∷ earlier) earlier es → AllByRecursion (λ other. last_use other.0 (event ∷ earlier) < last_use key (event ∷ earlier)) es
    later [] same = tt
    later (e ∷ es) same =
        let now : last_use key (event ∷ earlier) ≡ suc (length earlier) = last_use_now key event earlier used in
        let was : last_use e.0 earlier ≤ length earlier = last_use_most e.0 earlier in
        let still : last_use e.0 (event ∷ earlier) ≡ last_use e.0 earlier = same.0 in
        (omega arith, later es same.1)

-- what holds of each entry's key holds of each key that is there
pub all_at : (P : ℕ → Type 0) (q : ℕ) (places : Allocations) → AllByRecursion (λ held. P held.0) places → IsSome (lookup (nat_eq q) places) → P q
all_at P q [] all there = absurd (no_place None there refl)
all_at P q (e ∷ es) all there = by (nat_eq q e.0) refl (all_at P q es all.1)
  where
    by : (b : Bool) → nat_eq q e.0 ≡ b → (IsSome (lookup (nat_eq q) es) → P q) → P q
    by true same rest = let is : e.0 ≡ q = grind (arith, nat_tests) in subst P is all.0
    by false differ rest = rest (ap is_some (sym (skip q e es differ)) ∙ there)

-- a key that isn't among the first was used before each of them
pub first_later : (history : List Event) (n : ℕ) (places : Allocations) (gone stays : ℕ) → InOrder history places
    → IsSome (lookup (nat_eq gone) places) → lookup (nat_eq gone) (take n places) ≡ None → IsSome (lookup (nat_eq stays) (take n places))
    → last_use gone history < last_use stays history
first_later history zero places gone stays order there out within = absurd (no_place None within refl)
first_later history (suc n) [] gone stays order there out within = absurd (no_place None there refl)
first_later history (suc n) (e ∷ es) gone stays order there out within = by (nat_eq gone e.0) refl (nat_eq stays e.0) refl (first_later history n es gone stays order.1)
  where
    by : (b : Bool) → nat_eq gone e.0 ≡ b → (c : Bool) → nat_eq stays e.0 ≡ c
        → (IsSome (lookup (nat_eq gone) es) → lookup (nat_eq gone) (take n es) ≡ None → IsSome (lookup (nat_eq stays) (take n es)) → last_use gone history < last_use stays history)
        → last_use gone history < last_use stays history
    by true same c first rest = let no : Some e.1 ≡ None = sym (meet gone e (take n es) same) ∙ out in absurd cc
    by false differ true first rest =
        let is : e.0 ≡ stays = grind (arith, nat_tests) in
        subst (λ k. last_use gone history < last_use k history) is
        (all_at (λ k. last_use k history < last_use e.0 history) gone es order.0 (ap is_some (sym (skip gone e es differ)) ∙ there))
    by false differ false later rest =
        rest (ap is_some (sym (skip gone e es differ)) ∙ there) (sym (skip gone e (take n es) differ) ∙ out)
        (ap is_some (sym (skip stays e (take n es) later)) ∙ within)

-- another key is where it was
pub lookup_without : (key q : ℕ) (places : Allocations) → nat_eq q key ≡ false → lookup (nat_eq q) (without key places) ≡ lookup (nat_eq q) places
lookup_without key q [] apart = refl
lookup_without key q (e ∷ es) apart = by (nat_eq key e.0) refl (nat_eq q e.0) refl (lookup_without key q es apart)
  where
    by : (b : Bool) → nat_eq key e.0 ≡ b → (c : Bool) → nat_eq q e.0 ≡ c → lookup (nat_eq q) (without key es) ≡ lookup (nat_eq q) es
        → lookup (nat_eq q) (cond b es (e ∷ without key es)) ≡ lookup (nat_eq q) (e ∷ es)
    by true same c here rest = sym (skip q e es (let is : e.0 ≡ key = grind (arith, nat_tests) in ap (nat_eq q) is ∙ apart))
    by false differ true here rest = meet q e (without key es) here ∙ sym (meet q e es here)
    by false differ false here rest = skip q e (without key es) here ∙ rest ∙ sym (skip q e es here)

-- slots -------------------------------------------------------------------------------------------------

neither : (a b : Bool) → (a || b) ≡ false → (a ≡ false) × (b ≡ false)
neither true b none = absurd cc
neither false b none = (refl, none)

pub unused_take : (n slot : ℕ) (places : Allocations) → is_used places slot ≡ false → is_used (take n places) slot ≡ false
unused_take zero slot places none = refl
unused_take (suc n) slot [] none = refl
unused_take (suc n) slot (e ∷ es) none =
    let both = neither (nat_eq slot e.1.slot) (is_used es slot) none in
    (λ i. both.0 i || unused_take n slot es both.1 i)

unused_drop : (n slot : ℕ) (places : Allocations) → is_used places slot ≡ false → is_used (drop n places) slot ≡ false
unused_drop zero slot places none = none
unused_drop (suc n) slot [] none = refl
unused_drop (suc n) slot (e ∷ es) none = unused_drop n slot es (neither (nat_eq slot e.1.slot) (is_used es slot) none).1

pub slots_take : (last n : ℕ) (places : Allocations) → AreSlots last places → AreSlots last (take n places)
slots_take last zero places slots = tt
slots_take last (suc n) [] slots = tt
slots_take last (suc n) (e ∷ es) (from, within, apart, rest) = (from, within, unused_take n e.1.slot es apart, slots_take last n es rest)

either : (a b : Bool) → b ≡ true → (a || b) ≡ true
either true b holds = refl
either false b holds = holds

-- a key's slot is in use
pub used_at : (q : ℕ) (held : Allocation) (places : Allocations) → lookup (nat_eq q) places ≡ Some held → is_used places held.slot ≡ true
used_at q held [] there = absurd cc
used_at q held (e ∷ es) there = by (nat_eq q e.0) refl (used_at q held es)
  where
    by : (b : Bool) → nat_eq q e.0 ≡ b → (lookup (nat_eq q) es ≡ Some held → is_used es held.slot ≡ true) → is_used (e ∷ es) held.slot ≡ true
    by true same rest =
        let some : Some e.1 ≡ Some held = sym (meet q e es same) ∙ there in
        let is : e.1 ≡ held = cc in
        let itself : nat_eq held.slot held.slot ≡ true = grind (arith, nat_tests) in
        ap (λ (h : Allocation). nat_eq held.slot h.slot || is_used es held.slot) is ∙ ap (λ b. b || is_used es held.slot) itself
    by false differ rest = either (nat_eq held.slot e.1.slot) (is_used es held.slot) (rest (sym (skip q e es differ) ∙ there))

-- the slot of one of the first isn't that of one behind them
pub first_apart : (last n q : ℕ) (held : Allocation) (places : Allocations) → AreSlots last places → lookup (nat_eq q) (take n places) ≡ Some held
    → is_used (drop n places) held.slot ≡ false
first_apart last zero q held places slots there = absurd cc
first_apart last (suc n) q held [] slots there = absurd cc
first_apart last (suc n) q held (e ∷ es) (from, within, apart, rest) there = by (nat_eq q e.0) refl (first_apart last n q held es rest)
  where
    by : (b : Bool) → nat_eq q e.0 ≡ b → (lookup (nat_eq q) (take n es) ≡ Some held → is_used (drop n es) held.slot ≡ false) → is_used (drop n es) held.slot ≡ false
    by true same others =
        let some : Some e.1 ≡ Some held = sym (meet q e (take n es) same) ∙ there in
        let is : e.1 ≡ held = cc in
        unused_drop n held.slot es (ap (λ (h : Allocation). is_used es h.slot) (sym is) ∙ apart)
    by false differ others = others (sym (skip q e (take n es) differ) ∙ there)

-- a key that isn't among the first has its slot behind them
pub behind_used : (n q : ℕ) (held : Allocation) (places : Allocations) → lookup (nat_eq q) places ≡ Some held → lookup (nat_eq q) (take n places) ≡ None
    → is_used (drop n places) held.slot ≡ true
behind_used zero q held places there out = used_at q held places there
behind_used (suc n) q held [] there out = absurd cc
behind_used (suc n) q held (e ∷ es) there out = by (nat_eq q e.0) refl (behind_used n q held es)
  where
    by : (b : Bool) → nat_eq q e.0 ≡ b → (lookup (nat_eq q) es ≡ Some held → lookup (nat_eq q) (take n es) ≡ None → is_used (drop n es) held.slot ≡ true)
        → is_used (drop n es) held.slot ≡ true
    by true same rest = let no : Some e.1 ≡ None = sym (meet q e (take n es) same) ∙ out in absurd cc
    by false differ rest = rest (sym (skip q e es differ) ∙ there) (sym (skip q e (take n es) differ) ∙ out)

-- and one that is has its place there
pub first_same : (n q : ℕ) (held : Allocation) (places : Allocations) → lookup (nat_eq q) (take n places) ≡ Some held → lookup (nat_eq q) places ≡ Some held
first_same zero q held places there = absurd cc
first_same (suc n) q held [] there = absurd cc
first_same (suc n) q held (e ∷ es) there = by (nat_eq q e.0) refl (first_same n q held es)
  where
    by : (b : Bool) → nat_eq q e.0 ≡ b → (lookup (nat_eq q) (take n es) ≡ Some held → lookup (nat_eq q) es ≡ Some held) → lookup (nat_eq q) (e ∷ es) ≡ Some held
    by true same rest = meet q e es same ∙ sym (meet q e (take n es) same) ∙ there
    by false differ rest = skip q e es differ ∙ rest (sym (skip q e (take n es) differ) ∙ there)

-- a slot is among those that are told of some places where one of them has it
pub back_used : (slot : ℕ) (places : Allocations) → list_any (nat_eq slot) (slots_back places) ≡ is_used places slot
back_used slot [] = refl
back_used slot (e ∷ es) =
    ap (list_any (nat_eq slot)) (reverse-append (e.1.slot ∷ []) (map (λ held. held.1.slot) es))
    ∙ list_any-append (nat_eq slot) (slots_back es) (e.1.slot ∷ [])
    ∙ ap (λ b. b || (nat_eq slot e.1.slot || false)) (back_used slot es)
    ∙ turn (is_used es slot) (nat_eq slot e.1.slot)
  where
    turn : (a b : Bool) → (a || (b || false)) ≡ (b || a)
    turn true true = refl
    turn true false = refl
    turn false true = refl
    turn false false = refl
