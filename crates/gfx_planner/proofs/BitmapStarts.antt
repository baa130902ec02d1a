-- A server's end that begins with bitmaps: its choice of slots and its cache are tied, and what a script's checks hold of it.
use Rattle.std.proofs.Common.{◌≡◌, ◌∙◌, ap, sym, refl, subst, cond, Bool, true, false, ℕ, ◌+◌, List, [], ◌∷◌, ◌++◌, ◌≤◌, length, map, not, take, drop, Option, Some, None, Result, Ok, Err, suc, arith}
use Rattle.std.specs.Prelude.{slice_get}
use Rattle.std.specs.Cmp.{nat_cmp_total}
use Rattle.std.specs.Ordering.{nat_cmp, eq_by_cmp}
use Rattle.std.specs.FinMap.{FinMap, empty, get, insert, get-empty, get-insert}
use Rattle.std.specs.List.{AllByRecursion, sum_by}
use Rattle.std.specs.Option.{option_map}
use Rattle.std.proofs.lemmas.List.{length-map, take-append-drop, take_all}
use Rattle.std.proofs.lemmas.List.Sums.{sum_by-cons}
use Rattle.std.proofs.lemmas.Option.{slice_get-map}
use Rattle.gfx_base.specs.declared.refusal.Refusal.{Refusal}
use Rattle.gfx_bitmap_cache.specs.declared.limits.TheConstants.{MOST_SLOTS}
use Rattle.gfx_bitmap_cache.specs.Slots.{Entry, Cached, cached, bytes_of, takes_slot}
use Rattle.gfx_clear.proofs.Keeping.{rings_fresh}
use Rattle.gfx_import.specs.Imported.{imported}
use Rattle.gfx_import.specs.Started.{in_slots, put_from}
use Rattle.gfx_import.proofs.StartedLemmas.{get-in_slots, total-in_slots}
use Rattle.gfx_import.proofs.TakingLemmas.{front-at, rest-at}
use Rattle.gfx_prog_live.specs.Live.{Passes}
use Rattle.gfx_script.specs.declared.held.Sides.{Sides}
use Rattle.gfx_script.specs.Script.{IsAcceptedAtStart, held_at_start}
use Rattle.gfx_script.specs.Scripted.{Script}
use Rattle.gfx_script.specs.Starting.{IsStart, key_bytes, sides_from, start_of, starts_of, stock_with}
use Rattle.gfx_script.proofs.Starts.{keeps_start}
use Rattle.gfx_slot_plan.specs.declared.allocation.Allocation.{Allocation}
use Rattle.gfx_slot_plan.specs.declared.kept.Kept.{Kept}
use Rattle.gfx_slot_plan.specs.Plan.{Allocations, Plan, keeps, place, plan, total}
use Rattle.gfx_slot_plan.specs.Started.{placed_from, plan_with}
use Rattle.gfx_state.specs.State.{State, started_with}
use Rattle.gfx_planner.specs.Bitmaps.{sides_in}
use Rattle.gfx_planner.specs.Slots.{InSlot, PlanFitsCache, SidesIn, SidesFitSlots}
use Rattle.gfx_planner.specs.Wanted.{bitmaps_wanted}
use Rattle.gfx_planner.specs.Server.{at_start, server_with}
use Rattle.gfx_planner.specs.Agree.{Agree}
use Rattle.gfx_planner.specs.Holds.{HoldsBitmaps, Holds}
use Rattle.gfx_planner.specs.Planned.{Planned, ready}
use Rattle.gfx_planner.proofs.Calls.{planned}
use Rattle.gfx_planner.proofs.Held.{holds-nothing}
use Rattle.gfx_planner.proofs.TilesFollow.{tiles-at-start}

-- ---- the places of the keys

-- what holds of each in front and of each entry in its slot holds of each place
placed-each : (says : ℕ × Allocation → Type 0) (places : Allocations) (at : ℕ) (entries : List Entry) → AllByRecursion says places
    → ((i : ℕ) (one : Entry) → slice_get entries i ≡ Some one → says (one.key, place (at + i) (bytes_of one)))
    → AllByRecursion says (placed_from places at (map key_bytes (starts_of entries)))
placed-each says places at [] each all = each
placed-each says places at (one ∷ entries) each all =
    let here : at + 0 ≡ at = omega arith in
    placed-each says ((one.key, place at (bytes_of one)) ∷ places) (at + 1) entries (subst (λ n. says (one.key, place n (bytes_of one))) here (all 0 one refl), each)
    (λ i other e. let there : at + suc i ≡ at + 1 + i = omega arith in subst (λ n. says (other.key, place n (bytes_of other))) there (all (suc i) other e))

total-placed : (places : Allocations) (at : ℕ) (entries : List Entry) → total (placed_from places at (map key_bytes (starts_of entries))) ≡ total places + sum_by bytes_of entries
total-placed places at [] = omega arith
total-placed places at (one ∷ entries) =
    let rest = total-placed ((one.key, place at (bytes_of one)) ∷ places) (at + 1) entries in
    let first : total ((one.key, place at (bytes_of one)) ∷ places) ≡ bytes_of one + total places =
    sum_by-cons (λ (held : ℕ × Allocation). held.1.bytes) (one.key, place at (bytes_of one)) places in
    omega (arith, rest, first, sum_by-cons bytes_of one entries)

in_their_slots : (entries : List Entry) (i : ℕ) (one : Entry) → slice_get entries i ≡ Some one → InSlot (get (in_slots entries) (1 + i)) (one.key, place (1 + i) (bytes_of one))
in_their_slots entries i one e =
    let next : 1 + i ≡ i + 1 = omega arith in
    (one, ap (get (in_slots entries)) next ∙ get-in_slots entries i ∙ e, refl, refl)

pub fits_cache-with : (entries : List Entry) (small : Bool) → IsStart (starts_of entries) small → PlanFitsCache (stock_with (starts_of entries) small).plan (cached (in_slots entries) small)
fits_cache-with entries small is = record {
  sound = is;
  each = placed-each (λ held. InSlot (get (in_slots entries) held.1.slot) held) [] 1 entries tt (in_their_slots entries);
  bytes = omega (arith, total-in_slots entries, total-placed [] 1 entries);
}

-- ---- the sides beside them

same_sides : (sides : FinMap nat_cmp Sides) (slots : FinMap nat_cmp Entry) (at q : ℕ) (one : Entry) → get sides q ≡ option_map sides_in (get slots q)
    → get (insert sides at (sides_in one)) q ≡ option_map sides_in (get (insert slots at one) q)
same_sides sides slots at q one same =
    get-insert nat_cmp_total sides at (sides_in one) q ∙ ap (cond (eq_by_cmp nat_cmp q at) (Some (sides_in one))) same
    ∙ by (eq_by_cmp nat_cmp q at) (get slots q) ∙ sym (ap (option_map sides_in) (get-insert nat_cmp_total slots at one q))
  where
    by : (b : Bool) (o : Option Entry) → cond b (Some (sides_in one)) (option_map sides_in o) ≡ option_map sides_in (cond b (Some one) o)
    by true o = refl
    by false o = refl

sides-from : (sides : FinMap nat_cmp Sides) (slots : FinMap nat_cmp Entry) (at : ℕ) (entries : List Entry) → ((q : ℕ) → get sides q ≡ option_map sides_in (get slots q))
    → (q : ℕ) → get (sides_from sides at (starts_of entries)) q ≡ option_map sides_in (get (put_from slots at entries) q)
sides-from sides slots at [] same q = same q
sides-from sides slots at (one ∷ entries) same q =
    sides-from (insert sides at (sides_in one)) (insert slots at one) (at + 1) entries (λ n. same_sides sides slots at n one (same n)) q

sides_of-slot : (entries : List Entry) (q : ℕ) → get (sides_from empty 1 (starts_of entries)) q ≡ option_map sides_in (get (in_slots entries) q)
sides_of-slot entries q = sides-from empty empty 1 entries (λ n. get-empty nat_cmp n ∙ sym (ap (option_map sides_in) (get-empty nat_cmp n))) q

all_places : (says : ℕ × Allocation → Type 0) (places : Allocations) → ((held : ℕ × Allocation) → says held) → AllByRecursion says places
all_places says [] all = tt
all_places says (held ∷ places) all = (all held, all_places says places all)

pub sides_fit-with : (entries : List Entry) (small : Bool) (places : Allocations) → SidesFitSlots places (stock_with (starts_of entries) small).sides (in_slots entries)
sides_fit-with entries small places =
    all_places (λ held. SidesIn (stock_with (starts_of entries) small).sides (get (in_slots entries) held.1.slot) held) places (λ held. sides_of-slot entries held.1.slot)

-- ---- the start of a script with bitmaps

holds_bitmaps-with : (entries : List Entry) (small : Bool) → IsStart (starts_of entries) small
    → HoldsBitmaps (stock_with (starts_of entries) small) (stock_with (starts_of entries) small).plan (cached (in_slots entries) small)
holds_bitmaps-with entries small is = record {
  same = refl;
  limits = refl;
  fits_cache = fits_cache-with entries small is;
  sides_fit = sides_fit-with entries small (stock_with (starts_of entries) small).plan.places;
}

-- what its checks hold of a server's end with these bitmaps
pub holds_at_start : (script : Script) (entries : List Entry) → IsAcceptedAtStart script → script.start ≡ starts_of entries → Holds script (held_at_start script) (server_with entries script.small)
holds_at_start script entries good same =
    let is : IsStart (starts_of entries) script.small = subst (λ start. IsStart start script.small) same good.start in
    record {
      drawn = good.accepted.pictures;
      same = refl;
      surfaces = holds-nothing;
      bitmaps = subst (λ start. HoldsBitmaps (stock_with start script.small) (stock_with (starts_of entries) script.small).plan (cached (in_slots entries) script.small)) (sym same)
          (holds_bitmaps-with entries script.small is);
      setting = good.accepted.setting;
      tiles = tiles-at-start script.setting;
      number = omega arith;
      rings = rings_fresh;
    }

-- and it shows what is wanted before the first step
pub agrees_at_start : (entries : List Entry) (small : Bool) → Agree (server_with entries small) (bitmaps_wanted (server_with entries small).plan (in_slots entries))
agrees_at_start entries small = record { shown = refl; slots = refl; plan = refl; passes = refl }

-- no frame is open, and none was opened
pub between_at_start : (entries : List Entry) (small : Bool) → ((server_with entries small).state.frame ≡ None) × ((server_with entries small).frames ≡ 0)
between_at_start entries small = (refl, refl)

-- ---- the keys, kept one after another

-- so many of the first are kept
abbrev pub plan_to : ℕ → List Entry → Bool → Plan
plan_to count entries small = plan_with (map key_bytes (take count (starts_of entries))) small

pub keeps-next : (entries : List Entry) (small : Bool) (slots : Plan) (at : ℕ) (one : Entry) → IsStart (starts_of entries) small → slots ≡ plan_to at entries small → slice_get entries at ≡ Some one
    → (choice : Kept) × (keeps slots one.key one.image.width one.image.height ≡ Ok (plan_to (at + 1) entries small, choice))
keeps-next entries small slots at one is so e =
    let start = starts_of entries in
    let here : slice_get start at ≡ Some (start_of one) = slice_get-map start_of entries at ∙ ap (option_map start_of) e in
    let parted : start ≡ take at start ++ start_of one ∷ drop (at + 1) start = sym (take-append-drop at start) ∙ ap (λ l. take at start ++ l) (rest-at start at (start_of one) here) in
    let chosen : Kept = record { dropped = []; slot = length (take at start) + 1 } in (
      chosen,
      ap (λ p. keeps p one.key one.image.width one.image.height) so
          ∙ keeps_start small (take at start) (start_of one) (drop (at + 1) start) (subst (λ l. IsStart l small) parted is)
          ∙ ap (λ l. Ok (plan_with (map key_bytes l) small, chosen)) (sym (front-at start at (start_of one) here)),
    )

-- what the call chose is what is due, so the next are kept too
pub kept-next : (entries : List Entry) (small : Bool) (slots after : Plan) (at : ℕ) (one : Entry) → IsStart (starts_of entries) small → slots ≡ plan_to at entries small → slice_get entries at ≡ Some one
    → ((choice : Kept) × (keeps slots one.key one.image.width one.image.height ≡ Ok (after, choice))) → after ≡ plan_to (at + 1) entries small
kept-next entries small slots after at one is so e chosen =
    let due = keeps-next entries small slots at one is so e in
    same_plan after (plan_to (at + 1) entries small) chosen.0 due.0 (sym chosen.1 ∙ due.1)
  where
    plan_in : Plan → Result (Plan × Kept) Refusal → Plan
    plan_in other (Ok found) = found.0
    plan_in other (Err r) = other

    same_plan : (a b : Plan) (x y : Kept) → ◌≡◌ {A = Result (Plan × Kept) Refusal} (Ok (a, x)) (Ok (b, y)) → a ≡ b
    same_plan a b x y e = ap (plan_in a) e

-- and at the end all are
pub kept-all : (entries : List Entry) (small : Bool) (slots : Plan) (at : ℕ) → slots ≡ plan_to at entries small → length entries ≤ at → slots ≡ (stock_with (starts_of entries) small).plan
kept-all entries small slots at so past =
    let long : length (starts_of entries) ≤ at = omega (arith, length-map entries start_of) in
    so ∙ ap (λ l. plan_with (map key_bytes l) small) (take_all at (starts_of entries) long)

-- ---- the planner's call

-- under the large limits alone a store takes the last slot of all
pub small-by : (small : Bool) → not (takes_slot small MOST_SLOTS) ≡ small
small-by true = refl
small-by false = refl

module _ (old : Planned) (state : State) (slots : Plan) (passes : Passes) (frames : ℕ) (spent flag : Bool) (view : planned state slots passes frames spent ≡ old) (nothing : old ≡ ready (at_start old.server.plan.small)) (flagged : flag ≡ old.server.state.cache.small) where
  limits : flag ≡ old.server.plan.small
  limits = flagged ∙ ap (λ (p : Planned). p.server.state.cache.small) nothing

  -- no key was kept
  pub begins-empty : slots ≡ plan [] flag
  begins-empty = ap (λ (p : Planned). p.server.plan) (view ∙ nothing) ∙ ap (plan []) (sym limits)

  -- the cache and the choice of slots are those of what is imported
  pub begins-with : (server client : List Entry) (cache : Cached) (new : State) (after : Plan) → cache ≡ cached (in_slots (imported server client flag)) flag → new ≡ record state { cache = cache }
      → after ≡ (stock_with (starts_of (imported server client flag)) flag).plan
      → planned new after passes frames false ≡ ready (server_with (imported server client old.server.plan.small) old.server.plan.small)
  begins-with server client cache new after filled put kept =
      let all = view ∙ nothing in
      let entries = imported server client flag in
      let begun : new ≡ started_with (in_slots entries) flag =
      put ∙ ap (λ c. record state { cache = c }) filled ∙ ap (λ (p : Planned). record p.server.state { cache = cached (in_slots entries) flag }) all in
      let no_live = ap (λ (p : Planned). p.server.passes) all in
      let none = ap (λ (p : Planned). p.server.frames) all in
      (λ i. planned (begun i) (kept i) (no_live i) (none i) false)
      ∙ ap (λ small. ready (server_with (imported server client small) small)) limits
