-- The bitmap of a key stays as it was kept.
use Rattle.std.proofs.Common.{◌≡◌, ◌∙◌, ◌+◌, ℕ, Bool, true, false, cond, nat_eq, List, [], ◌∷◌, ◌++◌, fold, Option, Some, None, option_map, length, Result, Ok, Err, refl, sym, ap, subst, eq-eqb, eqb-true, ne_eqb}
use Rattle.std.specs.Cmp.{nat_cmp_total}
use Rattle.std.specs.FinMap.{FinMap, get, get-remove, insert, remove}
use Rattle.std.specs.List.{AllByRecursion, slice_get}
use Rattle.std.specs.Map.{lookup}
use Rattle.std.specs.Option.{ok_or, option_map_or}
use Rattle.std.specs.Ordering.{eq_by_cmp, nat_cmp}
use Rattle.std.proofs.lemmas.List.Sums.{fold-append}
use Rattle.gfx_base.specs.declared.geometry.Point.{Point}
use Rattle.gfx_base.specs.declared.geometry.Rect.{Rect}
use Rattle.gfx_base.specs.declared.pixel.Pixel.{Pixel}
use Rattle.gfx_base.specs.declared.refusal.Refusal.{Refusal}
use Rattle.gfx_base.specs.declared.refusal.Refusal.TheVariants.{CacheBudget}
use Rattle.gfx_base.specs.Geometry.{height_of, lies_in, width_of}
use Rattle.gfx_base.specs.Results.{check}
use Rattle.gfx_base.proofs.ResultLemmas.{and_then_ok}
use Rattle.gfx_bitmap_cache.specs.Slots.{Entry, budget, bytes_for, entry, last_slot}
use Rattle.gfx_script.specs.Checks.{Held, held_after, rect_kept}
use Rattle.gfx_script.specs.declared.error.ScriptKind.TheVariants as fault
use Rattle.gfx_script.specs.declared.picture.Picture.{Picture as Source}
use Rattle.gfx_script.specs.declared.step.Kind.{Kind}
use Rattle.gfx_script.specs.declared.step.Step.{Step}
use Rattle.gfx_script.specs.declared.step.Step.TheVariants.{Surface, Delete, Reset, Map, Fill, Copy, Keep, Show, Forget, Paint, Improve, Frame}
use Rattle.gfx_script.specs.declared.way.Way.{Way}
use Rattle.gfx_script.specs.declared.way.Way.TheVariants.{Uncompressed, ByLayer, InPasses, Video}
use Rattle.gfx_script.specs.Kinds.{KindedStep, as_kind}
use Rattle.gfx_script.specs.Scripted.{Script}
use Rattle.gfx_script.specs.Stock.{Stock, bitmap_kept, or_too_large}
use Rattle.gfx_script.specs.Ways.{goes_by}
use Rattle.gfx_slot_plan.proofs.Order.{found_entry}
use Rattle.gfx_slot_plan.proofs.UseOrder.{first_same, lookup_without, meet, skip}
use Rattle.gfx_slot_plan.specs.declared.allocation.Allocation.{Allocation}
use Rattle.gfx_slot_plan.specs.declared.kept.Kept.{Kept}
use Rattle.gfx_slot_plan.specs.Plan.{Allocations, Plan, chosen, keeps, left_for, place, slot_of, staying, touched, without}
use Rattle.gfx_state.specs.Step.{image_in}
use Rattle.gfx_surface.proofs.PictureLemmas.{pixel_at-drawn}
use Rattle.gfx_surface.specs.Picture.{Picture, no_pixel, pixel_at}
use Rattle.gfx_surface_map.specs.Surfaces.{Surfaces}
use Rattle.gfx_planner.specs.Bitmaps.{bitmap_in, emptied, without_slot}
use Rattle.gfx_planner.specs.Pixels.{opaque_in, pixels_in}
use Rattle.gfx_planner.specs.Wanted.{Wanted}
use Rattle.gfx_planner.specs.Holds.{HoldsSurfaces}
use Rattle.gfx_planner.specs.BitmapEffects.{with_bitmap, with_stamps}
use Rattle.gfx_planner.specs.PaintEffects.{with_painting, with_pixels, with_video}
use Rattle.gfx_planner.specs.SurfaceEffects.{with_copy}
use Rattle.gfx_planner.specs.TileEffects.{with_improved, with_tiles}
use Rattle.gfx_planner.specs.Want.{want_from, wanted_after, wanted_as}
use Rattle.gfx_planner.proofs.BitmapSteps.{MayShow, may_show}
use Rattle.gfx_planner.proofs.Seen.{seen}
use Rattle.gfx_planner.proofs.SlotLists.{get-insert_apart, get-insert_here}
use Rattle.gfx_planner.proofs.Slots.{At, Showing, at_slot, fits_cache-shows}
use Rattle.gfx_planner.proofs.SurfaceSteps.{found_there}
use Rattle.gfx_laws.specs.Keeps.{BitmapsAreAsKept, IsTakenFrom, LeavesKey, StartingBitmapsStay}
use Rattle.gfx_laws.specs.Written.{bitmap_of}
use Rattle.gfx_laws.proofs.Fronts.{Along, Here, along, first_part, here, next}
use Rattle.gfx_laws.proofs.Placing.{wanted-there}

-- ---- slots

left-slot : (slots : FinMap nat_cmp Entry) (gone slot : ℕ) (kept : Entry) → get (remove slots gone) slot ≡ Some kept → get slots slot ≡ Some kept
left-slot slots gone slot kept found = by (eq_by_cmp nat_cmp slot gone) (sym (get-remove nat_cmp_total slots gone slot) ∙ found)
  where
    by : (b : Bool) → cond b None (get slots slot) ≡ Some kept → get slots slot ≡ Some kept
    by true e = absurd cc
    by false e = e

left-slots : (gone : List ℕ) (slots : FinMap nat_cmp Entry) (slot : ℕ) (kept : Entry) → get (emptied slots gone) slot ≡ Some kept → get slots slot ≡ Some kept
left-slots [] slots slot kept found = found
left-slots (one ∷ gone) slots slot kept found = left-slot slots one slot kept (left-slots gone (remove slots one) slot kept found)

-- ---- the bitmap of a key

-- by its place
module _ (slots : FinMap nat_cmp Entry) (key : ℕ) (kept : Entry) where
  abbrev In : Allocations → Type 0
  In places = bitmap_in slots (slot_of key places) ≡ Some kept

  -- it has one
  found-place : (places : Allocations) → In places → (held : Allocation) × ((lookup (nat_eq key) places ≡ Some held) × (get slots held.slot ≡ Some kept))
  found-place places found = by (lookup (nat_eq key) places) refl found
    where
      by : (o : Option Allocation) → lookup (nat_eq key) places ≡ o → bitmap_in slots (option_map (λ (h : Allocation). h.slot) o) ≡ Some kept
          → (held : Allocation) × ((lookup (nat_eq key) places ≡ Some held) × (get slots held.slot ≡ Some kept))
      by None none e = absurd cc
      by (Some held) some e = (held, (some, e))

  from-place : (places : Allocations) (held : Allocation) → lookup (nat_eq key) places ≡ Some held → get slots held.slot ≡ Some kept → In places
  from-place places held there found = ap (λ o. bitmap_in slots (option_map (λ (h : Allocation). h.slot) o)) there ∙ found

-- it has the key
keyed : (script : Script) (wanted : Wanted) (rest : List KindedStep) (key : ℕ) (kept : Entry) → Along script wanted rest → bitmap_of wanted key ≡ Some kept → kept.key ≡ key
keyed script wanted rest key kept a found =
    let at = found-place wanted.slots key kept wanted.plan.places found in
    let slot : slot_of key a.server.plan.places ≡ Some at.0.slot = ap (λ (p : Plan). slot_of key p.places) a.stands.agrees.plan ∙ ap (option_map (λ (h : Allocation). h.slot)) at.1.0 in
    let shows : Showing a.server.state.cache key at.0.slot = fits_cache-shows a.server.plan a.server.state.cache key at.0.slot a.stands.holds.bitmaps.fits_cache slot in
    let both : Some shows.entry ≡ Some kept = sym shows.there ∙ ap (λ z. get z at.0.slot) a.stands.agrees.slots ∙ at.1.1 in
    let same : shows.entry ≡ kept = cc in
    ap (λ (e : Entry). e.key) (sym same) ∙ shows.keyed

-- ---- steps that change no bitmap

same-copy : (wanted : Wanted) (o : Option Picture) (to : ℕ) (rect : Rect) (points : List Point) (key : ℕ) → bitmap_of (with_copy wanted o to rect points) key ≡ bitmap_of wanted key
unfolding with_copy
same-copy wanted None to rect points key = refl
same-copy wanted (Some source) to rect points key = refl

same-stamps : (wanted : Wanted) (o : Option Entry) (to : ℕ) (points : List Point) → ((with_stamps wanted o to points).slots ≡ wanted.slots) × ((with_stamps wanted o to points).plan ≡ wanted.plan)
unfolding with_stamps
same-stamps wanted None to points = (refl, refl)
same-stamps wanted (Some e) to points = (refl, refl)

same-pixels : (wanted : Wanted) (o : Option Source) (pixels : Source → List Pixel) (id : ℕ) (at : Point) (key : ℕ) → bitmap_of (with_pixels wanted o pixels id at) key ≡ bitmap_of wanted key
unfolding with_pixels
same-pixels wanted None pixels id at key = refl
same-pixels wanted (Some source) pixels id at key = refl

same-paint : (script : Script) (wanted : Wanted) (way : Option Way) (o : Option Source) (id : ℕ) (at : Point) (key : ℕ) → bitmap_of (with_painting script wanted way o id at) key ≡ bitmap_of wanted key
unfolding with_painting with_tiles with_video
same-paint script wanted None o id at key = refl
same-paint script wanted (Some Uncompressed) o id at key = same-pixels wanted o pixels_in id at key
same-paint script wanted (Some (ByLayer layer)) o id at key = same-pixels wanted o opaque_in id at key
same-paint script wanted (Some InPasses) None id at key = refl
same-paint script wanted (Some InPasses) (Some source) id at key = refl
same-paint script wanted (Some Video) None id at key = refl
same-paint script wanted (Some Video) (Some source) id at key = refl

same-improved : (wanted : Wanted) (o : Option Picture) (id key : ℕ) → bitmap_of (with_improved wanted o id) key ≡ bitmap_of wanted key
unfolding with_improved
same-improved wanted None id key = refl
same-improved wanted (Some surface) id key = refl

-- ---- another key is kept, shown or forgotten

-- a key that is touched comes first, and each has its place
touched-place : (p : Plan) (other key : ℕ) (held : Allocation) → lookup (nat_eq other) p.places ≡ Some held → slot_of key (touched p other).places ≡ slot_of key p.places
touched-place p other key held there =
    ap (λ o. slot_of key (option_map_or (λ h. h ∷ without other p.places) o p.places)) (found_entry other held p.places there) ∙ by (nat_eq key other) refl
  where
    by : (b : Bool) → nat_eq key other ≡ b → slot_of key ((other, held) ∷ without other p.places) ≡ slot_of key p.places
    by true same =
        let at : key ≡ other = eqb-true key other same in
        ap (option_map (λ (h : Allocation). h.slot)) (meet key (other, held) (without other p.places) same ∙ sym there ∙ ap (λ k. lookup (nat_eq k) p.places) (sym at))
    by false apart = ap (option_map (λ (h : Allocation). h.slot)) (skip key (other, held) (without other p.places) apart ∙ lookup_without other key p.places apart)

-- what is kept for another key leaves the bitmap of a key, or takes its place
kept-place : (old : Plan) (slots : FinMap nat_cmp Entry) (other key bytes : ℕ) (new kept : Entry) → nat_eq key other ≡ false → (kept.key ≡ key) → new.key ≡ other
    → bitmap_in (insert (emptied slots (chosen old other bytes).1.dropped) (chosen old other bytes).1.slot new) (slot_of key (chosen old other bytes).0.places) ≡ Some kept
    → bitmap_in slots (slot_of key old.places) ≡ Some kept
kept-place old slots other key bytes new kept apart keyed-so new-so found = by (nat_eq slot at.0.slot) refl
  where
    left : Allocations
    left = left_for (last_slot old.small) (budget old.small) bytes (without other old.places)

    slot : ℕ
    slot = (chosen old other bytes).1.slot

    dropped : List ℕ
    dropped = (chosen old other bytes).1.dropped

    at : (held : Allocation) × ((lookup (nat_eq key) (chosen old other bytes).0.places ≡ Some held) × (get (insert (emptied slots dropped) slot new) held.slot ≡ Some kept))
    at = found-place (insert (emptied slots dropped) slot new) key kept (chosen old other bytes).0.places found

    was : lookup (nat_eq key) old.places ≡ Some at.0
    was =
        sym (lookup_without other key old.places apart)
        ∙ first_same (staying (last_slot old.small) (budget old.small) bytes (without other old.places) (length (without other old.places))) key at.0 (without other old.places)
        (sym (skip key (other, place slot bytes) left apart) ∙ at.1.0)

    by : (b : Bool) → nat_eq slot at.0.slot ≡ b → bitmap_in slots (slot_of key old.places) ≡ Some kept
    by false differ =
        from-place slots key kept old.places at.0 was (left-slots dropped slots at.0.slot kept (sym (get-insert_apart (emptied slots dropped) slot new at.0.slot differ) ∙ at.1.1))
    by true same =
        let here : slot ≡ at.0.slot = eqb-true slot at.0.slot same in
        let both : Some new ≡ Some kept = sym (get-insert_here (emptied slots dropped) slot new) ∙ ap (get (insert (emptied slots dropped) slot new)) here ∙ at.1.1 in
        let equal : new ≡ kept = cc in
        let keys : key ≡ other = sym keyed-so ∙ ap (λ (e : Entry). e.key) (sym equal) ∙ new-so in
        absurd (let f : true ≡ false = sym (eq-eqb key other keys) ∙ apart in cc)

chosen-is : (old : Plan) (key width height : ℕ) (found : Plan × Kept) → keeps old key width height ≡ Ok found → chosen old key (bytes_for width height) ≡ found
unfolding keeps
chosen-is old key width height found is = let second = and_then_ok (check CacheBudget _) _ found is in (let end = second.2 in cc)

keep-before : (wanted : Wanted) (o : Option Picture) (found : Result (Plan × Kept) Refusal) (other key width height : ℕ) (rect : Rect) (kept : Entry) → found ≡ keeps wanted.plan other width height → nat_eq key other ≡ false → kept.key ≡ key
    → bitmap_of (with_bitmap wanted o found other rect) key ≡ Some kept → bitmap_of wanted key ≡ Some kept
unfolding with_bitmap
keep-before wanted None found other key width height rect kept is apart keyed-so there = there
keep-before wanted (Some picture) (Err r) other key width height rect kept is apart keyed-so there = there
keep-before wanted (Some picture) (Ok found) other key width height rect kept is apart keyed-so there =
    let same : found ≡ chosen wanted.plan other (bytes_for width height) = sym (chosen-is wanted.plan other width height found (sym is)) in
    kept-place wanted.plan wanted.slots other key (bytes_for width height) (entry other (image_in picture rect)) kept apart keyed-so refl
    (subst (λ (f : Plan × Kept). bitmap_in (insert (emptied wanted.slots f.1.dropped) f.1.slot (entry other (image_in picture rect))) (slot_of key f.0.places) ≡ Some kept) same there)

forget-before : (slots : FinMap nat_cmp Entry) (places : Allocations) (other key : ℕ) (o : Option ℕ) (kept : Entry) → nat_eq key other ≡ false → bitmap_in (without_slot slots o) (slot_of key (without other places)) ≡ Some kept
    → bitmap_in slots (slot_of key places) ≡ Some kept
forget-before slots places other key o kept apart found =
    let at = found-place (without_slot slots o) key kept (without other places) found in
    from-place slots key kept places at.0 (sym (lookup_without other key places apart) ∙ at.1.0) (by at.0.slot o at.1.1)
  where
    by : (slot : ℕ) (o : Option ℕ) → get (without_slot slots o) slot ≡ Some kept → get slots slot ≡ Some kept
    by slot None e = e
    by slot (Some gone) e = left-slot slots gone slot kept e

-- ---- a step

step-before : (script : Script) (wanted : Wanted) (kind : Option Kind) (step : Step) (rest : List KindedStep) (key : ℕ) (kept : Entry) (h : Here script wanted (as_kind kind step)) → Along script (wanted_after script wanted (as_kind kind step)) rest
    → LeavesKey key step → bitmap_of (wanted_after script wanted (as_kind kind step)) key ≡ Some kept → bitmap_of wanted key ≡ Some kept
unfolding wanted_as held_after
step-before script wanted kind (Surface id width height format) rest key kept h a leaves there = there
step-before script wanted kind (Delete id) rest key kept h a leaves there = there
step-before script wanted kind (Reset width height) rest key kept h a leaves there = there
step-before script wanted kind (Map id x y) rest key kept h a leaves there = there
step-before script wanted kind (Fill id colour rects) rest key kept h a leaves there = there
step-before script wanted kind (Copy from to rect points) rest key kept h a leaves there = sym (same-copy wanted (get wanted.shown.surfaces from) to rect points key) ∙ there
step-before script wanted kind (Keep id other rect) rest key kept h a leaves there =
    keep-before wanted (get wanted.shown.surfaces id) (keeps wanted.plan other (width_of rect) (height_of rect)) other key (width_of rect) (height_of rect) rect kept refl (ne_eqb key other (λ e. leaves (sym e)))
    (keyed script (wanted_after script wanted (as_kind kind (Keep id other rect))) rest key kept a there) there
step-before script wanted kind (Show other to points) rest key kept h a leaves there =
    let may : MayShow h.server h.held h.after other to points = may_show script h.server h.held h.after other to points (seen script h.held h.server h.stands.holds) h.checked in
    let slot : slot_of other wanted.plan.places ≡ Some may.slot = ap (λ (p : Plan). slot_of other p.places) (sym h.stands.agrees.plan) ∙ may.is in
    let at : At other may.slot wanted.plan.places = at_slot other may.slot wanted.plan.places slot in
    ap (bitmap_in wanted.slots) (sym (touched-place wanted.plan other key at.held at.there))
    ∙ ap (λ z. bitmap_in z (slot_of key (touched wanted.plan other).places)) (sym (same-stamps wanted (bitmap_in wanted.slots (slot_of other wanted.plan.places)) to points).0) ∙ there
step-before script wanted kind (Forget other) rest key kept h a leaves there =
    forget-before wanted.slots wanted.plan.places other key (slot_of other wanted.plan.places) kept (ne_eqb key other (λ e. leaves (sym e))) there
step-before script wanted kind (Paint id number at named glyph) rest key kept h a leaves there =
    sym (same-paint script wanted (goes_by script.thin kind) (slice_get script.pictures number) id at key) ∙ there
step-before script wanted kind (Improve id) rest key kept h a leaves there = sym (same-improved wanted (get wanted.shown.surfaces id) id key) ∙ there
step-before script wanted kind Frame rest key kept h a leaves there = there

steps-before : (script : Script) (wanted : Wanted) (steps : List KindedStep) (key : ℕ) (kept : Entry) → Along script wanted steps → AllByRecursion (λ (one : KindedStep). LeavesKey key one.step) steps
    → bitmap_of (fold (wanted_after script) wanted steps) key ≡ Some kept → bitmap_of wanted key ≡ Some kept
steps-before script wanted [] key kept a leaves there = there
steps-before script wanted (one ∷ steps) key kept a leaves there =
    step-before script wanted one.kind one.step steps key kept (here script wanted one steps a) (next script wanted one steps a) leaves.0
    (steps-before script (wanted_after script wanted one) steps key kept (next script wanted one steps a) leaves.1 there)

-- ---- the key itself is kept

not-too-large : (found : Result (Plan × Kept) Refusal) (x : Plan × Kept) → or_too_large found ≡ Ok x → found ≡ Ok x
not-too-large (Ok y) x is = cc
not-too-large (Err r) x is = absurd cc

-- what a script's checks say of what it keeps
record MayKeep (plan : Plan) (surfaces : Surfaces) (id key : ℕ) (rect : Rect) : Type 0 where
  picture : Picture
  there : get surfaces id ≡ Some picture
  found : Plan × Kept
  is : keeps plan key (width_of rect) (height_of rect) ≡ Ok found

kept-found : (stock after : Stock) (key width height : ℕ) → bitmap_kept stock key width height ≡ Ok after → (found : Plan × Kept) × (keeps stock.plan key width height ≡ Ok found)
unfolding bitmap_kept
kept-found stock after key width height is =
    let first = and_then_ok (or_too_large (keeps stock.plan key width height)) _ after is in
    (first.0, not-too-large (keeps stock.plan key width height) first.0 first.1)

may-keep : (held after : Held) (surfaces : Surfaces) (id key : ℕ) (rect : Rect) → HoldsSurfaces held.sides held.cells surfaces → rect_kept held id key rect ≡ Ok after → MayKeep held.stock.plan surfaces id key rect
unfolding rect_kept
may-keep held after surfaces id key rect holds checked =
    let first = and_then_ok (ok_or (get held.sides id) fault.SurfaceAbsent) _ after checked in
    let surface = found_there held surfaces id first.0 holds first.1 in
    let second = and_then_ok (check fault.Outside (lies_in first.0.width first.0.height rect)) _ after first.2 in
    let third = and_then_ok (bitmap_kept held.stock key (width_of rect) (height_of rect)) _ after second.2 in
    let found = kept-found held.stock third.0 key (width_of rect) (height_of rect) third.1 in
    record { picture = surface.picture; there = surface.there; found = found.0; is = found.1 }

bitmap-there : (wanted : Wanted) (o : Option Picture) (picture : Picture) (result : Result (Plan × Kept) Refusal) (found : Plan × Kept) (key : ℕ) (rect : Rect) → o ≡ Some picture → result ≡ Ok found
    → with_bitmap wanted o result key rect ≡ record wanted { plan = found.0; slots = insert (emptied wanted.slots found.1.dropped) found.1.slot (entry key (image_in picture rect)) }
unfolding with_bitmap
bitmap-there wanted o picture result found key rect there is = rw (there, is) refl

-- the key comes first, and its slot has what was kept
first-bitmap : (old : Plan) (slots : FinMap nat_cmp Entry) (key bytes : ℕ) (new : Entry)
    → bitmap_in (insert (emptied slots (chosen old key bytes).1.dropped) (chosen old key bytes).1.slot new) (slot_of key (chosen old key bytes).0.places) ≡ Some new
first-bitmap old slots key bytes new =
    ap (λ o. bitmap_in (insert (emptied slots (chosen old key bytes).1.dropped) (chosen old key bytes).1.slot new) (option_map (λ (h : Allocation). h.slot) o))
    (meet key (key, place (chosen old key bytes).1.slot bytes) (left_for (last_slot old.small) (budget old.small) bytes (without key old.places)) (eq-eqb key key refl))
    ∙ get-insert_here (emptied slots (chosen old key bytes).1.dropped) (chosen old key bytes).1.slot new

taken : (picture : Picture) (rect : Rect) (key : ℕ) (o : Option Picture) (kept : Entry) → o ≡ Some picture → entry key (image_in picture rect) ≡ kept → IsTakenFrom o rect kept
taken picture rect key o kept there is = subst (IsTakenFrom o rect) is record {
  picture = picture;
  there = there;
  width = refl;
  height = refl;
  each = λ x y column row. pixel_at-drawn (width_of rect) (height_of rect) x y (λ a b. pixel_at picture (a + rect.left) (b + rect.top)) no_pixel column row;
}

keep-takes : (script : Script) (wanted : Wanted) (kind : Option Kind) (id key : ℕ) (rect : Rect) (kept : Entry) (h : Here script wanted (as_kind kind (Keep id key rect)))
    → bitmap_of (wanted_after script wanted (as_kind kind (Keep id key rect))) key ≡ Some kept → IsTakenFrom (get wanted.shown.surfaces id) rect kept
unfolding wanted_as held_after
keep-takes script wanted kind id key rect kept h found =
    let may : MayKeep h.held.stock.plan h.server.state.shown.surfaces id key rect = may-keep h.held h.after h.server.state.shown.surfaces id key rect h.stands.holds.surfaces h.checked in
    let plan-is : h.held.stock.plan ≡ wanted.plan = h.stands.holds.bitmaps.same ∙ h.stands.agrees.plan in
    let is : keeps wanted.plan key (width_of rect) (height_of rect) ≡ Ok may.found = ap (λ p. keeps p key (width_of rect) (height_of rect)) (sym plan-is) ∙ may.is in
    let there : get wanted.shown.surfaces id ≡ Some may.picture = wanted-there script wanted (Keep id key rect) kind h id may.picture may.there in
    let new : Entry = entry key (image_in may.picture rect) in
    let same : chosen wanted.plan key (bytes_for (width_of rect) (height_of rect)) ≡ may.found = chosen-is wanted.plan key (width_of rect) (height_of rect) may.found is in
    let first : bitmap_in (insert (emptied wanted.slots may.found.1.dropped) may.found.1.slot new) (slot_of key may.found.0.places) ≡ Some new =
    subst (λ (f : Plan × Kept). bitmap_in (insert (emptied wanted.slots f.1.dropped) f.1.slot new) (slot_of key f.0.places) ≡ Some new) same (first-bitmap wanted.plan wanted.slots key (bytes_for (width_of rect) (height_of rect)) new) in
    let both : Some new ≡ Some kept =
    sym first ∙ ap (λ (w : Wanted). bitmap_of w key) (sym (bitmap-there wanted (get wanted.shown.surfaces id) may.picture (keeps wanted.plan key (width_of rect) (height_of rect)) may.found key rect there is)) ∙ found in
    taken may.picture rect key (get wanted.shown.surfaces id) kept there (let equal : new ≡ kept = cc in equal)

-- the promises
pub starting-bitmaps : StartingBitmapsStay
starting-bitmaps start script steps rest key kept go leaves there =
    steps-before script start.wanted steps key kept (first_part script start.wanted steps rest (along start script [] (steps ++ rest) go)) leaves there

pub bitmaps-as-kept : BitmapsAreAsKept
bitmaps-as-kept start script front later rest kind id key rect kept go leaves there =
    let wanted : Wanted = want_from script start.wanted front in
    let one : KindedStep = as_kind kind (Keep id key rect) in
    let a : Along script wanted (one ∷ (later ++ rest)) = along start script front (one ∷ (later ++ rest)) go in
    let behind : Along script (wanted_after script wanted one) later = first_part script (wanted_after script wanted one) later rest (next script wanted one (later ++ rest) a) in
    let last : bitmap_of (fold (wanted_after script) (wanted_after script wanted one) later) key ≡ Some kept =
    ap (λ (w : Wanted). bitmap_of w key) (sym (fold-append (wanted_after script) start.wanted front (one ∷ later))) ∙ there in
    keep-takes script wanted kind id key rect kept (here script wanted one (later ++ rest) a) (steps-before script (wanted_after script wanted one) later key kept behind leaves last)
