-- The messages of the steps that keep, show and forget bitmaps are accepted by the server's own state,
-- and show and hold what is wanted.
use Rattle.std.proofs.Common.{ℕ, ◌≡◌, ◌≤◌, ◌<◌, ◌^◌, true, List, [], ◌∷◌, ◌++◌, map, Option, Some, None, is_some, Result, Ok, Err, refl, sym, ap, ◌∙◌, subst, arith}
use Rattle.std.specs.List.{AllByRecursion}
use Rattle.std.specs.Ordering.{nat_cmp}
use Rattle.std.specs.Option.{ok_or}
use Rattle.std.specs.FinMap.{FinMap, get, insert, remove}
use Rattle.std.proofs.lemmas.Bool.Decides.{nat_tests}
use Rattle.gfx_base.specs.Geometry.{lies_in, width_of, height_of, fit_all, sized}
use Rattle.gfx_base.specs.Results.{check}
use Rattle.gfx_base.proofs.ResultLemmas.{and_then_ok, and_then_at, check_ok}
use Rattle.gfx_base.specs.declared.geometry.Point.{Point}
use Rattle.gfx_base.specs.declared.geometry.Rect.{Rect}
use Rattle.gfx_base.specs.declared.pixel.Pixel.{Pixel}
use Rattle.gfx_base.specs.declared.refusal.Refusal.{Refusal}
use Rattle.gfx_base.specs.declared.refusal.Refusal.TheVariants as refusal
use Rattle.gfx_pdu.specs.declared.pdu.Pdu.TheVariants.{SurfaceToCache, CacheToSurface, EvictCacheEntry}
use Rattle.gfx_surface.specs.Picture.{Picture}
use Rattle.gfx_surface_map.specs.Shown.{Shown, with_picture, stamped, pixels_put}
use Rattle.gfx_surface_map.proofs.RoomLemmas.{stamped-width, stamped-height}
use Rattle.gfx_script.specs.declared.held.Sides.{Sides}
use Rattle.gfx_script.specs.declared.step.Kind.{Kind}
use Rattle.gfx_slot_plan.specs.declared.kept.Kept.{Kept}
use Rattle.gfx_slot_plan.specs.Plan.{Plan, keeps, slot_of, touched, forgotten}
use Rattle.gfx_bitmap_cache.specs.declared.limits.TheConstants.{MOST_SLOTS}
use Rattle.gfx_bitmap_cache.specs.Slots.{Entry, Cached, cached, entry, is_slot}
use Rattle.gfx_script.specs.Checks.{Held, rect_kept, key_shown, key_forgotten, held_after}
use Rattle.gfx_script.specs.Stock.{Stock, bitmap_kept, bitmap_sides, bitmap_shown, bitmap_forgotten, or_too_large}
use Rattle.gfx_script.specs.Kinds.{as_kind}
use Rattle.gfx_script.specs.Script.{IsStep}
use Rattle.gfx_script.specs.Scripted.{Script}
use Rattle.gfx_script.specs.declared.error.ScriptKind.TheVariants as fault
use Rattle.gfx_script.specs.declared.step.Step.TheVariants.{Keep, Show, Forget}
use Rattle.gfx_state.specs.State.{State}
use Rattle.gfx_state.specs.Step as message
use Rattle.gfx_state.specs.Step.{image_in, showing}
use Rattle.gfx_state.specs.Sending.{IsCarried}
use Rattle.gfx_planner.specs.Bitmaps.{bitmap_in, without_slot, sides_in, emptied}
use Rattle.gfx_planner.specs.Wanted.{Wanted}
use Rattle.gfx_planner.specs.SurfaceEffects.{drawing}
use Rattle.gfx_planner.specs.BitmapEffects.{with_bitmap, with_stamps}
use Rattle.gfx_planner.specs.Want.{wanted_as}
use Rattle.gfx_planner.specs.Server.{Server}
use Rattle.gfx_planner.specs.Made.{made, alone}
use Rattle.gfx_planner.specs.BitmapMessages.{keeping, showing_slot, emptying}
use Rattle.gfx_planner.specs.StepMessages.{made_as}
use Rattle.gfx_planner.specs.Holds.{sides_of}
use Rattle.gfx_planner.proofs.Carried.{carried-store, carried-show, carried-evict}
use Rattle.gfx_planner.proofs.Effects.{all_steps-one}
use Rattle.gfx_planner.proofs.Slots.{Showing, cache_kept, rect_sides, fits_cache-kept, small_kept, fits_cache-shows, fits_cache-touched, fits_cache-forgotten, sides_fit-kept, sides_fit-touched, sides_fit-forgotten, sides_fit-shows, shown-step, forgotten-steps}
use Rattle.gfx_planner.proofs.Held.{holds-drawn, sides-stay}
use Rattle.gfx_planner.proofs.Lists.{all_both}
use Rattle.gfx_planner.proofs.SurfaceSteps.{Fine, drawing_agrees, found_there, ok_or_some, shows}
use Rattle.gfx_planner.proofs.Seen.{AgreeSeen as Agree, HoldsSeen as Holds}

-- bitmaps -------------------------------------------------------------------------------------------

slot_fits : (slot : ℕ) → is_slot slot ≡ true → slot < 2 ^ 16
slot_fits slot is = grind (arith, nat_tests)

some_is : {X : Type 0} (o : Option X) → is_some o ≡ true → (x : X) × (o ≡ Some x)
some_is None e = absurd cc
some_is (Some x) e = (x, refl)

-- a key's bitmap is kept, shown or held no more
abbrev caches : Server → Cached → Plan → Server
caches server cache plan = record server { state = record server.state { cache = cache }; plan = plan }

with_bitmap_there : (wanted : Wanted) (o : Option Picture) (picture : Picture) (found : Result (Plan × Kept) Refusal) (next : Plan) (kept : Kept) (key : ℕ) (rect : Rect) → o ≡ Some picture → found ≡ Ok (next, kept)
    → with_bitmap wanted o found key rect ≡ record wanted { plan = next; slots = insert (emptied wanted.slots kept.dropped) kept.slot (entry key (image_in picture rect)) }
unfolding with_bitmap
with_bitmap_there wanted o picture found next kept key rect there chosen = rw (there, chosen) refl

not_too_large : (found : Result (Plan × Kept) Refusal) (x : Plan × Kept) → or_too_large found ≡ Ok x → found ≡ Ok x
not_too_large (Ok y) x is = cc
not_too_large (Err r) x is = absurd cc

evictions_carried : (slots : List ℕ) → AllByRecursion (λ slot. (1 ≤ slot) × (slot ≤ MOST_SLOTS)) slots → AllByRecursion IsCarried (map EvictCacheEntry slots)
evictions_carried [] all = tt
evictions_carried (slot ∷ slots) all = (carried-evict slot (omega (arith, all.0.1)), evictions_carried slots all.1)

-- what a step is made into, where its slots are there
keeping_there : (found : Result (Plan × Kept) Refusal) (next : Plan) (kept : Kept) (id key : ℕ) (rect : Rect) → found ≡ Ok (next, kept)
    → keeping found id key rect ≡ made (map EvictCacheEntry kept.dropped ++ (SurfaceToCache id key kept.slot rect ∷ [])) next
unfolding keeping
keeping_there found next kept id key rect chosen = rw chosen refl

showing_there : (o : Option ℕ) (slot to : ℕ) (points : List Point) → o ≡ Some slot → showing_slot o to points ≡ Some (CacheToSurface slot to points)
unfolding showing_slot
showing_there o slot to points is = rw is refl

emptying_there : (o : Option ℕ) (slot : ℕ) → o ≡ Some slot → emptying o ≡ Some (EvictCacheEntry slot)
unfolding emptying
emptying_there o slot is = rw is refl

-- what a script's checks of a bitmap that is kept say
pub record MayKeep (server : Server) (held after : Held) (id key : ℕ) (rect : Rect) : Type 0 where
  pub picture : Picture
  pub there : get server.state.shown.surfaces id ≡ Some picture
  pub inside : lies_in picture.width picture.height rect ≡ true
  pub next : Plan
  pub kept : Kept
  pub chosen : keeps server.plan key (width_of rect) (height_of rect) ≡ Ok (next, kept)
  pub after_is : record held { stock = record { plan = next; sides = insert held.stock.sides kept.slot (rect_sides rect) } } ≡ after

bitmap_chosen : (stock after : Stock) (key width height : ℕ) → bitmap_kept stock key width height ≡ Ok after
    → (found : Plan × Kept) × (keeps stock.plan key width height ≡ Ok found) × (record { plan = found.0; sides = insert stock.sides found.1.slot record { width = width; height = height } } ≡ after)
unfolding bitmap_kept
bitmap_chosen stock after key width height is =
    let first = and_then_ok (or_too_large (keeps stock.plan key width height)) _ after is in
    (first.0, not_too_large _ first.0 first.1, (let end = first.2 in cc))

may_keep_as : (server : Server) (held after : Held) (id key : ℕ) (rect : Rect) (picture : Picture) (stock : Stock) → get server.state.shown.surfaces id ≡ Some picture
    → lies_in picture.width picture.height rect ≡ true → held.stock.plan ≡ server.plan → bitmap_kept held.stock key (width_of rect) (height_of rect) ≡ Ok stock → record held { stock = stock } ≡ after
    → MayKeep server held after id key rect
may_keep_as server held after id key rect picture stock there inside same kept is =
    let found = bitmap_chosen held.stock stock key (width_of rect) (height_of rect) kept in
    record {
      picture = picture;
      there = there;
      inside = inside;
      next = found.0.0;
      kept = found.0.1;
      chosen = ap (λ p. keeps p key (width_of rect) (height_of rect)) (sym same) ∙ found.1;
      after_is = ap (λ s. record held { stock = s }) found.2 ∙ is;
    }

may_keep : (script : Script) (server : Server) (held after : Held) (id key : ℕ) (rect : Rect) → Holds script held server → rect_kept held id key rect ≡ Ok after → MayKeep server held after id key rect
unfolding rect_kept
may_keep script server held after id key rect holds checked =
    let first = and_then_ok (ok_or (get held.sides id) fault.SurfaceAbsent) _ after checked in
    let surface = found_there held server.state.shown.surfaces id first.0 holds.surfaces first.1 in
    let second = and_then_ok (check fault.Outside (lies_in first.0.width first.0.height rect)) _ after first.2 in
    let third = and_then_ok (bitmap_kept held.stock key (width_of rect) (height_of rect)) _ after second.2 in
    may_keep_as server held after id key rect surface.picture third.0 surface.there
    (ap (λ (s : Sides). lies_in s.width s.height rect) surface.same ∙ check_ok fault.Outside (lies_in first.0.width first.0.height rect) second.1) holds.bitmaps.same third.1 (let end = third.2 in cc)

pub keep_fine : (script : Script) (server : Server) (kind : Option Kind) (held after : Held) (id key : ℕ) (rect : Rect) → Holds script held server → IsStep (Keep id key rect)
    → held_after held (Keep id key rect) ≡ Ok after → Fine script server (as_kind kind (Keep id key rect)) after
unfolding made_as wanted_as held_after
keep_fine script server kind held after id key rect holds numbers checked =
    let m = may_keep script server held after id key rect holds checked in
    let state = server.state in
    let k = fits_cache-kept state server.plan m.next m.kept id key rect m.picture holds.bitmaps.limits holds.bitmaps.fits_cache m.there m.inside m.chosen in
    let cache = cache_kept state key rect m.picture m.kept in
    let found = keeps server.plan key (width_of rect) (height_of rect) in
    record {
      into = record { pdus = map EvictCacheEntry m.kept.dropped ++ (SurfaceToCache id key m.kept.slot rect ∷ []); plan = m.next };
      is = keeping_there found m.next m.kept id key rect m.chosen;
      next = record state { cache = cache };
      accepted = k.accepted;
      carried = all_both IsCarried (map EvictCacheEntry m.kept.dropped) _ (evictions_carried m.kept.dropped k.slots)
          (carried-store id key m.kept.slot rect numbers.0 (omega (arith, numbers.1)) (omega (arith, k.slot.1)) numbers.2, tt);
      holds = subst (λ h. Holds script h (caches server cache m.next)) m.after_is record {
        drawn = holds.drawn;
        same = holds.same;
        surfaces = holds.surfaces;
        bitmaps = record {
          same = refl;
          limits = small_kept server.plan m.next m.kept key (width_of rect) (height_of rect) m.chosen ∙ holds.bitmaps.limits;
          fits_cache = k.fits_cache;
          sides_fit = sides_fit-kept state server.plan m.next m.kept held.stock.sides key rect m.picture holds.bitmaps.fits_cache holds.bitmaps.sides_fit m.chosen;
        };
        rings = holds.rings;
      };
      frame = refl;
      agrees = λ wanted agree.
          let there : get wanted.shown.surfaces id ≡ Some m.picture = ap (λ (z : Shown). get z.surfaces id) (sym agree.shown) ∙ m.there in
          let chosen : keeps wanted.plan key (width_of rect) (height_of rect) ≡ Ok (m.next, m.kept) = ap (λ p. keeps p key (width_of rect) (height_of rect)) (sym agree.plan) ∙ m.chosen in
          subst (Agree (caches server cache m.next)) (sym (with_bitmap_there wanted (get wanted.shown.surfaces id) m.picture (keeps wanted.plan key (width_of rect) (height_of rect)) m.next m.kept key rect there chosen)) record {
            shown = agree.shown;
            slots = ap (λ (z : FinMap nat_cmp Entry). insert (emptied z m.kept.dropped) m.kept.slot (entry key (image_in m.picture rect))) agree.slots;
            plan = refl;
          };
      keeps = (λ q. refl, refl);
    }

-- what a script's checks of a bitmap that is shown say
pub record MayShow (server : Server) (held after : Held) (key to : ℕ) (points : List Point) : Type 0 where
  pub slot : ℕ
  pub is : slot_of key server.plan.places ≡ Some slot
  pub shows : Showing server.state.cache key slot
  pub target : Picture
  pub there : get server.state.shown.surfaces to ≡ Some target
  pub fits : fit_all target.width target.height (sized shows.entry.image.width shows.entry.image.height) points ≡ true
  pub after_is : record held { stock = bitmap_shown held.stock key } ≡ after

bitmap_found : (stock : Stock) (key : ℕ) (sides : Sides) → bitmap_sides stock key ≡ Ok sides → (slot : ℕ) × (slot_of key stock.plan.places ≡ Some slot) × (get stock.sides slot ≡ Some sides)
unfolding bitmap_sides
bitmap_found stock key sides is =
    let first = and_then_ok (ok_or (slot_of key stock.plan.places) fault.KeyAbsent) _ sides is in
    (first.0, ok_or_some _ fault.KeyAbsent first.0 first.1, ok_or_some _ fault.KeyAbsent sides first.2)

pub may_show : (script : Script) (server : Server) (held after : Held) (key to : ℕ) (points : List Point) → Holds script held server → key_shown held key to points ≡ Ok after → MayShow server held after key to points
unfolding key_shown
may_show script server held after key to points holds checked =
    let first = and_then_ok (bitmap_sides held.stock key) _ after checked in
    let found = bitmap_found held.stock key first.0 first.1 in
    let is : slot_of key server.plan.places ≡ Some found.0 = ap (λ p. slot_of key p.places) (sym holds.bitmaps.same) ∙ found.1 in
    let shows = fits_cache-shows server.plan server.state.cache key found.0 holds.bitmaps.fits_cache is in
    let sides_fit = sides_fit-shows server.plan server.state.cache held.stock.sides key found.0 holds.bitmaps.fits_cache is holds.bitmaps.sides_fit shows in
    let same : first.0 ≡ sides_in shows.entry = (let both : Some first.0 ≡ Some (sides_in shows.entry) = sym found.2 ∙ sides_fit in cc) in
    let second = and_then_ok (ok_or (get held.sides to) fault.SurfaceAbsent) _ after first.2 in
    let target = found_there held server.state.shown.surfaces to second.0 holds.surfaces second.1 in
    let third = and_then_ok (check fault.Outside (fit_all second.0.width second.0.height (sized first.0.width first.0.height) points)) _ after second.2 in
    let fits = check_ok fault.Outside (fit_all second.0.width second.0.height (sized first.0.width first.0.height) points) third.1 in
    record {
      slot = found.0;
      is = is;
      shows = shows;
      target = target.picture;
      there = target.there;
      fits = ap (λ (s : Sides). fit_all s.width s.height (sized shows.entry.image.width shows.entry.image.height) points) target.same
          ∙ ap (λ (s : Sides). fit_all second.0.width second.0.height (sized s.width s.height) points) (sym same) ∙ fits;
      after_is = (let end = third.2 in cc);
    }

sides_stamped : (rect : Rect) (pixels : List Pixel) (points : List Point) (picture : Picture) → sides_of (stamped rect pixels points picture) ≡ sides_of picture
sides_stamped rect pixels points picture =
    let w = stamped-width rect pixels points picture in
    let h = stamped-height rect pixels points picture in
    λ i. record { width = w i; height = h i }

was_stamped : (state : State) (key slot to : ℕ) (points : List Point) (at : Showing state.cache key slot) (target : Picture) → get state.shown.surfaces to ≡ Some target
    → fit_all target.width target.height (sized at.entry.image.width at.entry.image.height) points ≡ true
    → message.step state (CacheToSurface slot to points)
    ≡ Ok (record state { shown = with_picture state.shown to (stamped (sized at.entry.image.width at.entry.image.height) at.entry.image.pixels points target) })
unfolding showing pixels_put
was_stamped state key slot to points at target there fits =
    let image = at.entry.image in
    let rect = sized image.width image.height in
    shown-step state key slot to points at
    ∙ and_then_at (pixels_put state.shown to rect image.pixels points) (with_picture state.shown to (stamped rect image.pixels points target)) (λ shown. Ok (record state { shown = shown }))
    (and_then_at (ok_or (get state.shown.surfaces to) refusal.NoSurface) target _ (ap (λ o. ok_or o refusal.NoSurface) there)
    ∙ and_then_at (check refusal.RectOutside (fit_all target.width target.height rect points)) tt _ (ap (check refusal.RectOutside) fits))

with_stamps_there : (wanted : Wanted) (slots : FinMap nat_cmp Entry) (o : Option ℕ) (slot : ℕ) (held : Entry) (to : ℕ) (points : List Point) → o ≡ Some slot → get slots slot ≡ Some held
    → with_stamps wanted (bitmap_in slots o) to points ≡ drawing wanted to (stamped (sized held.image.width held.image.height) held.image.pixels points)
unfolding with_stamps
with_stamps_there wanted slots o slot held to points is there = rw (is, there) refl

pub show_fine : (script : Script) (server : Server) (kind : Option Kind) (held after : Held) (key to : ℕ) (points : List Point) → Holds script held server → IsStep (Show key to points)
    → held_after held (Show key to points) ≡ Ok after → Fine script server (as_kind kind (Show key to points)) after
unfolding made_as wanted_as held_after
show_fine script server kind held after key to points holds numbers checked =
    let m = may_show script server held after key to points holds checked in
    let image = m.shows.entry.image in
    let stamps = stamped (sized image.width image.height) image.pixels points in
    let shown = with_picture server.state.shown to (stamps m.target) in
    let next = touched server.plan key in
    record {
      into = record { pdus = CacheToSurface m.slot to points ∷ []; plan = next };
      is = ap (λ o. alone o next) (showing_there (slot_of key server.plan.places) m.slot to points m.is);
      next = record server.state { shown = shown };
      accepted = all_steps-one server.state _ _ (was_stamped server.state key m.slot to points m.shows m.target m.there m.fits);
      carried = (carried-show m.slot to points (slot_fits m.slot m.shows.is) numbers.1 numbers.4 numbers.3, tt);
      holds = subst (λ h. Holds script h (record (shows server shown) { plan = next })) m.after_is record {
        drawn = holds.drawn;
        same = holds.same;
        surfaces = holds-drawn held.sides held.cells server.state.shown.surfaces to m.target (stamps m.target) holds.surfaces m.there (sides_stamped _ image.pixels points m.target);
        bitmaps = record {
          same = ap (λ p. touched p key) holds.bitmaps.same;
          limits = holds.bitmaps.limits;
          fits_cache = fits_cache-touched server.plan server.state.cache key m.slot holds.bitmaps.fits_cache m.is;
          sides_fit = sides_fit-touched server.plan server.state.cache held.stock.sides key m.slot holds.bitmaps.fits_cache m.is holds.bitmaps.sides_fit;
        };
        rings = holds.rings;
      };
      frame = refl;
      agrees = λ wanted agree.
          let is : slot_of key wanted.plan.places ≡ Some m.slot = ap (λ p. slot_of key p.places) (sym agree.plan) ∙ m.is in
          let there : get wanted.slots m.slot ≡ Some m.shows.entry = ap (λ (z : FinMap nat_cmp Entry). get z m.slot) (sym agree.slots) ∙ m.shows.there in
          let drawn = drawing_agrees server wanted to m.target stamps m.there agree in
          subst (λ w. Agree (record (shows server shown) { plan = next }) (record w { plan = touched wanted.plan key }))
          (sym (with_stamps_there wanted wanted.slots (slot_of key wanted.plan.places) m.slot m.shows.entry to points is there))
          record { shown = drawn.shown; slots = drawn.slots; plan = ap (λ p. touched p key) agree.plan };
      keeps = (sides-stay server.state.shown.surfaces to m.target (stamps m.target) m.there (sides_stamped _ image.pixels points m.target), refl);
    }

-- what a script's checks of a bitmap that is forgotten say
forgotten_found : (stock after : Stock) (key : ℕ) → bitmap_forgotten stock key ≡ Ok after → (slot : ℕ) × (slot_of key stock.plan.places ≡ Some slot) × (record stock { plan = forgotten stock.plan key } ≡ after)
unfolding bitmap_forgotten
forgotten_found stock after key is =
    let first = and_then_ok (check fault.KeyAbsent (is_some (slot_of key stock.plan.places))) _ after is in
    let some = some_is (slot_of key stock.plan.places) (check_ok fault.KeyAbsent (is_some (slot_of key stock.plan.places)) first.1) in
    (some.0, some.1, (let end = first.2 in cc))

pub forget_fine : (script : Script) (server : Server) (kind : Option Kind) (held after : Held) (key : ℕ) → Holds script held server → IsStep (Forget key)
    → held_after held (Forget key) ≡ Ok after → Fine script server (as_kind kind (Forget key)) after
unfolding made_as wanted_as held_after key_forgotten
forget_fine script server kind held after key holds numbers checked =
    let first = and_then_ok (bitmap_forgotten held.stock key) _ after checked in
    let found = forgotten_found held.stock first.0 key first.1 in
    let slot : ℕ = found.0 in
    let is : slot_of key server.plan.places ≡ Some slot = ap (λ p. slot_of key p.places) (sym holds.bitmaps.same) ∙ found.1 in
    let shows = fits_cache-shows server.plan server.state.cache key slot holds.bitmaps.fits_cache is in
    let cache = cached (remove server.state.cache.slots slot) server.state.cache.small in
    let next = forgotten server.plan key in
    let after_is : record held { stock = record held.stock { plan = forgotten held.stock.plan key } } ≡ after = ap (λ s. record held { stock = s }) found.2 ∙ (let end = first.2 in cc) in
    record {
      into = record { pdus = EvictCacheEntry slot ∷ []; plan = next };
      is = ap (λ o. alone o next) (emptying_there (slot_of key server.plan.places) slot is);
      next = record server.state { cache = cache };
      accepted = forgotten-steps server.state server.plan key slot holds.bitmaps.fits_cache is;
      carried = (carried-evict slot (slot_fits slot shows.is), tt);
      holds = subst (λ h. Holds script h (caches server cache next)) after_is record {
        drawn = holds.drawn;
        same = holds.same;
        surfaces = holds.surfaces;
        bitmaps = record {
          same = ap (λ p. forgotten p key) holds.bitmaps.same;
          limits = holds.bitmaps.limits;
          fits_cache = fits_cache-forgotten server.plan server.state.cache key slot holds.bitmaps.fits_cache is;
          sides_fit = sides_fit-forgotten server.plan server.state.cache held.stock.sides key slot holds.bitmaps.fits_cache is holds.bitmaps.sides_fit;
        };
        rings = holds.rings;
      };
      frame = refl;
      agrees = λ wanted agree.
          let same : slot_of key wanted.plan.places ≡ Some slot = ap (λ p. slot_of key p.places) (sym agree.plan) ∙ is in
          record {
            shown = agree.shown;
            slots = ap (λ (z : FinMap nat_cmp Entry). remove z slot) agree.slots ∙ sym (ap (without_slot wanted.slots) same);
            plan = ap (λ p. forgotten p key) agree.plan;
          };
      keeps = (λ q. refl, refl);
    }
