-- What each message does to the screen.
use Rattle.std.proofs.Common.{◌≡◌, ℕ, Bool, true, false, Some, Result, Ok, Err, refl, sym, subst}
use Rattle.std.specs.Result.{is_ok}
use Rattle.std.specs.FinMap.{contains_key, get}
use Rattle.gfx_base.specs.Format.{format_of}
use Rattle.gfx_base.specs.Geometry.{lies_in, width_of, height_of}
use Rattle.gfx_base.specs.Results.{and_then}
use Rattle.gfx_base.specs.Outcome.{Applies, WantsOnlyIf}
use Rattle.gfx_base.proofs.Wanting.{wants_any}
use Rattle.gfx_base.specs.declared.answer.Cause.{Cause}
use Rattle.gfx_base.specs.declared.answer.Cause.TheVariants.{Refused, Memory}
use Rattle.gfx_base.specs.declared.format.Format.{Format}
use Rattle.gfx_base.specs.declared.geometry.Rect.{Rect}
use Rattle.gfx_base.specs.declared.refusal.Refusal.{Refusal}
use Rattle.gfx_base.specs.declared.refusal.Refusal.TheVariants.{CacheBudget}
use Rattle.gfx_bitmap_cache.specs.Slots.{takes_slot, has_room, entry}
use Rattle.gfx_bitmap_cache.proofs.Sound.{stored-full, stored-fits}
use Rattle.gfx_surface.specs.Picture.{Picture}
use Rattle.gfx_surface_map.specs.Surfaces.{is_size, created}
use Rattle.gfx_surface_map.specs.Shown.{Shown, surface_made}
use Rattle.gfx_state.specs.State.{State}
use Rattle.gfx_state.specs.Step.{showing, caching, surface_created, image_in, rect_stored}

-- what a call did to what is shown it did to the state
pub showing_applies : (result : Result (Unit {0}) (Cause Refusal)) (state : State) (shown : Shown) (due : Result Shown Refusal) → Applies result state.shown shown due → Applies result state (record state { shown = shown }) (showing state due)
unfolding showing and_then
showing_applies (Ok x) state shown due e = rw e refl
showing_applies (Err Memory) state shown due same = λ i. record state { shown = same i }
showing_applies (Err (Refused r)) state shown due (e, same) = (rw e refl, λ i. record state { shown = same i })

-- what is checked of a surface before its format is checked again where it is made
created_by : (known sized : Bool) (state : State) (id width height byte : ℕ) (format : Format) → contains_key state.shown.surfaces id ≡ known → is_size width height ≡ sized → format_of byte ≡ Some format
    → surface_created state id width height byte ≡ showing state (surface_made state.shown id width height format)
unfolding surface_created surface_made created showing and_then
created_by true sized state id width height byte format known_is sized_is named = rw (named, known_is) refl
created_by false true state id width height byte format known_is sized_is named = rw (named, known_is, sized_is) refl
created_by false false state id width height byte format known_is sized_is named = rw (named, known_is, sized_is) refl

pub surface_created_so : (state : State) (id width height byte : ℕ) (format : Format) → format_of byte ≡ Some format
    → surface_created state id width height byte ≡ showing state (surface_made state.shown id width height format)
surface_created_so state id width height byte format named =
    created_by (contains_key state.shown.surfaces id) (is_size width height) state id width height byte format refl refl named

-- no room for a rectangle's sides refuses to store it
pub rect_stored_full : (state : State) (id key slot : ℕ) (rect : Rect) (picture : Picture) → get state.shown.surfaces id ≡ Some picture → takes_slot state.cache.small slot ≡ true
    → lies_in picture.width picture.height rect ≡ true → has_room state.cache slot (width_of rect) (height_of rect) ≡ false
    → rect_stored state id key slot rect ≡ Err CacheBudget
unfolding rect_stored caching and_then
rect_stored_full state id key slot rect picture found taken inside full =
    rw (found, taken, inside, stored-full state.cache slot (entry key (image_in picture rect)) taken full) refl

-- what is shown is accepted just where the state is
ok_showing : (state : State) (due : Result Shown Refusal) → is_ok (showing state due) ≡ is_ok due
unfolding showing and_then
ok_showing state (Ok shown) = refl
ok_showing state (Err r) = refl

-- so memory is wanted for the state only where it is for what is shown
pub wants_showing : (result : Result (Unit {0}) (Cause Refusal)) (state : State) (due : Result Shown Refusal) → WantsOnlyIf result (is_ok due) → WantsOnlyIf result (is_ok (showing state due))
wants_showing result state due wants = subst (λ may. WantsOnlyIf result may) (sym (ok_showing state due)) wants

pub wants_created : (result : Result (Unit {0}) (Cause Refusal)) (state : State) (id width height byte : ℕ) (format : Format) → format_of byte ≡ Some format
    → WantsOnlyIf result (is_ok (surface_made state.shown id width height format)) → WantsOnlyIf result (is_ok (surface_created state id width height byte))
wants_created result state id width height byte format named wants =
    subst (λ (due : Result State Refusal). WantsOnlyIf result (is_ok due)) (sym (surface_created_so state id width height byte format named))
    (wants_showing result state (surface_made state.shown id width height format) wants)

-- a bitmap that has a slot and room is stored
rect_stored_fits : (state : State) (id key slot : ℕ) (rect : Rect) (picture : Picture) → get state.shown.surfaces id ≡ Some picture → takes_slot state.cache.small slot ≡ true
    → lies_in picture.width picture.height rect ≡ true → has_room state.cache slot (width_of rect) (height_of rect) ≡ true
    → is_ok (rect_stored state id key slot rect) ≡ true
unfolding rect_stored caching and_then
rect_stored_fits state id key slot rect picture found taken inside room =
    rw (found, taken, inside, stored-fits state.cache slot (entry key (image_in picture rect)) taken room) refl

pub wants_stored : {X : Type 0} (result : Result X (Cause Refusal)) (state : State) (id key slot : ℕ) (rect : Rect) (picture : Picture) → get state.shown.surfaces id ≡ Some picture → takes_slot state.cache.small slot ≡ true
    → lies_in picture.width picture.height rect ≡ true → has_room state.cache slot (width_of rect) (height_of rect) ≡ true
    → WantsOnlyIf result (is_ok (rect_stored state id key slot rect))
wants_stored result state id key slot rect picture found taken inside room =
    wants_any result (is_ok (rect_stored state id key slot rect)) (rect_stored_fits state id key slot rect picture found taken inside room)
