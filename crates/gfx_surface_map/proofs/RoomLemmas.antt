-- No call makes a surface that has more pixels than there is room for.
use Rattle.std.proofs.Common.{◌≡◌, ap, sym, ◌∙◌, subst, refl, true, false, cond, Bool, ℕ, ◌*◌, ◌≤◌, List, [], ◌∷◌, Option, Some, None, Result, Ok, Err, arith}
use Rattle.std.specs.Prelude.{IfSome, OnOk}
use Rattle.std.specs.Option.{ok_or}
use Rattle.std.specs.Ordering.{nat_cmp, eq_by_cmp}
use Rattle.std.specs.Cmp.{nat_cmp_total}
use Rattle.std.specs.FinMap.{get, insert, remove, get-insert, get-remove, get-empty}
use Rattle.gfx_base.specs.declared.answer.Cause.{Cause}
use Rattle.gfx_base.specs.declared.answer.Cause.TheVariants.{Refused, Memory}
use Rattle.gfx_base.specs.declared.format.Format.{Format}
use Rattle.gfx_base.specs.declared.geometry.Point.{Point}
use Rattle.gfx_base.specs.declared.geometry.Rect.{Rect}
use Rattle.gfx_base.specs.declared.pixel.Pixel.{Pixel}
use Rattle.gfx_base.specs.declared.refusal.Refusal.{Refusal}
use Rattle.gfx_base.specs.Outcome.{Applies, Performs}
use Rattle.gfx_base.proofs.ResultLemmas.{and_then_ok}
use Rattle.gfx_surface.specs.Picture.{Picture, blank, copied, overlaid}
use Rattle.gfx_base.specs.Geometry.{moved}
use Rattle.gfx_surface.proofs.PictureLemmas.{copied-width, copied-height, overlaid-width, overlaid-height}
use Rattle.gfx_surface_map.specs.declared.place.Place.{Place}
use Rattle.gfx_surface_map.specs.Surfaces.{Surfaces, created}
use Rattle.gfx_surface_map.specs.Shown.{Shown, SurfaceMap, nothing_shown, AllHaveRoom, copied_to, stamped, surface_made, surface_deleted, surface_copied, pixels_put, output_reset, output_mapped}

-- there is room for a surface, if there is one
abbrev HasRoom : ℕ → Option Picture → Type 0
HasRoom room found = IfSome found (λ picture. picture.width * picture.height ≤ room)

more : (found : Option Picture) (less room : ℕ) → less ≤ room → HasRoom less found → HasRoom room found
more (Some picture) less room grows fits = omega arith
more None less room grows fits = fits

-- at the start there are no surfaces
pub room_none : (room : ℕ) → AllHaveRoom (record { shown = nothing_shown; room = room })
room_none room id = subst (HasRoom room) (sym (get-empty nat_cmp id)) tt

pub room_same : (old new : SurfaceMap) → new.shown.surfaces ≡ old.shown.surfaces → old.room ≤ new.room → AllHaveRoom old → AllHaveRoom new
room_same old new same grows all id =
    more (get new.shown.surfaces id) old.room new.room grows (subst (λ (m : Surfaces). HasRoom old.room (get m id)) (sym same) (all id))

pub room_insert : (old new : SurfaceMap) (id : ℕ) (picture : Picture) → new.shown.surfaces ≡ insert old.shown.surfaces id picture → old.room ≤ new.room
    → picture.width * picture.height ≤ new.room → AllHaveRoom old → AllHaveRoom new
room_insert old new id picture same grows fits all q =
    subst (λ (m : Surfaces). HasRoom new.room (get m q)) (sym same)
    (subst (HasRoom new.room) (sym (get-insert nat_cmp_total old.shown.surfaces id picture q)) (by (eq_by_cmp nat_cmp q id)))
  where
    by : (b : Bool) → HasRoom new.room (cond b (Some picture) (get old.shown.surfaces q))
    by true = fits
    by false = more (get old.shown.surfaces q) old.room new.room grows (all q)

room_remove : (old new : SurfaceMap) (id : ℕ) → new.shown.surfaces ≡ remove old.shown.surfaces id → old.room ≤ new.room → AllHaveRoom old → AllHaveRoom new
room_remove old new id same grows all q =
    subst (λ (m : Surfaces). HasRoom new.room (get m q)) (sym same)
    (subst (HasRoom new.room) (sym (get-remove nat_cmp_total old.shown.surfaces id q)) (by (eq_by_cmp nat_cmp q id)))
  where
    by : (b : Bool) → HasRoom new.room (cond b None (get old.shown.surfaces q))
    by true = tt
    by false = more (get old.shown.surfaces q) old.room new.room grows (all q)

-- a surface whose sides are as they were
pub room_drawn : (old new : SurfaceMap) (id : ℕ) (picture changed : Picture) → get old.shown.surfaces id ≡ Some picture → changed.width ≡ picture.width → changed.height ≡ picture.height
    → new.shown.surfaces ≡ insert old.shown.surfaces id changed → new.room ≡ old.room → AllHaveRoom old → AllHaveRoom new
room_drawn old new id picture changed found wide high same room all =
    let fits : picture.width * picture.height ≤ old.room = subst (HasRoom old.room) found (all id) in
    room_insert old new id changed same (omega arith) (subst (λ n. n ≤ new.room) (λ i. sym wide i * sym high i) (omega (arith, fits))) all

same_Ok : {A E : Type 0} (x y : A) → ◌≡◌ {A = Result A E} (Ok x) (Ok y) → x ≡ y
same_Ok x y e = cc

found_by : {A E : Type 0} (found : Option A) (e : E) (x : A) → ok_or found e ≡ Ok x → found ≡ Some x
found_by (Some y) e x is = ap Some (same_Ok y x is)
found_by None e x is = absurd cc

pub copied_to-width : (source : Picture) (rect : Rect) (points : List Point) (picture : Picture) → (copied_to source rect points picture).width ≡ picture.width
copied_to-width source rect [] picture = refl
copied_to-width source rect (point ∷ points) picture =
    copied_to-width source rect points (copied source rect point picture) ∙ copied-width source rect point picture

pub copied_to-height : (source : Picture) (rect : Rect) (points : List Point) (picture : Picture) → (copied_to source rect points picture).height ≡ picture.height
copied_to-height source rect [] picture = refl
copied_to-height source rect (point ∷ points) picture =
    copied_to-height source rect points (copied source rect point picture) ∙ copied-height source rect point picture

pub stamped-width : (rect : Rect) (pixels : List Pixel) (points : List Point) (picture : Picture) → (stamped rect pixels points picture).width ≡ picture.width
stamped-width rect pixels [] picture = refl
stamped-width rect pixels (point ∷ points) picture =
    stamped-width rect pixels points (overlaid picture (moved rect point) pixels) ∙ overlaid-width picture (moved rect point) pixels

pub stamped-height : (rect : Rect) (pixels : List Pixel) (points : List Point) (picture : Picture) → (stamped rect pixels points picture).height ≡ picture.height
stamped-height rect pixels [] picture = refl
stamped-height rect pixels (point ∷ points) picture =
    stamped-height rect pixels points (overlaid picture (moved rect point) pixels) ∙ overlaid-height picture (moved rect point) pixels

-- the calls ------------------------------------------------------------------------------------------

made_is : (surfaces after : Surfaces) (id width height : ℕ) (format : Format) → created surfaces id width height format ≡ Ok after
    → after ≡ insert surfaces id (blank width height format)
unfolding created
made_is surfaces after id width height format e =
    let fresh = and_then_ok _ _ after e in
    let sides = and_then_ok _ _ after fresh.2 in
    let room = and_then_ok _ _ after sides.2 in
    sym (same_Ok _ after room.2)

pub room_made : (result : Result (Unit {0}) (Cause Refusal)) (old new : SurfaceMap) (id width height : ℕ) (format : Format)
    → Applies result old.shown new.shown (surface_made old.shown id width height format) → old.room ≤ new.room → OnOk result (width * height ≤ new.room)
    → AllHaveRoom old → AllHaveRoom new
unfolding surface_made
room_made (Ok x) old new id width height format due grows enough all =
    let step = and_then_ok (created old.shown.surfaces id width height format) _ new.shown due in
    let is = ap (λ (s : Shown). s.surfaces) (sym (same_Ok _ new.shown step.2)) ∙ made_is old.shown.surfaces step.0 id width height format step.1 in
    room_insert old new id (blank width height format) is grows enough all
room_made (Err Memory) old new id width height format due grows enough all = room_same old new (ap (λ (s : Shown). s.surfaces) due) grows all
room_made (Err (Refused r)) old new id width height format due grows enough all = room_same old new (ap (λ (s : Shown). s.surfaces) due.1) grows all

pub room_deleted : (result : Result (Unit {0}) Refusal) (old new : SurfaceMap) (id : ℕ) → Performs result old.shown new.shown (surface_deleted old.shown id)
    → new.room ≡ old.room → AllHaveRoom old → AllHaveRoom new
unfolding surface_deleted
room_deleted (Ok x) old new id due same all =
    let step = and_then_ok _ _ new.shown due in
    room_remove old new id (ap (λ (s : Shown). s.surfaces) (sym (same_Ok _ new.shown step.2))) (omega arith) all
room_deleted (Err r) old new id due same all = room_same old new (ap (λ (s : Shown). s.surfaces) due.1) (omega arith) all

pub room_copied : (result : Result (Unit {0}) Refusal) (old new : SurfaceMap) (from to : ℕ) (rect : Rect) (points : List Point)
    → Performs result old.shown new.shown (surface_copied old.shown from to rect points) → new.room ≡ old.room → AllHaveRoom old → AllHaveRoom new
unfolding surface_copied
room_copied (Ok x) old new from to rect points due same all =
    let source = and_then_ok _ _ new.shown due in
    let target = and_then_ok _ _ new.shown source.2 in
    let inside = and_then_ok _ _ new.shown target.2 in
    let fits = and_then_ok _ _ new.shown inside.2 in
    room_drawn old new to target.0 (copied_to source.0 rect points target.0) (found_by _ _ target.0 target.1)
    (copied_to-width source.0 rect points target.0) (copied_to-height source.0 rect points target.0)
    (ap (λ (s : Shown). s.surfaces) (sym (same_Ok _ new.shown fits.2))) same all
room_copied (Err r) old new from to rect points due same all = room_same old new (ap (λ (s : Shown). s.surfaces) due.1) (omega arith) all

pub room_put : (result : Result (Unit {0}) Refusal) (old new : SurfaceMap) (id : ℕ) (rect : Rect) (pixels : List Pixel) (points : List Point)
    → Performs result old.shown new.shown (pixels_put old.shown id rect pixels points) → new.room ≡ old.room → AllHaveRoom old → AllHaveRoom new
unfolding pixels_put
room_put (Ok x) old new id rect pixels points due same all =
    let found = and_then_ok _ _ new.shown due in
    let fits = and_then_ok _ _ new.shown found.2 in
    room_drawn old new id found.0 (stamped rect pixels points found.0) (found_by _ _ found.0 found.1)
    (stamped-width rect pixels points found.0) (stamped-height rect pixels points found.0)
    (ap (λ (s : Shown). s.surfaces) (sym (same_Ok _ new.shown fits.2))) same all
room_put (Err r) old new id rect pixels points due same all = room_same old new (ap (λ (s : Shown). s.surfaces) due.1) (omega arith) all

pub room_reset : (result : Result (Unit {0}) Refusal) (old new : SurfaceMap) (width height : ℕ) → Performs result old.shown new.shown (output_reset old.shown width height)
    → new.room ≡ old.room → AllHaveRoom old → AllHaveRoom new
unfolding output_reset
room_reset (Ok x) old new width height due same all =
    let step = and_then_ok _ _ new.shown due in
    room_same old new (ap (λ (s : Shown). s.surfaces) (sym (same_Ok _ new.shown step.2))) (omega arith) all
room_reset (Err r) old new width height due same all = room_same old new (ap (λ (s : Shown). s.surfaces) due.1) (omega arith) all

pub room_mapped : (result : Result (Unit {0}) (Cause Refusal)) (old new : SurfaceMap) (id : ℕ) (place : Place) → Applies result old.shown new.shown (output_mapped old.shown id place)
    → new.room ≡ old.room → AllHaveRoom old → AllHaveRoom new
unfolding output_mapped
room_mapped (Ok x) old new id place due same all =
    let step = and_then_ok _ _ new.shown due in
    room_same old new (ap (λ (s : Shown). s.surfaces) (sym (same_Ok _ new.shown step.2))) (omega arith) all
room_mapped (Err Memory) old new id place due same all = room_same old new (ap (λ (s : Shown). s.surfaces) due) (omega arith) all
room_mapped (Err (Refused r)) old new id place due same all = room_same old new (ap (λ (s : Shown). s.surfaces) due.1) (omega arith) all
