-- What is shown, where surfaces differ in pixels alone: no check of a change reads a pixel, and each change leaves them so.
use Rattle.std.proofs.Common.{◌≡◌, ℕ, ◌+◌, ◌&&◌, not, nat_lt, nat_le, Bool, List, [], ◌∷◌, fold, Result, Ok, refl, sym, ap, ◌∙◌, subst}
use Rattle.std.specs.Cmp.{nat_cmp_total}
use Rattle.std.specs.FinMap.{insert, get, contains_key, nat_cmp-IsAntisymmetric}
use Rattle.std.specs.Map.{remove_entry}
use Rattle.std.specs.Option.{ok_or}
use Rattle.std.specs.Prelude.{nat_eq}
use Rattle.gfx_base.specs.declared.format.Format.{Format}
use Rattle.gfx_base.specs.declared.geometry.Point.{Point}
use Rattle.gfx_base.specs.declared.geometry.Rect.{Rect}
use Rattle.gfx_base.specs.declared.pixel.Pixel.{Pixel}
use Rattle.gfx_base.specs.declared.refusal.Refusal.{Refusal}
use Rattle.gfx_base.specs.declared.refusal.Refusal.TheVariants.{NoSurface, SurfaceExists, SurfaceBudget, RectOutside}
use Rattle.gfx_base.specs.Geometry.{lies_in, fit_all}
use Rattle.gfx_base.specs.Results.{◌>>=◌, check}
use Rattle.gfx_surface.specs.Picture.{Picture, blank, filled, copied, overlaid}
use Rattle.gfx_surface_map.specs.declared.TheConstants.{MOST_SURFACES, MOST_CELLS}
use Rattle.gfx_surface_map.specs.declared.place.Place.{Place}
use Rattle.gfx_surface_map.specs.Surfaces.{Surfaces, cells, cells_of, cells_of_picture, fits_beside, created, painted}
use Rattle.gfx_surface_map.specs.Shown.{Shown, with_picture, surface_made, surface_deleted, copied_to, surface_copied, stamped, pixels_put, output_reset, output_mapped}
use Rattle.gfx_state.specs.Alike.{outline}
use Rattle.gfx_state.proofs.Following.{Follows, gives, after, both, checks}
use Rattle.gfx_alike.proofs.Maps.{SameOutlines, found, same-get, same-contains_key, same-len, same-sum, same-insert, same-remove}

-- one surface -------------------------------------------------------------------------------------------------

-- two surfaces that differ in pixels alone
abbrev pub SameOutline : Picture → Picture → Type 0
SameOutline p q = outline p ≡ outline q

-- a surface with other pixels
abbrev pub repainted : Picture → List Pixel → Picture
repainted p pixels = record p { pixels = pixels }

-- the second is the first with its own pixels
pub second_picture : (p q : Picture) → SameOutline p q → repainted p q.pixels ≡ q
second_picture p q same = λ i. record { width = (same i).width; height = (same i).height; format = (same i).format; pixels = q.pixels }

-- so what holds of the first with any pixels holds of the second
pub for_second : (P : Picture → Type 0) (p q : Picture) → SameOutline p q → ((pixels : List Pixel) → P (repainted p pixels)) → P q
for_second P p q same all = subst P (second_picture p q same) (all q.pixels)

outline-filled : (p : Picture) (rect : Rect) (colour : Pixel) → outline (filled p rect colour) ≡ outline p
unfolding filled
outline-filled p rect colour = refl

outline-copied : (source : Picture) (rect : Rect) (to : Point) (p : Picture) → outline (copied source rect to p) ≡ outline p
unfolding copied
outline-copied source rect to p = refl

pub outline-overlaid : (p : Picture) (rect : Rect) (pixels : List Pixel) → outline (overlaid p rect pixels) ≡ outline p
unfolding overlaid
outline-overlaid p rect pixels = refl

outline-fold : {A : Type 0} (step : Picture → A → Picture) → ((p : Picture) (a : A) → outline (step p a) ≡ outline p)
    → (items : List A) (p : Picture) → outline (fold step p items) ≡ outline p
outline-fold step stays [] p = refl
outline-fold step stays (a ∷ items) p = outline-fold step stays items (step p a) ∙ stays p a

pub outline-painted : (p : Picture) (rects : List Rect) (colour : Pixel) → outline (painted p rects colour) ≡ outline p
outline-painted p rects colour = outline-fold (λ done rect. filled done rect colour) (λ done rect. outline-filled done rect colour) rects p

outline-copied_to : (source : Picture) (rect : Rect) (points : List Point) (p : Picture) → outline (copied_to source rect points p) ≡ outline p
outline-copied_to source rect points p = outline-fold (λ done point. copied source rect point done) (λ done point. outline-copied source rect point done) points p

outline-stamped : (rect : Rect) (pixels : List Pixel) (points : List Point) (p : Picture) → outline (stamped rect pixels points p) ≡ outline p
outline-stamped rect pixels points p = outline-fold _ (λ done point. outline-overlaid done _ pixels) points p

-- what is done to both leaves them so
pub both_changed : (p q : Picture) (f g : Picture → Picture) → ((x : Picture) → outline (f x) ≡ outline x) → ((x : Picture) → outline (g x) ≡ outline x)
    → SameOutline p q → SameOutline (f p) (g q)
both_changed p q f g left right same = left p ∙ same ∙ sym (right q)

-- all surfaces -----------------------------------------------------------------------------------------------

-- two lots of surfaces that differ in pixels alone
abbrev pub SameSurfaces : Surfaces → Surfaces → Type 0
SameSurfaces a b = SameOutlines outline a b

-- what is found in one is found in the other
pub found_surface : (a b : Surfaces) (id : ℕ) → SameSurfaces a b → Follows SameOutline (ok_or (get a id) NoSurface) (ok_or (get b id) NoSurface)
found_surface a b id same = found outline (get a id) (get b id) NoSurface (same-get outline a b id same)

pub same_insert : (a b : Surfaces) (id : ℕ) (p q : Picture) → SameOutline p q → SameSurfaces a b → SameSurfaces (insert a id p) (insert b id q)
same_insert a b id p q picture same = same-insert outline nat_cmp_total a b id p q picture same

same_cells : (a b : Surfaces) → SameSurfaces a b → cells_of a ≡ cells_of b
same_cells a b same = same-sum outline cells_of_picture (λ p. refl) a b same

same_fits : (a b : Surfaces) (width height : ℕ) → SameSurfaces a b → fits_beside a width height ≡ fits_beside b width height
same_fits a b width height same =
    λ i. nat_lt (same-len outline a b same i) MOST_SURFACES && nat_le (same_cells a b same i + cells width height) MOST_CELLS

-- a check of the same
pub same_check : {E : Type 0} (r : E) (a b : Bool) → a ≡ b → Follows (λ x y. Unit {0}) (check r a) (check r b)
same_check r a b same = checks r a b (λ e. sym same ∙ e)

pub same_there : (a b : Surfaces) (id : ℕ) → SameSurfaces a b → contains_key a id ≡ contains_key b id
same_there a b id same = same-contains_key outline a b id same

created_alike : (a b : Surfaces) (id width height : ℕ) (format : Format) → SameSurfaces a b
    → Follows SameSurfaces (created a id width height format) (created b id width height format)
unfolding created
created_alike a b id width height format same =
    both (λ x y. Unit {0}) SameSurfaces _ _ _ _ (same_check SurfaceExists _ _ (ap not (same_there a b id same))) (λ x y r.
    after SameSurfaces _ _ _ (λ sides.
    both (λ x y. Unit {0}) SameSurfaces _ _ _ _ (same_check SurfaceBudget _ _ (same_fits a b width height same)) (λ x y r.
    gives SameSurfaces _ _ (same_insert a b id (blank width height format) (blank width height format) refl same))))

-- what is shown ----------------------------------------------------------------------------------------------

-- what is shown differs in the pixels of surfaces alone
pub record ShownAlike (a b : Shown) : Type 0 where
  pub surfaces : SameSurfaces a.surfaces b.surfaces
  pub output : a.output ≡ b.output
  pub maps : a.maps ≡ b.maps

pub with_picture_alike : (a b : Shown) (id : ℕ) (p q : Picture) → SameOutline p q → ShownAlike a b → ShownAlike (with_picture a id p) (with_picture b id q)
with_picture_alike a b id p q picture same =
    record { surfaces = same_insert a.surfaces b.surfaces id p q picture same.surfaces; output = same.output; maps = same.maps }

pub made_alike : (a b : Shown) (id width height : ℕ) (format : Format) → ShownAlike a b
    → Follows ShownAlike (surface_made a id width height format) (surface_made b id width height format)
unfolding surface_made
made_alike a b id width height format same =
    both SameSurfaces ShownAlike _ _ _ _ (created_alike a.surfaces b.surfaces id width height format same.surfaces) (λ x y r.
    gives ShownAlike _ _ (record { surfaces = r; output = same.output; maps = same.maps }))

pub deleted_alike : (a b : Shown) (id : ℕ) → ShownAlike a b → Follows ShownAlike (surface_deleted a id) (surface_deleted b id)
unfolding surface_deleted
deleted_alike a b id same =
    both (λ x y. Unit {0}) ShownAlike _ _ _ _ (same_check NoSurface _ _ (same_there a.surfaces b.surfaces id same.surfaces)) (λ x y r.
    gives ShownAlike _ _ (record {
      surfaces = same-remove outline nat_cmp_total nat_cmp-IsAntisymmetric a.surfaces b.surfaces id same.surfaces;
      output = same.output;
      maps = ap (remove_entry (nat_eq id)) same.maps;
    }))

-- a rectangle of one surface is copied to another, once both are found
abbrev copied_into : Shown → ℕ → Rect → List Point → Picture → Picture → Result Shown Refusal
copied_into shown to rect points source target = do
  inside ← check RectOutside (lies_in source.width source.height rect)
  fits ← check RectOutside (fit_all target.width target.height rect points)
  Ok (with_picture shown to (copied_to source rect points target))

into_alike : (a b : Shown) (to : ℕ) (rect : Rect) (points : List Point) (source target : Picture) (these those : List Pixel) → ShownAlike a b
    → Follows ShownAlike (copied_into a to rect points source target) (copied_into b to rect points (repainted source these) (repainted target those))
into_alike a b to rect points source target these those same =
    after ShownAlike _ _ _ (λ inside. after ShownAlike _ _ _ (λ fits. gives ShownAlike _ _ (with_picture_alike a b to _ _
    (both_changed target (repainted target those) (copied_to source rect points) (copied_to (repainted source these) rect points)
    (outline-copied_to source rect points) (outline-copied_to (repainted source these) rect points) refl) same)))

pub copied_alike : (a b : Shown) (from to : ℕ) (rect : Rect) (points : List Point) → ShownAlike a b
    → Follows ShownAlike (surface_copied a from to rect points) (surface_copied b from to rect points)
unfolding surface_copied
copied_alike a b from to rect points same =
    both SameOutline ShownAlike _ _ _ _ (found_surface a.surfaces b.surfaces from same.surfaces) (λ source source' r.
    both SameOutline ShownAlike _ _ _ _ (found_surface a.surfaces b.surfaces to same.surfaces) (λ target target' t.
    for_second (λ z. Follows ShownAlike (copied_into a to rect points source target) (copied_into b to rect points z target')) source source' r (λ these.
    for_second (λ z. Follows ShownAlike (copied_into a to rect points source target) (copied_into b to rect points (repainted source these) z)) target target' t (λ those.
    into_alike a b to rect points source target these those same))))

-- pixels are put at points of a surface, once it is found
abbrev put_into : Shown → ℕ → Rect → List Pixel → List Point → Picture → Result Shown Refusal
put_into shown id rect pixels points picture = do
  fits ← check RectOutside (fit_all picture.width picture.height rect points)
  Ok (with_picture shown id (stamped rect pixels points picture))

put_into_alike : (a b : Shown) (id : ℕ) (rect : Rect) (these those : List Pixel) (points : List Point) (p : Picture) (others : List Pixel) → ShownAlike a b
    → Follows ShownAlike (put_into a id rect these points p) (put_into b id rect those points (repainted p others))
put_into_alike a b id rect these those points p others same =
    after ShownAlike _ _ _ (λ fits. gives ShownAlike _ _ (with_picture_alike a b id _ _
    (both_changed p (repainted p others) (stamped rect these points) (stamped rect those points) (outline-stamped rect these points) (outline-stamped rect those points) refl) same))

-- any pixels of the same rectangle
pub put_alike : (a b : Shown) (id : ℕ) (rect : Rect) (these those : List Pixel) (points : List Point) → ShownAlike a b
    → Follows ShownAlike (pixels_put a id rect these points) (pixels_put b id rect those points)
unfolding pixels_put
put_alike a b id rect these those points same =
    both SameOutline ShownAlike _ _ _ _ (found_surface a.surfaces b.surfaces id same.surfaces) (λ p q r.
    for_second (λ z. Follows ShownAlike (put_into a id rect these points p) (put_into b id rect those points z)) p q r (λ others.
    put_into_alike a b id rect these those points p others same))

pub reset_alike : (a b : Shown) (width height : ℕ) → ShownAlike a b → Follows ShownAlike (output_reset a width height) (output_reset b width height)
unfolding output_reset
reset_alike a b width height same =
    after ShownAlike _ _ _ (λ sides. gives ShownAlike _ _ (record { surfaces = same.surfaces; output = refl; maps = same.maps }))

-- what is shown with other surfaces
abbrev over : Shown → Surfaces → Shown
over a surfaces = record a { surfaces = surfaces }

second_shown : (a b : Shown) → ShownAlike a b → over a b.surfaces ≡ b
second_shown a b same = λ i. record { surfaces = b.surfaces; output = same.output i; maps = same.maps i }

mapped_over : (a : Shown) (surfaces : Surfaces) (id : ℕ) (place : Place) → SameSurfaces a.surfaces surfaces
    → Follows ShownAlike (output_mapped a id place) (output_mapped (over a surfaces) id place)
unfolding output_mapped
mapped_over a surfaces id place same =
    both (λ x y. Unit {0}) ShownAlike _ _ _ _ (same_check NoSurface _ _ (same_there a.surfaces surfaces id same)) (λ x y r.
    gives ShownAlike _ _ (record { surfaces = same; output = refl; maps = refl }))

pub mapped_alike : (a b : Shown) (id : ℕ) (place : Place) → ShownAlike a b → Follows ShownAlike (output_mapped a id place) (output_mapped b id place)
mapped_alike a b id place same =
    subst (λ z. Follows ShownAlike (output_mapped a id place) (output_mapped z id place)) (second_shown a b same) (mapped_over a b.surfaces id place same.surfaces)
