-- The output's rows, as parts of them are put together.
use Rattle.std.proofs.Common.{◌≡◌, ap, sym, ◌∙◌, subst, true, if◌then◌else◌, ◌&&◌, nat_le, nat_lt, ℕ, ◌+◌, ◌-◌, ◌<◌, ◌≤◌, List, length, map, take, drop, min, get_or, Option, Some, length-take, length-drop, get_or-take, arith, refl}
use Rattle.std.specs.Prelude.{slice_get}
use Rattle.std.specs.FinMap.{get}
use Rattle.std.proofs.lemmas.Option.{get_or_from_slice_get}
use Rattle.std.proofs.lemmas.Bool.Decides.{nat_tests}
use Rattle.std.specs.List.{range_with_len}
use Rattle.std.proofs.lemmas.List.{take_all, length-map, get_or-map, ext_get_or, get_or-drop}
use borrow.Rule.Slice.PartMut.{put_mid}
use Rattle.std.proofs.lemmas.List.FromFn.{length-map-range_with_len, get_or-map-range_with_len}
use Rattle.std.proofs.lemmas.List.Sums.{fold_more}
use Rattle.gfx_base.specs.declared.format.Format.TheVariants.{Xrgb}
use Rattle.gfx_base.specs.declared.pixel.Pixel.{Pixel}
use Rattle.gfx_surface.specs.Picture.{Picture, IsPicture, row_of, pixel_at, shade, no_pixel, zero_colour}
use Rattle.gfx_surface.proofs.PictureLemmas.{choose, length-row_of, get_or-row_of}
use Rattle.gfx_surface.proofs.Places.{run_put}
use Rattle.gfx_surface_map.specs.declared.place.Place.{Place}
use Rattle.gfx_surface_map.specs.Surfaces.{Surfaces}
use Rattle.gfx_surface_map.specs.Shown.{Shown}
use Rattle.gfx_surface_map.specs.Composed.{reaches, over, composed, output_part, PaintsPart, PaintsRun, PaintsMap}

-- a row of a picture painted over a part of a row of the output
pub part_painted : (picture : Picture) (place : Place) (left y row : ℕ) (pixels old new : List Pixel) → IsPicture picture → place.y ≤ y → row ≡ y - place.y
    → row < picture.height → pixels ≡ row_of picture row → PaintsRun (drop (left - place.x) pixels) (place.x - left) old new → PaintsPart (Some picture) place left y old new
part_painted picture place left y row pixels old new shape on is low read run x d below =
    let wide : length pixels ≡ picture.width = ap length read ∙ length-row_of picture row shape low in
    let rest : length (drop (left - place.x) pixels) ≡ picture.width - (left - place.x) = length-drop (left - place.x) pixels ∙ ap (λ n. n - (left - place.x)) wide in
    run x d below
    ∙ ap (λ b. if b then shade Xrgb (get_or (drop (left - place.x) pixels) (x - (place.x - left)) no_pixel) else get_or old x d)
    (reach place.x picture.width place.y picture.height (length (drop (left - place.x) pixels)) row rest on is low)
    ∙ choose (reaches picture place (left + x) y) _ _ _ (λ hit.
    ap (shade Xrgb) (
    get_or-drop (left - place.x) pixels (x - (place.x - left)) no_pixel
    ∙ ap (λ n. get_or pixels n no_pixel) (place_in place.x picture.width place.y picture.height hit)
    ∙ ap (λ (pixels : List Pixel). get_or pixels (left + x - place.x) no_pixel) read
    ∙ get_or-row_of picture row (left + x - place.x) (column place.x picture.width place.y picture.height hit)
    ∙ ap (pixel_at picture (left + x - place.x)) is))
  where
    reach : (px w py h n row : ℕ) → n ≡ w - (left - px) → py ≤ y → row ≡ y - py → row < h
        → (nat_le (px - left) x && nat_lt x (px - left + n)) ≡ (nat_le px (left + x) && nat_lt (left + x) (px + w) && nat_le py y && nat_lt y (py + h))
    reach px w py h n row wide on is low = grind (arith, nat_tests)

    place_in : (px w py h : ℕ) → (nat_le px (left + x) && nat_lt (left + x) (px + w) && nat_le py y && nat_lt y (py + h)) ≡ true → left - px + (x - (px - left)) ≡ left + x - px
    place_in px w py h hit = grind (arith, nat_tests)

    column : (px w py h : ℕ) → (nat_le px (left + x) && nat_lt (left + x) (px + w) && nat_le py y && nat_lt y (py + h)) ≡ true → left + x - px < w
    column px w py h hit = grind (arith, nat_tests)

-- the first opaque pixels of a row are put into a row of the output, as far as it reaches
pub run_painted : (pixels old run : List Pixel) (start count size width : ℕ) → length pixels ≡ width → start < length old → count ≡ min width (length old - start)
    → size ≡ count → run ≡ map (shade Xrgb) (take (length (take size (drop start old))) pixels) → PaintsRun pixels start old (put_mid start size old run)
run_painted pixels old run start count size width wide on many exact made x d below =
    let cut : length (take size (drop start old)) ≡ count = simp (length-take, length-drop) (omega arith) in
    let is : run ≡ map (shade Xrgb) (take count pixels) = made ∙ ap (λ n. map (shade Xrgb) (take n pixels)) cut in
    let long : length run ≡ count = ap length is ∙ length-map (take count pixels) (shade Xrgb) ∙ simp length-take (omega arith) in
    let end : ℕ = start + count in
    let whole : end - start ≡ size = omega arith in
    ap (λ n. get_or (put_mid start n old run) x d) (sym whole)
    ∙ run_put start end old run (omega arith) (omega arith) (long ∙ sym exact ∙ sym whole) x d below
    ∙ ap (λ b. if b then get_or run (x - start) no_pixel else get_or old x d) (reach (length pixels) wide)
    ∙ choose (nat_le start x && nat_lt x (start + length pixels)) _ _ _ (λ hit.
    ap (λ r. get_or r (x - start) no_pixel) is
    ∙ get_or-map (shade Xrgb) (take count pixels) (x - start) no_pixel no_pixel (simp length-take (within (length pixels) wide hit))
    ∙ ap (shade Xrgb) (get_or-take count pixels (x - start) no_pixel (before (length pixels) wide hit)))
  where
    reach : (n : ℕ) → n ≡ width → (nat_le start x && nat_lt x (start + count)) ≡ (nat_le start x && nat_lt x (start + n))
    reach n same = grind (arith, nat_tests)

    before : (n : ℕ) → n ≡ width → (nat_le start x && nat_lt x (start + n)) ≡ true → x - start < count
    before n same hit = grind (arith, nat_tests)

    within : (n : ℕ) → n ≡ width → (nat_le start x && nat_lt x (start + n)) ≡ true → x - start < min count n
    within n same hit = grind (arith, nat_tests)

-- one more map is painted
pub maps_more : (surfaces : Surfaces) (maps : List (ℕ × Place)) (left y i width : ℕ) (e : ℕ × Place) (old new : List Pixel) → i < length maps → length old ≡ width
    → PaintsPart (get surfaces (get_or maps i e).0) (get_or maps i e).1 left y old new
    → ((x : ℕ) (d : Pixel) → x < width → get_or old x d ≡ composed surfaces (take i maps) (left + x) y)
    → (x : ℕ) (d : Pixel) → x < width → get_or new x d ≡ composed surfaces (take (i + 1) maps) (left + x) y
maps_more surfaces maps left y i width e old new below wide paints before x d within =
    paints x d (omega arith)
    ∙ ap (λ under. over (get surfaces (get_or maps i e).0) (get_or maps i e).1 (left + x) y under) (before x d within)
    ∙ sym (fold_more (λ under entry. over (get surfaces entry.0) entry.1 (left + x) y under) (zero_colour Xrgb) maps i e below)

-- all maps are painted
pub maps_all : (shown : Shown) (left y i count : ℕ) (out : List Pixel) → length shown.maps ≤ i → length out ≡ count
    → ((x : ℕ) (d : Pixel) → x < count → get_or out x d ≡ composed shown.surfaces (take i shown.maps) (left + x) y)
    → out ≡ output_part shown left y count
maps_all shown left y i count out end wide done =
    fill_from (λ x. composed shown.surfaces shown.maps x y) left out count no_pixel wide
    (λ x below. done x no_pixel below ∙ ap (λ maps. composed shown.surfaces maps (left + x) y) (take_all i shown.maps end))
  where
    -- a list whose elements are those of a function from a number on
    fill_from : (f : ℕ → Pixel) (a : ℕ) (xs : List Pixel) (n : ℕ) (d : Pixel) → length xs ≡ n → ((k : ℕ) → k < n → get_or xs k d ≡ f (a + k)) → xs ≡ map f (range_with_len a n)
    fill_from f a xs n d long each =
        ext_get_or d xs (map f (range_with_len a n)) (long ∙ sym (length-map-range_with_len f a n))
        (λ k below. each k (omega (arith, long, below)) ∙ sym (get_or-map-range_with_len f a n k (a + k) d (omega (arith, long, below)) refl))

-- a mapped surface is painted
pub map_painted : (surfaces table : Surfaces) (maps entries : List (ℕ × Place)) (i left y : ℕ) (entry : ℕ × Place) (picture : Option Picture) (old new : List Pixel)
    → table ≡ surfaces → entries ≡ maps → slice_get entries i ≡ Some entry → picture ≡ get table entry.0 → PaintsPart picture entry.1 left y old new
    → (e : ℕ × Place) → PaintsMap surfaces (get_or maps i e) left y old new
map_painted surfaces table maps entries i left y entry picture old new same same_maps found shows paints e =
    let is : entry ≡ get_or maps i e = sym (get_or_from_slice_get maps i entry e (ap (λ es. slice_get es i) (sym same_maps) ∙ found)) in
    subst (λ n. PaintsMap surfaces n left y old new) is
    (subst (λ p. PaintsPart p entry.1 left y old new) (shows ∙ ap (λ t. get t entry.0) same) paints)
