-- Within which ranges the numbers of a step lie that was read.
use Rattle.std.proofs.Common.{◌≡◌, ℕ, ◌≤◌, ◌<◌, ◌^◌, Bool, true, false, ◌&&◌, nat_le, if◌then◌else◌, List, [], ◌∷◌, length, Option, Some, None, IfSome, Result, Ok, Err, ℤ, pos, negsuc, refl, sym, ◌∙◌, subst, arith}
use Rattle.std.proofs.lemmas.Bool.{and_parts, leb-true}
use Rattle.std.specs.List.{AllByRecursion}
use Rattle.std.specs.Option.{ok_or}
use Rattle.std.specs.Result.{result_ok}
use Rattle.hex.specs.Hex.{decode_sized, IsBytes}
use Rattle.hex.proofs.HexLemmas.{decode_sized-ok, decode_sized-twice, decode_of-ok}
use Rattle.toml.specs.Data.{Data, Members}
use Rattle.gfx_base.specs.declared.geometry.Point.{Point}
use Rattle.gfx_base.specs.Geometry.{IsRect, IsPoint, IsPixel}
use Rattle.gfx_base.specs.Results.{each, Has}
use Rattle.gfx_base.proofs.ResultLemmas.{and_then_ok, chain, gives, never, check_ok, length-each}
use Rattle.gfx_surface.specs.declared.TheConstants.{MOST_SIDE}
use Rattle.gfx_surface_map.specs.declared.place.TheConstants.{MOST_OUTPUT_SIDE}
use Rattle.gfx_script.specs.declared.TheConstants.{MOST_RECTS, MOST_KEY, MOST_GLYPH}
use Rattle.gfx_script_text.specs.declared.TheConstants.{MOST_NUMBER}
use Rattle.gfx_script.specs.declared.error.ScriptKind.TheVariants.{Range}
use Rattle.gfx_script.specs.declared.step.Kind.{Kind}
use Rattle.gfx_script.specs.declared.step.Step.TheVariants.{Surface, Delete, Reset, Map, Fill, Copy, Keep, Show, Forget, Paint, Improve, Frame}
use Rattle.gfx_script_text.specs.Colour.{colour_of}
use Rattle.gfx_script_text.specs.Members.{within}
use Rattle.gfx_script_text.specs.Pictures.{number_of}
use Rattle.gfx_script_text.specs.Places.{coordinate_at, rect_of, rect_in, point_of, point_in, points_of}
use Rattle.gfx_script_text.specs.Words.{surface_of, delete_of, reset_of, map_of, fill_of, copy_between, copy_of, keep_of, show_of, forget_of, glyph_of, paint_with, paint_of, improve_of, frame_of, worded, step_of}
use Rattle.gfx_script.specs.Script.{IsStep}

-- both tests passed
pub range_passed : (least most n : ℕ) → (nat_le least n && nat_le n most) ≡ true → (least ≤ n) × (n ≤ most)
range_passed least most n passed =
    let parts = and_parts (nat_le least n) (nat_le n most) passed in
    (leb-true least n parts.0, leb-true n most parts.1)

if_ok : {A E : Type 0} (b : Bool) (x y : A) (e : E) → ◌≡◌ {A = Result A E} (if b then Ok x else Err e) (Ok y) → (b ≡ true) × (x ≡ y)
if_ok true x y e is = (refl, cc)
if_ok false x y e is = absurd cc

-- a number that was found within a range lies there
pub within_ok : (least most : ℕ) (z : ℤ) (n : ℕ) → within least most z ≡ Ok n → (least ≤ n) × (n ≤ most)
unfolding within
within_ok least most (pos k) n is =
    let found = if_ok (nat_le least k && nat_le k most) k n Range is in
    subst (λ m. (least ≤ m) × (m ≤ most)) found.1 (range_passed least most k found.0)
within_ok least most (negsuc k) n is = absurd cc

-- each item that comes out has what each step gives
pub each_has : {A B E : Type 0} (f : A → Result B E) (P : B → Type 0) → ((a : A) → Has (f a) P) → (xs : List A) (ys : List B) → each f xs ≡ Ok ys → AllByRecursion P ys
unfolding each
each_has f P one [] ys is = subst (AllByRecursion P) (let e : [] ≡ ys = cc in e) tt
each_has f P one (x ∷ xs) ys is =
    let first = and_then_ok (f x) _ ys is in
    let others = and_then_ok (each f xs) _ ys first.2 in
    let same : first.0 ∷ others.0 ≡ ys = let h = others.2 in cc in
    subst (AllByRecursion P) same ((one x).each first.0 first.1, each_has f P one xs others.0 others.1)

abbrev Fits : ℕ → Type 0
Fits n = n < 2 ^ 16

within-fits : (z : ℤ) → Has (within 0 MOST_NUMBER z) Fits
within-fits z = record { each = λ n is. let found = within_ok 0 MOST_NUMBER z n is in omega (arith, found.1) }

coordinate_at-fits : (at : ℕ) (items : List Data) → Has (coordinate_at at items) Fits
unfolding coordinate_at
coordinate_at-fits at items = chain _ _ Fits (λ number found. within-fits number)

rect_of-fits : (items : List Data) → Has (rect_of items) IsRect
unfolding rect_of
rect_of-fits items =
    chain _ _ IsRect (λ four passed.
    chain _ _ IsRect (λ left found_left.
    chain _ _ IsRect (λ top found_top.
    chain _ _ IsRect (λ right found_right.
    chain _ _ IsRect (λ bottom found_bottom.
    gives _ IsRect record {
      left = (coordinate_at-fits 0 items).each left found_left;
      top = (coordinate_at-fits 1 items).each top found_top;
      right = (coordinate_at-fits 2 items).each right found_right;
      bottom = (coordinate_at-fits 3 items).each bottom found_bottom;
    })))))

rect_in-fits : (value : Data) → Has (rect_in value) IsRect
unfolding rect_in
rect_in-fits value = chain _ _ IsRect (λ items found. rect_of-fits items)

point_of-fits : (items : List Data) → Has (point_of items) IsPoint
unfolding point_of
point_of-fits items =
    chain _ _ IsPoint (λ two passed.
    chain _ _ IsPoint (λ x found_x.
    chain _ _ IsPoint (λ y found_y.
    gives _ IsPoint record { x = (coordinate_at-fits 0 items).each x found_x; y = (coordinate_at-fits 1 items).each y found_y })))

point_in-fits : (value : Data) → Has (point_in value) IsPoint
unfolding point_in
point_in-fits value = chain _ _ IsPoint (λ items found. point_of-fits items)

-- there are some points, and each is one
abbrev ArePoints : List Point → Type 0
ArePoints points = (1 ≤ length points) × (length points ≤ MOST_RECTS) × AllByRecursion IsPoint points

points_of-fit : (values : List Data) → Has (points_of values) ArePoints
unfolding points_of
points_of-fit values =
    chain _ _ ArePoints (λ few are_few.
    record {
      each = λ points found.
          let count = range_passed 1 MOST_RECTS (length values) (check_ok Range _ are_few) in
          let same : length points ≡ length values = length-each point_in values points found in (
            subst (λ n. 1 ≤ n) (sym same) count.0,
            subst (λ n. n ≤ MOST_RECTS) (sym same) count.1,
            each_has point_in IsPoint point_in-fits values points found,
          );
    })

ok_of_some : {A E F : Type 0} (r : Result A E) (e : F) (x : A) → ok_or (result_ok r) e ≡ Ok x → r ≡ Ok x
ok_of_some (Ok y) e x is = cc
ok_of_some (Err y) e x is = absurd cc

decoded_bytes : (digits : List ℕ) (n : ℕ) (bytes : List ℕ) → decode_sized digits n ≡ Ok bytes → IsBytes bytes
decoded_bytes digits n bytes is =
    (decode_of-ok digits bytes (sym (decode_sized-twice digits n (decode_sized-ok digits n bytes is)) ∙ is)).3

colour_of-fits : (digits : List ℕ) → Has (colour_of digits) IsPixel
unfolding colour_of
colour_of-fits digits =
    chain _ _ IsPixel (λ bytes found.
    let fit : IsBytes bytes = decoded_bytes digits 4 bytes (ok_of_some (decode_sized digits 4) _ bytes found) in
    gives _ IsPixel record { b = fit 0; g = fit 1; r = fit 2; a = fit 3 })

surface_of-fits : (table : Members) → Has (surface_of table) IsStep
unfolding surface_of
surface_of-fits table =
    chain _ _ IsStep (λ known passed.
    chain _ _ IsStep (λ id found_id.
    chain _ _ IsStep (λ width found_width.
    chain _ _ IsStep (λ height found_height.
    chain _ _ IsStep (λ format found_format.
    chain _ _ IsStep (λ id_in id_fits.
    chain _ _ IsStep (λ width_in width_fits.
    chain _ _ IsStep (λ height_in height_fits.
    let wide = within_ok 1 MOST_SIDE width width_in width_fits in
    let high = within_ok 1 MOST_SIDE height height_in height_fits in
    gives (Surface id_in width_in height_in format) IsStep
    ((within-fits id).each id_in id_fits, wide.0, wide.1, high.0, high.1)))))))))

delete_of-fits : (table : Members) → Has (delete_of table) IsStep
unfolding delete_of
delete_of-fits table =
    chain _ _ IsStep (λ known passed.
    chain _ _ IsStep (λ id found_id.
    chain _ _ IsStep (λ id_in id_fits. gives (Delete id_in) IsStep ((within-fits id).each id_in id_fits))))

reset_of-fits : (table : Members) → Has (reset_of table) IsStep
unfolding reset_of
reset_of-fits table =
    chain _ _ IsStep (λ known passed.
    chain _ _ IsStep (λ width found_width.
    chain _ _ IsStep (λ height found_height.
    chain _ _ IsStep (λ width_in width_fits.
    chain _ _ IsStep (λ height_in height_fits.
    let wide = within_ok 1 MOST_OUTPUT_SIDE width width_in width_fits in
    let high = within_ok 1 MOST_OUTPUT_SIDE height height_in height_fits in
    gives (Reset width_in height_in) IsStep (wide.0, wide.1, high.0, high.1))))))

map_of-fits : (table : Members) → Has (map_of table) IsStep
unfolding map_of
map_of-fits table =
    chain _ _ IsStep (λ known passed.
    chain _ _ IsStep (λ id found_id.
    chain _ _ IsStep (λ x found_x.
    chain _ _ IsStep (λ y found_y.
    chain _ _ IsStep (λ id_in id_fits.
    chain _ _ IsStep (λ x_in x_fits.
    chain _ _ IsStep (λ y_in y_fits.
    let across = within_ok 0 MOST_OUTPUT_SIDE x x_in x_fits in
    let down = within_ok 0 MOST_OUTPUT_SIDE y y_in y_fits in
    gives (Map id_in x_in y_in) IsStep ((within-fits id).each id_in id_fits, across.1, down.1))))))))

fill_of-fits : (table : Members) → Has (fill_of table) IsStep
unfolding fill_of
fill_of-fits table =
    chain _ _ IsStep (λ known passed.
    chain _ _ IsStep (λ id found_id.
    chain _ _ IsStep (λ digits found_digits.
    chain _ _ IsStep (λ values found_values.
    chain _ _ IsStep (λ numbers are_numbers.
    chain _ _ IsStep (λ id_in id_fits.
    chain _ _ IsStep (λ few are_few.
    chain _ _ IsStep (λ rects rects_fit.
    chain _ _ IsStep (λ colour colour_fits.
    let count = range_passed 1 MOST_RECTS (length values) (check_ok Range _ are_few) in
    let same : length rects ≡ length values = length-each rect_in values rects rects_fit in
    gives (Fill id_in colour rects) IsStep (
      (within-fits id).each id_in id_fits,
      (colour_of-fits digits).each colour colour_fits,
      subst (λ n. 1 ≤ n) (sym same) count.0,
      subst (λ n. n ≤ MOST_RECTS) (sym same) count.1,
      each_has rect_in IsRect rect_in-fits values rects rects_fit,
    ))))))))))

copy_between-fits : (from to : ℤ) (corners values : List Data) → Has (copy_between from to corners values) IsStep
unfolding copy_between
copy_between-fits from to corners values =
    chain _ _ IsStep (λ from_in from_fits.
    chain _ _ IsStep (λ to_in to_fits.
    chain _ _ IsStep (λ rect rect_fits.
    chain _ _ IsStep (λ points points_fit.
    let fit : ArePoints points = (points_of-fit values).each points points_fit in
    gives (Copy from_in to_in rect points) IsStep (
      (within-fits from).each from_in from_fits,
      (within-fits to).each to_in to_fits,
      (rect_of-fits corners).each rect rect_fits,
      fit.0,
      fit.1,
      fit.2,
    )))))

copy_of-fits : (table : Members) → Has (copy_of table) IsStep
unfolding copy_of
copy_of-fits table =
    chain _ _ IsStep (λ known passed.
    chain _ _ IsStep (λ from found_from.
    chain _ _ IsStep (λ to found_to.
    chain _ _ IsStep (λ corners found_corners.
    chain _ _ IsStep (λ values found_values. copy_between-fits from to corners values)))))

within_key : (z : ℤ) → Has (within 0 MOST_KEY z) (λ key. key ≤ MOST_KEY)
within_key z = record { each = λ key is. (within_ok 0 MOST_KEY z key is).1 }

keep_of-fits : (table : Members) → Has (keep_of table) IsStep
unfolding keep_of
keep_of-fits table =
    chain _ _ IsStep (λ known passed.
    chain _ _ IsStep (λ id found_id.
    chain _ _ IsStep (λ key found_key.
    chain _ _ IsStep (λ corners found_corners.
    chain _ _ IsStep (λ id_in id_fits.
    chain _ _ IsStep (λ key_in key_fits.
    chain _ _ IsStep (λ rect rect_fits.
    gives (Keep id_in key_in rect) IsStep (
      (within-fits id).each id_in id_fits,
      (within_key key).each key_in key_fits,
      (rect_of-fits corners).each rect rect_fits,
    ))))))))

show_of-fits : (table : Members) → Has (show_of table) IsStep
unfolding show_of
show_of-fits table =
    chain _ _ IsStep (λ known passed.
    chain _ _ IsStep (λ key found_key.
    chain _ _ IsStep (λ to found_to.
    chain _ _ IsStep (λ values found_values.
    chain _ _ IsStep (λ key_in key_fits.
    chain _ _ IsStep (λ to_in to_fits.
    chain _ _ IsStep (λ points points_fit.
    let fit : ArePoints points = (points_of-fit values).each points points_fit in
    gives (Show key_in to_in points) IsStep (
      (within_key key).each key_in key_fits,
      (within-fits to).each to_in to_fits,
      fit.0,
      fit.1,
      fit.2,
    ))))))))

forget_of-fits : (table : Members) → Has (forget_of table) IsStep
unfolding forget_of
forget_of-fits table =
    chain _ _ IsStep (λ known passed.
    chain _ _ IsStep (λ key found_key.
    chain _ _ IsStep (λ key_in key_fits. gives (Forget key_in) IsStep ((within_key key).each key_in key_fits))))

-- the index of a glyph, where there is one, is within its range
abbrev IsGlyphIndex : Option ℕ → Type 0
IsGlyphIndex glyph = IfSome glyph (λ index. index ≤ MOST_GLYPH)

glyph_of-fits : (number : Option ℤ) → Has (glyph_of number) IsGlyphIndex
unfolding glyph_of
glyph_of-fits None = gives None IsGlyphIndex tt
glyph_of-fits (Some number) =
    chain _ _ IsGlyphIndex (λ index index_fits. gives (Some index) IsGlyphIndex (within_ok 0 MOST_GLYPH number index index_fits).1)

paint_with-fits : (id : ℤ) (picture : ℕ) (place : List Data) (kind : Option Kind) (glyph : Option ℤ) → Has (paint_with id picture place kind glyph) IsStep
unfolding paint_with
paint_with-fits id picture place kind glyph =
    chain _ _ IsStep (λ id_in id_fits.
    chain _ _ IsStep (λ at at_fits.
    chain _ _ IsStep (λ glyph_in glyph_fits.
    gives (Paint id_in picture at kind glyph_in) IsStep (
      (within-fits id).each id_in id_fits,
      (point_of-fits place).each at at_fits,
      (glyph_of-fits glyph).each glyph_in glyph_fits,
    ))))

paint_of-fits : (names : List (List ℕ)) (table : Members) → Has (paint_of names table) IsStep
unfolding paint_of
paint_of-fits names table =
    chain _ _ IsStep (λ known passed.
    chain _ _ IsStep (λ id found_id.
    chain _ _ IsStep (λ name found_name.
    chain _ _ IsStep (λ place found_place.
    chain _ _ IsStep (λ kind found_kind.
    chain _ _ IsStep (λ glyph found_glyph. paint_with-fits id (number_of names name) place kind glyph))))))

improve_of-fits : (table : Members) → Has (improve_of table) IsStep
unfolding improve_of
improve_of-fits table =
    chain _ _ IsStep (λ known passed.
    chain _ _ IsStep (λ id found_id.
    chain _ _ IsStep (λ id_in id_fits. gives (Improve id_in) IsStep ((within-fits id).each id_in id_fits))))

frame_of-fits : (table : Members) → Has (frame_of table) IsStep
unfolding frame_of
frame_of-fits table = chain _ _ IsStep (λ known passed. gives Frame IsStep tt)

pub if_has : {A E : Type 0} (b : Bool) (x y : Result A E) (P : A → Type 0) → Has x P → Has y P → Has (if b then x else y) P
if_has true x y P one other = one
if_has false x y P one other = other

worded-fits : (names : List (List ℕ)) (word : List ℕ) (table : Members) → Has (worded names word table) IsStep
unfolding worded
worded-fits names word table =
    if_has _ _ _ IsStep (surface_of-fits table)
    (if_has _ _ _ IsStep (delete_of-fits table)
    (if_has _ _ _ IsStep (reset_of-fits table)
    (if_has _ _ _ IsStep (map_of-fits table)
    (if_has _ _ _ IsStep (fill_of-fits table)
    (if_has _ _ _ IsStep (copy_of-fits table)
    (if_has _ _ _ IsStep (keep_of-fits table)
    (if_has _ _ _ IsStep (show_of-fits table)
    (if_has _ _ _ IsStep (forget_of-fits table)
    (if_has _ _ _ IsStep (paint_of-fits names table)
    (if_has _ _ _ IsStep (improve_of-fits table) (if_has _ _ _ IsStep (frame_of-fits table) (never _ IsStep))))))))))))

-- a step that was read has its numbers within their ranges
pub step_of-fits : (names : List (List ℕ)) (value : Data) → Has (step_of names value) IsStep
unfolding step_of
step_of-fits names value = chain _ _ IsStep (λ table found. chain _ _ IsStep (λ word found_word. worded-fits names word table))
