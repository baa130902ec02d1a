-- The colours of a picture, counted row by row.
use Rattle.std.proofs.Common.{◌≡◌, ℕ, ◌+◌, ◌*◌, ◌<◌, ◌≤◌, true, false, List, [], ◌∷◌, ◌++◌, length, drop, get_or, sym, ap, ◌∙◌, arith}
use Rattle.std.specs.Prelude.{min, ◌==◌}
use Rattle.std.proofs.lemmas.List.{drop_more, drop_all, length-map, get_or-map}
use Rattle.std.proofs.lemmas.Nat.{mul-add-lt}
use Rattle.std.proofs.Math.Nat.{mul_comm}
use Rattle.std.proofs.lemmas.Bool.Decides.{nat_tests}
use Rattle.gfx_base.specs.declared.pixel.Rgb.{Rgb}
use Rattle.gfx_base.specs.Colour.{colour_of, has_colour, with_colour, with_colours, colours_of}
use Rattle.gfx_base.proofs.Palettes.{longer_all, with_held, with_new, has_with}
use Rattle.gfx_script.specs.Patterns.{pixel_of}
use Rattle.gfx_script.specs.declared.picture.Picture.{Picture}
use Rattle.gfx_surface.specs.Picture.{no_pixel, drawn}
use Rattle.gfx_surface.proofs.PictureLemmas.{length-drawn, pixel_at-drawn}
use Rattle.gfx_chooser.specs.Facts.{colours_in, colours_counted}
use Rattle.gfx_chooser.specs.declared.facts.TheConstants.{MOST_COLOURS}

-- the colours of a picture are found up to a place: those behind it make them all
abbrev pub Finds : Picture → List Rgb → ℕ → Type 0
Finds picture colours at = with_colours colours (drop at (colours_in picture)) ≡ colours_of (colours_in picture)

pub length-colours_in : (picture : Picture) → length (colours_in picture) ≡ picture.width * picture.height
unfolding colours_in
length-colours_in picture =
    length-map (drawn picture.width picture.height (pixel_of picture)) colour_of ∙ length-drawn picture.width picture.height (pixel_of picture)

-- the place of a pixel is among those of its picture
pub place_within : (picture : Picture) (x y : ℕ) → x < picture.width → y < picture.height → y * picture.width + x < length (colours_in picture)
place_within picture x y column row =
    omega (arith, mul-add-lt y picture.width x picture.height row column, length-colours_in picture, mul_comm picture.width picture.height)

-- the colour of a pixel
pub colour_at : (picture : Picture) (x y : ℕ) (other : Rgb) → x < picture.width → y < picture.height
    → get_or (colours_in picture) (y * picture.width + x) other ≡ colour_of (pixel_of picture x y)
unfolding colours_in
colour_at picture x y other column row =
    let long : length (drawn picture.width picture.height (pixel_of picture)) ≡ picture.width * picture.height = length-drawn picture.width picture.height (pixel_of picture) in
    let within : y * picture.width + x < picture.width * picture.height = mul-add-lt y picture.width x picture.height row column in
    let inside : y * picture.width + x < length (drawn picture.width picture.height (pixel_of picture)) = omega (arith, within, long, mul_comm picture.width picture.height) in
    get_or-map colour_of (drawn picture.width picture.height (pixel_of picture)) (y * picture.width + x) no_pixel other inside
    ∙ ap colour_of (pixel_at-drawn picture.width picture.height x y (pixel_of picture) no_pixel column row)

-- the pixels from a place on are its own and those behind it
pub colours_from : (picture : Picture) (x y : ℕ) → x < picture.width → y < picture.height
    → drop (y * picture.width + x) (colours_in picture) ≡ colour_of (pixel_of picture x y) ∷ drop (y * picture.width + x + 1) (colours_in picture)
colours_from picture x y column row =
    drop_more (colours_in picture) (y * picture.width + x) (colour_of (pixel_of picture x y)) (place_within picture x y column row)
    ∙ ap (λ z. z ∷ drop (y * picture.width + x + 1) (colours_in picture)) (colour_at picture x y (colour_of (pixel_of picture x y)) column row)

-- the colour of one more pixel is put in
finds_next : (picture : Picture) (x y : ℕ) (colours new : List Rgb) → x < picture.width → y < picture.height → new ≡ with_colour colours (colour_of (pixel_of picture x y))
    → Finds picture colours (y * picture.width + x) → Finds picture new (y * picture.width + (x + 1))
unfolding with_colours
finds_next picture x y colours new column row put finds =
    let behind : y * picture.width + (x + 1) ≡ y * picture.width + x + 1 = omega arith in
    ap (λ z. with_colours z (drop (y * picture.width + (x + 1)) (colours_in picture))) put
    ∙ ap (λ k. with_colours (with_colour colours (colour_of (pixel_of picture x y))) (drop k (colours_in picture))) behind
    ∙ ap (with_colours colours) (sym (colours_from picture x y column row))
    ∙ finds

-- a colour that is there, and one that is not
pub finds_held : (picture : Picture) (x y : ℕ) (colour : Rgb) (colours : List Rgb) → x < picture.width → y < picture.height → colour ≡ colour_of (pixel_of picture x y)
    → has_colour colours colour ≡ true → Finds picture colours (y * picture.width + x) → Finds picture colours (y * picture.width + (x + 1))
finds_held picture x y colour colours column row is held finds =
    finds_next picture x y colours colours column row (sym (with_held colours colour held) ∙ ap (with_colour colours) is) finds

pub finds_new : (picture : Picture) (x y : ℕ) (colour : Rgb) (colours new : List Rgb) → x < picture.width → y < picture.height → colour ≡ colour_of (pixel_of picture x y)
    → has_colour colours colour ≡ false → new ≡ colours ++ colour ∷ [] → Finds picture colours (y * picture.width + x) → Finds picture new (y * picture.width + (x + 1))
finds_new picture x y colour colours new column row is lacks put finds =
    finds_next picture x y colours new column row (put ∙ sym (with_new colours colour lacks) ∙ ap (with_colour colours) is) finds

-- a colour that was put in is there
pub has_new : (colours new : List Rgb) (colour : Rgb) → has_colour colours colour ≡ false → new ≡ colours ++ colour ∷ [] → has_colour new colour ≡ true
has_new colours new colour lacks put = ap (λ z. has_colour z colour) (put ∙ sym (with_new colours colour lacks)) ∙ has_with colours colour

-- all rows were seen
pub counts_all : (picture : Picture) (y : ℕ) (colours : List Rgb) → y ≡ picture.height → length colours ≤ MOST_COLOURS
    → Finds picture colours (y * picture.width) → length colours ≡ colours_counted picture
unfolding with_colours
counts_all picture y colours all few finds =
    let area : picture.width * picture.height ≡ y * picture.width = mul_comm picture.width picture.height ∙ ap (λ n. n * picture.width) (sym all) in
    let none : drop (y * picture.width) (colours_in picture) ≡ [] = drop_all (y * picture.width) (colours_in picture) (omega (arith, length-colours_in picture, area)) in
    let same : length colours ≡ length (colours_of (colours_in picture)) = ap length (ap (with_colours colours) (sym none) ∙ finds) in
    omega (arith, same, few)

-- there are too many to count
pub counts_full : (picture : Picture) (at : ℕ) (colours : List Rgb) → length colours ≡ MOST_COLOURS → Finds picture colours at → MOST_COLOURS ≡ colours_counted picture
counts_full picture at colours full finds =
    let more : length colours ≤ length (with_colours colours (drop at (colours_in picture))) = longer_all colours (drop at (colours_in picture)) in
    let same : length (with_colours colours (drop at (colours_in picture))) ≡ length (colours_of (colours_in picture)) = ap length finds in
    omega (arith, more, same, full)

-- what is not full has room
pub not_full : (count most : ℕ) → (count == most) ≡ false → count ≤ most → count < most
not_full count most differs within = grind (arith, nat_tests)
