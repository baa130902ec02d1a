-- Columns that are met one after another.
use Rattle.std.proofs.Common.{◌≡◌, ℕ, ◌+◌, ◌-◌, ◌*◌, ◌<◌, ◌≤◌, min, List, [], ◌∷◌, ◌++◌, length, get_or, zero, suc, refl, sym, ap, ◌∙◌, arith}
use Rattle.std.specs.List.{fold}
use Rattle.std.proofs.lemmas.List.Sums.{fold-append}
use Rattle.std.proofs.Math.Nat.{mul_comm}
use Rattle.gfx_base.specs.Colour.{colour_of}
use Rattle.gfx_base.specs.declared.pixel.Rgb.{Rgb}
use Rattle.gfx_chooser.proofs.Counting.{colour_at}
use Rattle.gfx_chooser.specs.Facts.{colours_in}
use Rattle.gfx_clear_bands.proofs.Outputs.{columns_left, columns_end}
use Rattle.gfx_clear_bands.specs.Writing.{Element, black, column, columns_of, head_bytes, band_elements, elements, elements_within}
use Rattle.gfx_clear_bands.specs.Writing.Element.{Head, Column}
use Rattle.gfx_clear_store.specs.declared.store.TheConstants.{MOST_BAR}
use Rattle.gfx_script.specs.Patterns.{pixel_of}
use Rattle.gfx_script.specs.declared.picture.Picture.{Picture}
use Rattle.gfx_estimate.specs.Bands.{bands_size, no_columns, with_element}
use Rattle.gfx_estimate.specs.declared.columns.Columns.{Columns}

-- once these are met
abbrev pub met : Columns → List Element → Columns
met old elements = fold with_element old elements

-- all of these are met once the left are
abbrev pub MeetsAll : List Element → List Element → Columns → Columns → Type 0
MeetsAll all left old new = met new left ≡ met old all

-- the head of a band
head_length : (width top rows : ℕ) (background : Rgb) → length (head_bytes width top rows background) ≡ 11
unfolding head_bytes
head_length width top rows background = omega arith

pub head_met : (width top rows : ℕ) (background : Rgb) (old : Columns)
    → record { marks = old.marks; bytes = old.bytes + 11 } ≡ with_element old (Head (head_bytes width top rows background))
unfolding with_element
head_met width top rows background old = ap (λ n. record { marks = old.marks; bytes = old.bytes + n }) (sym (head_length width top rows background))

-- the background of a band
abbrev pub background_of : Picture → ℕ → Rgb
background_of picture top = get_or (colours_in picture) (top * picture.width) black

-- the columns of a band from this one on
abbrev pub columns_from : Picture → ℕ → ℕ → ℕ → List Element
columns_from picture top rows x =
    columns_of picture.width (colours_in picture) (background_of picture top) rows (top * picture.width + x) (picture.width - x)

pub columns_start : (picture : Picture) (top rows : ℕ) (old : Columns)
    → MeetsAll (band_elements picture.width (colours_in picture) top rows) (columns_from picture top rows 0) old record { marks = old.marks; bytes = old.bytes + 11 }
columns_start picture top rows old =
    let at : top * picture.width + 0 ≡ top * picture.width = omega arith in
    let n : picture.width - 0 ≡ picture.width = omega arith in
    λ i. met
    (head_met picture.width top rows (background_of picture top) old i)
    (columns_of picture.width (colours_in picture) (background_of picture top) rows (at i) (n i))

-- one more
pub columns_next : (picture : Picture) (top rows x : ℕ) (all : List Element) (background : Rgb) (pixels : List Rgb) (old now new : Columns) → x < picture.width
    → background ≡ background_of picture top → pixels ≡ column picture.width (colours_in picture) (top * picture.width + x) rows
    → new ≡ with_element now (Column background pixels) → MeetsAll all (columns_from picture top rows x) old now → MeetsAll all (columns_from picture top rows (x + 1)) old new
columns_next picture top rows x all background pixels old now new less on is one meets =
    let first : Element = Column (background_of picture top) (column picture.width (colours_in picture) (top * picture.width + x) rows) in
    let here : new ≡ met now (first ∷ []) = one ∙ (λ i. with_element now (Column (on i) (is i))) in
    ap (λ z. met z (columns_from picture top rows (x + 1))) here
    ∙ sym (fold-append with_element now (first ∷ []) (columns_from picture top rows (x + 1)))
    ∙ ap (met now) (sym (columns_left picture.width (colours_in picture) (background_of picture top) rows (top * picture.width) x less))
    ∙ meets

pub columns_done : (picture : Picture) (top rows x : ℕ) (all : List Element) (old new : Columns) → picture.width ≤ x
    → MeetsAll all (columns_from picture top rows x) old new → new ≡ met old all
columns_done picture top rows x all old new past meets =
    sym (ap (met new) (columns_end picture.width (colours_in picture) (background_of picture top) rows (top * picture.width + x) x past)) ∙ meets

-- the background is the colour of the first pixel
pub background_is : (picture : Picture) (top : ℕ) (background : Rgb) → 0 < picture.width → top < picture.height → background ≡ colour_of (pixel_of picture 0 top)
    → background ≡ background_of picture top
background_is picture top background column row is =
    let at : top * picture.width + 0 ≡ top * picture.width = omega arith in
    is ∙ sym (colour_at picture 0 top black column row) ∙ ap (λ k. get_or (colours_in picture) k black) at

-- a pixel of a column
pub pixel_is : (picture : Picture) (x top row : ℕ) (pixel : Rgb) → x < picture.width → top + row < picture.height → pixel ≡ colour_of (pixel_of picture x (top + row))
    → pixel ≡ get_or (colours_in picture) (top * picture.width + x + picture.width * row) black
pixel_is picture x top row pixel column below is =
    let place : (top + row) * picture.width + x ≡ top * picture.width + x + picture.width * row = omega (arith, mul_comm picture.width row) in
    is ∙ sym (colour_at picture x (top + row) black column below) ∙ ap (λ k. get_or (colours_in picture) k black) place

-- bands -----------------------------------------------------------------------------------------------------

-- the bands from this row on are left
pub record BandsLeft (picture : Picture) (top : ℕ) (old new : Columns) : Type 0 where
  pub most : ℕ
  pub enough : picture.height - top ≤ most
  pub meets : MeetsAll (elements picture.width picture.height (colours_in picture)) (elements_within most picture.width (colours_in picture) top (picture.height - top)) old new

pub bytes_none : (columns : Columns) → columns ≡ no_columns → columns.bytes ≡ 0
unfolding no_columns
bytes_none columns e = ap (λ z. z.bytes) e

pub bands_start : (picture : Picture) (old : Columns) → BandsLeft picture 0 old old
bands_start picture old =
    let whole : picture.height - 0 ≡ picture.height = omega arith in
    record { most = picture.height; enough = omega arith; meets = ap (λ n. met old (elements_within picture.height picture.width (colours_in picture) 0 n)) whole }

some_within : (most width : ℕ) (pixels : List Rgb) (top left rows : ℕ) → 0 < left → rows ≡ min MOST_BAR left
    → elements_within (suc most) width pixels top left ≡ band_elements width pixels top rows ++ elements_within most width pixels (top + rows) (left - rows)
unfolding elements_within
some_within most width pixels top zero rows some e = absurd (omega arith)
some_within most width pixels top (suc left) rows some e = ap (λ z. band_elements width pixels top z ++ elements_within most width pixels (top + z) (suc left - z)) (sym e)

none_within : (most width : ℕ) (pixels : List Rgb) (top left : ℕ) → left ≡ 0 → elements_within most width pixels top left ≡ []
unfolding elements_within
none_within zero width pixels top left e = refl
none_within (suc most) width pixels top zero e = refl
none_within (suc most) width pixels top (suc left) e = absurd (omega arith)

next_by : (picture : Picture) (top rows most : ℕ) (old now new : Columns) → top < picture.height → rows ≡ min MOST_BAR (picture.height - top) → picture.height - top ≤ most
    → MeetsAll (elements picture.width picture.height (colours_in picture)) (elements_within most picture.width (colours_in picture) top (picture.height - top)) old now
    → new ≡ met now (band_elements picture.width (colours_in picture) top rows) → BandsLeft picture (top + rows) old new
next_by picture top rows zero old now new less e enough meets one = absurd (omega arith)
next_by picture top rows (suc most) old now new less e enough meets one =
    let some : 1 ≤ rows = omega (arith, e) in
    let rest : picture.height - top - rows ≡ picture.height - (top + rows) = omega arith in
    let left : List Element = elements_within most picture.width (colours_in picture) (top + rows) (picture.height - (top + rows)) in
    let parts : elements_within (suc most) picture.width (colours_in picture) top (picture.height - top) ≡ band_elements picture.width (colours_in picture) top rows ++ left =
    some_within most picture.width (colours_in picture) top (picture.height - top) rows (omega arith) e
    ∙ ap (λ n. band_elements picture.width (colours_in picture) top rows ++ elements_within most picture.width (colours_in picture) (top + rows) n) rest in
    record {
      most = most;
      enough = omega arith;
      meets = ap (λ z. met z left) one ∙ sym (fold-append with_element now (band_elements picture.width (colours_in picture) top rows) left) ∙ ap (met now) (sym parts) ∙ meets;
    }

-- one band more
pub bands_next : (picture : Picture) (top rows : ℕ) (old now new : Columns) → top < picture.height → rows ≡ min MOST_BAR (picture.height - top) → BandsLeft picture top old now
    → new ≡ met now (band_elements picture.width (colours_in picture) top rows) → BandsLeft picture (top + rows) old new
bands_next picture top rows old now new less e left one = next_by picture top rows left.most old now new less e left.enough left.meets one

pub bands_done : (picture : Picture) (top : ℕ) (old new : Columns) → picture.height ≤ top → BandsLeft picture top old new
    → new ≡ met old (elements picture.width picture.height (colours_in picture))
bands_done picture top old new past left =
    sym (ap (met new) (none_within left.most picture.width (colours_in picture) top (picture.height - top) (omega arith))) ∙ left.meets

pub bands_all : (picture : Picture) (top : ℕ) (new : Columns) → picture.height ≤ top → BandsLeft picture top no_columns new → 14 + new.bytes ≡ bands_size picture
unfolding bands_size
bands_all picture top new past left = ap (λ z. 14 + z.bytes) (bands_done picture top no_columns new past left)
