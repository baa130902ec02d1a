-- Cells that are put back, where no other cell was drawn on.
use Rattle.std.proofs.Common.{zero, suc, IsTrue, length, ◌≡◌, refl, sym, ap, ◌∙◌, subst, true, false, Bool, ◌&&◌, nat_eq, if◌then◌else◌, ◌⊎◌, inl, inr, ℕ, ◌+◌, ◌*◌, ◌/◌, ◌%◌, ◌<◌, List, [], ◌∷◌, ◌++◌, map, get_or, arith}
use Rattle.std.proofs.lemmas.Bool.Decides.{nat_tests}
use Rattle.std.proofs.lemmas.List.{get_or-map, length-map}
use Rattle.std.specs.List.{Contains}
use Rattle.gfx_base.specs.declared.geometry.Cell.{Cell}
use Rattle.gfx_base.specs.declared.pixel.Pixel.{Pixel}
use Rattle.gfx_surface.specs.declared.kept_cell.KeptCell.{KeptCell}
use Rattle.gfx_surface.specs.Picture.{Picture, IsPicture, pixel_at, redrawn, shade, no_pixel}
use Rattle.gfx_surface.specs.Kept.{ChangesOnly, IsKept, IsKeptOf, KeepsCell, lies_on, put_back}
use Rattle.gfx_surface.specs.Views.{IsCellOf, with_cell}
use Rattle.gfx_surface.proofs.PictureLemmas.{drawn_alike, pixel_at-drawn, redrawn_self, shade-pixel_at}
use Rattle.gfx_surface.proofs.ViewLemmas.{cell_is_picture, with_cell-format, with_cell-height, with_cell-width}

-- the place lies in the cell
abbrev in_it : Cell → ℕ → ℕ → Bool
in_it cell x y = nat_eq (x / 64) cell.x && nat_eq (y / 64) cell.y

-- the pixel for a place of a cell
abbrev cell_pixel : Picture → List Pixel → ℕ → ℕ → Pixel
cell_pixel picture pixels x y = shade picture.format (get_or pixels (y % 64 * 64 + x % 64) no_pixel)

-- a choice between two that are one
either : (b : Bool) (p q r : Pixel) → (b ≡ true → p ≡ r) → (b ≡ false → q ≡ r) → (if b then p else q) ≡ r
either true p q r one other = one refl
either false p q r one other = other refl

otherwise : (b : Bool) (one p q : Pixel) → (b ≡ false → p ≡ q) → (if b then one else p) ≡ (if b then one else q)
otherwise true one p q same = refl
otherwise false one p q same = same refl

-- a cell that doesn't lie on a picture leaves it as it is
pub beyond : (picture : Picture) (cell : Cell) (pixels : List Pixel) → IsPicture picture → lies_on picture.width picture.height cell ≡ false
    → picture ≡ with_cell picture cell pixels
unfolding with_cell
beyond picture cell pixels shape out =
    sym (redrawn_self picture (λ x y. if in_it cell x y then cell_pixel picture pixels x y else pixel_at picture x y) shape
    (λ x y column row. ap (λ b. if b then cell_pixel picture pixels x y else pixel_at picture x y) (apart x y column row)))
  where
    apart : (x y : ℕ) → x < picture.width → y < picture.height → in_it cell x y ≡ false
    apart x y column row = grind (arith, nat_tests, out)

-- a cell as it stood is put back
as_it_stood : (cell : Cell) (now later : Picture) (pixels : List Pixel) → IsPicture now → IsCellOf now cell pixels → ChangesOnly cell now later
    → with_cell later cell pixels ≡ now
unfolding with_cell
as_it_stood cell now later pixels shape stood only =
    ap (λ p. with_cell p cell pixels) only.picture
    ∙ redrawn_self now _ shape (λ x y column row.
    either (in_it cell x y) _ _ (pixel_at now x y)
    (λ hit.
    let is_x : x / 64 ≡ cell.x = column_is x y hit in
    let is_y : y / 64 ≡ cell.y = row_is x y hit in
    let here : 64 * cell.x + x % 64 ≡ x = omega (arith, is_x) in
    let there : 64 * cell.y + y % 64 ≡ y = omega (arith, is_y) in
    ap (shade now.format) (stood.each (x % 64) (y % 64) (omega (arith, column, is_x)) (omega (arith, row, is_y)) ∙ (λ i. pixel_at now (here i) (there i)))
    ∙ shade-pixel_at now x y shape column row)
    (λ miss. pixel_at-drawn now.width now.height x y only.pixels no_pixel column row ∙ only.outside x y column row miss))
  where
    column_is : (x y : ℕ) → in_it cell x y ≡ true → x / 64 ≡ cell.x
    column_is x y hit = grind (arith, nat_tests, hit)

    row_is : (x y : ℕ) → in_it cell x y ≡ true → y / 64 ≡ cell.y
    row_is x y hit = grind (arith, nat_tests, hit)

-- nothing is drawn
pub only_self : (cell : Cell) (now : Picture) → IsPicture now → ChangesOnly cell now now
only_self cell now shape = record {
  pixels = pixel_at now;
  picture = sym (redrawn_self now (pixel_at now) shape (λ x y column row. refl));
  outside = λ x y column row out. refl;
}

-- the whole cell is drawn
pub only_drawn : (cell : Cell) (now : Picture) (pixels : List Pixel) → ChangesOnly cell now (with_cell now cell pixels)
unfolding with_cell
only_drawn cell now pixels = record {
  pixels = λ x y. if in_it cell x y then cell_pixel now pixels x y else pixel_at now x y;
  picture = refl;
  outside = λ x y column row out. ap (λ b. if b then cell_pixel now pixels x y else pixel_at now x y) out;
}

-- it is drawn on twice
pub only_then : (cell : Cell) (first now later : Picture) → ChangesOnly cell first now → ChangesOnly cell now later → ChangesOnly cell first later
only_then cell first now later one other = record {
  pixels = other.pixels;
  picture = other.picture ∙ ap (λ p. redrawn p other.pixels) one.picture;
  outside = λ x y column row out.
      moved x y column row out
      ∙ pixel_at-drawn first.width first.height x y one.pixels no_pixel column row ∙ one.outside x y column row out;
}
  where
    moved : (x y : ℕ) → x < first.width → y < first.height → in_it cell x y ≡ false → other.pixels x y ≡ pixel_at (redrawn first one.pixels) x y
    moved x y column row out =
        subst (λ (q : Picture). (x < q.width) → (y < q.height) → other.pixels x y ≡ pixel_at q x y) one.picture (λ column row. other.outside x y column row out) column row

-- what was drawn on one cell alone stays so, whatever cell is put back
pub only_cell : (cell other : Cell) (now later : Picture) (pixels : List Pixel) → ChangesOnly cell now later
    → ChangesOnly cell (with_cell now other pixels) (with_cell later other pixels)
unfolding with_cell
only_cell cell other now later pixels only = record {
  pixels = λ x y. if in_it other x y then cell_pixel now pixels x y else pixel_at (redrawn now only.pixels) x y;
  picture = ap (λ p. with_cell p other pixels) only.picture;
  outside = λ x y column row out.
      ap (λ p. if in_it other x y then cell_pixel now pixels x y else p)
      (pixel_at-drawn now.width now.height x y only.pixels no_pixel column row ∙ only.outside x y column row out)
      ∙ sym (pixel_at-drawn now.width now.height x y (λ i j. if in_it other i j then cell_pixel now pixels i j else pixel_at now i j) no_pixel column row);
}

pub only_back : (log : List KeptCell) (cell : Cell) (now later : Picture) → ChangesOnly cell now later → ChangesOnly cell (put_back log now) (put_back log later)
only_back [] cell now later only = only
only_back (kept ∷ log) cell now later only = only_cell cell kept.cell (put_back log now) (put_back log later) kept.pixels.items (only_back log cell now later only)

-- a cell that is put back is the same, whatever was drawn on it
cell_alike : (cell : Cell) (now later : Picture) (pixels : List Pixel) → ChangesOnly cell now later → with_cell now cell pixels ≡ with_cell later cell pixels
unfolding with_cell
cell_alike cell now later pixels only =
    ap (λ (all : List Pixel). record now { pixels = all })
    (drawn_alike now.width now.height _ _ (λ x y column row.
    otherwise (in_it cell x y) (cell_pixel now pixels x y) (pixel_at now x y) (pixel_at (redrawn now only.pixels) x y)
    (λ out. sym (pixel_at-drawn now.width now.height x y only.pixels no_pixel column row ∙ only.outside x y column row out))))
    ∙ sym (ap (λ p. with_cell p cell pixels) only.picture)

-- a cell of a list is its first, or one of the others
first_or_other : (first x : Cell) (others : List Cell) → Contains (first ∷ others) x → (first ≡ x) ⊎ Contains others x
first_or_other first x others (zero, below, is) = inl is
first_or_other first x others (suc i, below, is) = inr (i, omega (arith, below), is)

back_alike : (log : List KeptCell) (cell : Cell) (now later : Picture) → ChangesOnly cell now later → IsKept cell log → put_back log now ≡ put_back log later
back_alike [] cell now later only (i, below, is) = absurd (omega (arith, below))
back_alike (kept ∷ log) cell now later only there =
    by (first_or_other kept.cell cell (map (λ other. other.cell) log) there) (λ further. back_alike log cell now later only further)
  where
    by : ((kept.cell ≡ cell) ⊎ IsKept cell log) → (IsKept cell log → put_back log now ≡ put_back log later) → put_back (kept ∷ log) now ≡ put_back (kept ∷ log) later
    by (inl here) others =
        cell_alike kept.cell (put_back log now) (put_back log later) kept.pixels.items
        (subst (λ c. ChangesOnly c (put_back log now) (put_back log later)) (sym here) (only_back log cell now later only))
    by (inr further) others = ap (λ p. with_cell p kept.cell kept.pixels.items) (others further)

-- what is kept last is put back first
pub back_pushed : (log : List KeptCell) (kept : KeptCell) (later : Picture)
    → put_back (log ++ kept ∷ []) later ≡ put_back log (with_cell later kept.cell kept.pixels.items)
back_pushed [] kept later = refl
back_pushed (first ∷ log) kept later = ap (λ p. with_cell p first.cell first.pixels.items) (back_pushed log kept later)

-- a cell that is kept already
pub keeps_kept : (cell : Cell) (now : Picture) (log : List KeptCell) → IsKept cell log → KeepsCell cell now log log
keeps_kept cell now log there later only before back = sym (back_alike log cell now later only there) ∙ back

-- one that is kept as it stands
pub keeps_pushed : (cell : Cell) (now : Picture) (kept : KeptCell) (log more : List KeptCell) → more ≡ log ++ kept ∷ [] → IsPicture now → IsKeptOf cell now kept
    → KeepsCell cell now log more
keeps_pushed cell now kept log more pushed shape is later only before back =
    ap (λ l. put_back l later) pushed ∙ back_pushed log kept later
    ∙ ap (put_back log) (ap (λ c. with_cell later c kept.pixels.items) is.cell_is ∙ as_it_stood cell now later kept.pixels.items shape is.pixels_are only) ∙ back

-- the last cell is put back, and then the others
pub back_popped : (old log : List KeptCell) (kept : KeptCell) (now next due : Picture) → old ≡ log ++ kept ∷ [] → next ≡ with_cell now kept.cell kept.pixels.items
    → put_back old now ≡ due → put_back log next ≡ due
back_popped old log kept now next due popped back same =
    ap (put_back log) back ∙ sym (back_pushed log kept now) ∙ ap (λ l. put_back l now) (sym popped) ∙ same

-- what was found in a list is kept
pub found : (cell : Cell) (seen log : List KeptCell) (result : Bool) → seen ≡ log → (IsTrue result → IsKept cell seen) → IsTrue result → IsKept cell log
found cell seen log result same finds holds = subst (IsKept cell) same (finds holds)

-- the cell of a list's place is kept
pub kept_at_place : (cell : Cell) (log : List KeptCell) (place : ℕ) (other : KeptCell) → place < length log → (get_or log place other).cell ≡ cell
    → IsKept cell log
kept_at_place cell log place other below is =
    let long : length (map (λ (kept : KeptCell). kept.cell) log) ≡ length log = simp (length-map) in
    (place, omega (arith, below, long), get_or-map (λ (kept : KeptCell). kept.cell) log place other cell below ∙ is)

-- no sides and no format change where cells are put back, and a picture stays one
pub put_back-width : (log : List KeptCell) (now : Picture) → (put_back log now).width ≡ now.width
put_back-width [] now = refl
put_back-width (kept ∷ log) now = with_cell-width (put_back log now) kept.cell kept.pixels.items ∙ put_back-width log now

pub put_back-height : (log : List KeptCell) (now : Picture) → (put_back log now).height ≡ now.height
put_back-height [] now = refl
put_back-height (kept ∷ log) now = with_cell-height (put_back log now) kept.cell kept.pixels.items ∙ put_back-height log now

pub put_back-format : (log : List KeptCell) (now : Picture) → (put_back log now).format ≡ now.format
put_back-format [] now = refl
put_back-format (kept ∷ log) now = with_cell-format (put_back log now) kept.cell kept.pixels.items ∙ put_back-format log now

pub back_is_picture : (log : List KeptCell) (now : Picture) → IsPicture now → IsPicture (put_back log now)
back_is_picture [] now shape = shape
back_is_picture (kept ∷ log) now shape = cell_is_picture (put_back log now) kept.cell kept.pixels.items (back_is_picture log now shape)
