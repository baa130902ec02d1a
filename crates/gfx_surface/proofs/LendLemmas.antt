-- What two pieces of a list leave of it.
use Rattle.std.proofs.Common.{◌≡◌, refl, sym, ap, ◌∙◌, true, false, ◌&&◌, nat_le, nat_lt, subst, map, ◌*◌, if◌then◌else◌, ◌⊎◌, inl, inr, ℕ, ◌+◌, ◌-◌, ◌<◌, ◌≤◌, List, ◌++◌, length, take, drop, get_or, get_or-drop, arith}
use Rattle.std.proofs.lemmas.List.{length-map, get_or_append_left, get_or-append_right, get_or_default, take-take, drop-take}
use Rattle.std.proofs.lemmas.Bool.{cases_lt}
use Rattle.std.proofs.lemmas.Bool.Decides.{nat_tests}
use borrow.Rule.Slice.PartMut.{put_mid}
use Rattle.gfx_base.specs.declared.pixel.Pixel.{Pixel}
use Rattle.gfx_base.specs.declared.format.Format.{Format}
use Rattle.gfx_base.specs.declared.geometry.Cell.{Cell}
use Rattle.gfx_base.specs.Cells.{cells_along}
use Rattle.gfx_surface.specs.Cells.{cell_start, places}
use Rattle.gfx_surface.specs.Lending.{LentKept, LentOf, OfTwo, PairReturns, SplitReturns}
use Rattle.gfx_surface.specs.Picture.{Picture, IsPicture, no_pixel, shade}
use Rattle.gfx_surface.specs.Rows.{WritesRun}
use Rattle.gfx_surface.specs.Views.{IsCellOf, IsStripOf, LiesOn, with_cell, with_strip}
use Rattle.gfx_surface.proofs.PictureLemmas.{of_cells}
use Rattle.gfx_surface.proofs.Places.{run_put}
use Rattle.gfx_surface.proofs.ViewLemmas.{cells_put, cell_is_picture, cell_shown, strip_put, strip_is_picture, strip_shown}

-- a run of the front part is overwritten
pub front_written : (first count : ℕ) (low high run : List Pixel) → first + count ≤ length low → length run ≡ count → length (put_mid first (first + count - first) low run) ≡ length low
    → WritesRun first (first + count) (λ k. get_or run (k - first) no_pixel) (low ++ high) (put_mid first (first + count - first) low run ++ high)
front_written first count low high run within long same k d below = by (cases_lt k (length low))
  where
    by : ((k < length low) ⊎ (length low ≤ k))
        → get_or (put_mid first (first + count - first) low run ++ high) k d
        ≡ (if nat_le first k && nat_lt k (first + count) then get_or run (k - first) no_pixel else get_or (low ++ high) k d)
    by (inl front) =
        get_or_append_left (put_mid first (first + count - first) low run) high d k (omega (arith, same, front))
        ∙ run_put first (first + count) low run (omega arith) within (long ∙ omega arith) k d front
        ∙ ap (λ p. if nat_le first k && nat_lt k (first + count) then get_or run (k - first) no_pixel else p) (sym (get_or_append_left low high d k front))
    by (inr back) =
        let out : (nat_le first k && nat_lt k (first + count)) ≡ false = grind (arith, nat_tests) in
        get_or-append_right (put_mid first (first + count - first) low run) high (length low) k d same back
        ∙ sym (get_or-append_right low high (length low) k d refl back)
        ∙ sym (ap (λ b. if b then get_or run (k - first) no_pixel else get_or (low ++ high) k d) out)

-- the front of the back part is overwritten
pub back_written : (second count : ℕ) (low high run : List Pixel) → length low ≡ second → count ≤ length high → length run ≡ count
    → WritesRun second (second + count) (λ k. get_or run (k - second) no_pixel) (low ++ high) (low ++ (run ++ drop count high))
back_written second count low high run begins within long k d below = by (cases_lt k second) (cases_lt k (second + count))
  where
    by : ((k < second) ⊎ (second ≤ k)) → ((k < second + count) ⊎ (second + count ≤ k))
        → get_or (low ++ (run ++ drop count high)) k d ≡ (if nat_le second k && nat_lt k (second + count) then get_or run (k - second) no_pixel else get_or (low ++ high) k d)
    by (inl front) _ =
        let out : (nat_le second k && nat_lt k (second + count)) ≡ false = grind (arith, nat_tests) in
        get_or_append_left low (run ++ drop count high) d k (omega (arith, begins, front)) ∙ sym (get_or_append_left low high d k (omega (arith, begins, front)))
        ∙ sym (ap (λ b. if b then get_or run (k - second) no_pixel else get_or (low ++ high) k d) out)
    by (inr on) (inl up_to) =
        let hit : (nat_le second k && nat_lt k (second + count)) ≡ true = grind (arith, nat_tests) in
        get_or-append_right low (run ++ drop count high) second k d begins on
        ∙ get_or_append_left run (drop count high) d (k - second) (omega (arith, long, up_to, on))
        ∙ get_or_default run (k - second) d no_pixel (omega (arith, long, up_to, on))
        ∙ sym (ap (λ b. if b then get_or run (k - second) no_pixel else get_or (low ++ high) k d) hit)
    by (inr on) (inr after) =
        let out : (nat_le second k && nat_lt k (second + count)) ≡ false = grind (arith, nat_tests) in
        let there : count + (k - second - count) ≡ k - second = omega arith in
        get_or-append_right low (run ++ drop count high) second k d begins on
        ∙ get_or-append_right run (drop count high) count (k - second) d long (omega arith)
        ∙ get_or-drop count high (k - second - count) d ∙ ap (λ n. get_or high n d) there
        ∙ sym (get_or-append_right low high second k d begins on)
        ∙ sym (ap (λ b. if b then get_or run (k - second) no_pixel else get_or (low ++ high) k d) out)

-- a piece of the front part is one of the whole
pub front_piece : (first count second : ℕ) (low cells : List Pixel) → low ≡ take second cells → first + count ≤ second
    → take (first + count - first) (drop first low) ≡ take count (drop first cells)
front_piece first count second low cells front within =
    let rest : ℕ = second - first in
    let whole : first + rest ≡ second = omega arith in
    let size : first + count - first ≡ count = omega arith in
    ap (λ n. take n (drop first low)) size ∙ ap (λ (l : List Pixel). take count (drop first l)) (front ∙ ap (λ n. take n cells) (sym whole))
    ∙ ap (take count) (drop-take first rest cells) ∙ take-take count rest (drop first cells) (omega arith)

-- what a closure leaves of two pieces, once they stand in their list
pub lent_of : {F : Type 0} {g : OfTwo F} {f : F} (format : Format) (first count second other : ℕ) (cells mid new shown shown_other kept kept_other : List Pixel)
    → LentKept g f format shown shown_other kept kept_other → shown ≡ take count (drop first cells) → shown_other ≡ take other (drop second cells)
    → length kept ≡ count → length kept_other ≡ other → length mid ≡ length cells
    → WritesRun first (first + count) (λ k. get_or kept (k - first) no_pixel) cells mid
    → WritesRun second (second + other) (λ k. get_or kept_other (k - second) no_pixel) mid new
    → LentOf g f format first count second other cells new
lent_of format first count second other cells mid new shown shown_other kept kept_other lent is is' long long' same writes writes' = record {
  left = lent.new;
  left_other = lent.new_other;
  mid = mid;
  lent = record {
    shown = lent.lent.shown;
    other = lent.lent.other;
    shows = lent.lent.shows ∙ is;
    shows_other = lent.lent.shows_other ∙ is';
    left = lent.lent.left;
    left_other = lent.lent.left_other;
    met = lent.lent.met;
    leaves = lent.lent.leaves;
    leaves_other = lent.lent.leaves_other;
  };
  long = sym (length-map lent.new (shade format)) ∙ ap length (sym lent.kept) ∙ long;
  long_other = sym (length-map lent.new_other (shade format)) ∙ ap length (sym lent.kept_other) ∙ long';
  same = same;
  writes = subst (λ (run : List Pixel). WritesRun first (first + count) (λ k. get_or run (k - first) no_pixel) cells mid) lent.kept writes;
  writes_other = subst (λ (run : List Pixel). WritesRun second (second + other) (λ k. get_or run (k - second) no_pixel) mid new) lent.kept_other writes';
}

-- what a closure is given of a cell
pub cell_given : (width height start : ℕ) (format : Format) (cell : Cell) (old seen pixels : List Pixel) (was : Picture)
    → seen ≡ old → of_cells width height format old ≡ was → start ≡ cell_start width cell.x cell.y → length old ≡ places width height → LiesOn was cell
    → pixels ≡ take 4096 (drop start seen) → IsCellOf was cell pixels
cell_given width height start format cell old seen pixels was same shows begins full on cut =
    let lies = subst (λ (p : Picture). LiesOn p cell) (sym shows) on in
    subst (λ (p : Picture). IsCellOf p cell pixels) shows
    (cell_shown width height start format cell old pixels (cut ∙ ap (λ (cells : List Pixel). take 4096 (drop start cells)) same) begins full lies.column lies.row)

-- a surface of which a closure has had two cells
pub pair_returned : {F : Type 0} {g : OfTwo F} {f : F} (width height start other : ℕ) (format : Format) (first second : Cell) (old seen new kept : List Pixel) (was : Picture)
    → seen ≡ old → kept ≡ new → of_cells width height format old ≡ was → start ≡ cell_start width first.x first.y → other ≡ cell_start width second.x second.y
    → length old ≡ places width height → LiesOn was first → LiesOn was second → LentOf g f format start 4096 other 4096 seen new
    → PairReturns g f first second was (of_cells width height format kept)
pair_returned width height start other format first second old seen new kept was same keeps shows begins begins' full on on' lent = record {
  shown = take 4096 (drop start seen);
  shown_other = take 4096 (drop other seen);
  shows = cell_given width height start format first old seen _ was same shows begins full on refl;
  shows_other = cell_given width height other format second old seen _ was same shows begins' full on' refl;
  left = lent.left;
  left_other = lent.left_other;
  long = lent.long;
  long_other = lent.long_other;
  lent = lent.lent;
  leaves =
      ap (of_cells width height format) keeps
      ∙ cells_put width height other second format lent.left_other lent.mid new begins' (lent.same ∙ ap length same ∙ full) lies'.column lies'.row lent.long_other
      (subst (λ n. WritesRun other (other + n) (λ k. get_or (map (shade format) lent.left_other) (k - other) no_pixel) lent.mid new) (sym lent.long_other) lent.writes_other)
      ∙ ap (λ p. with_cell p second lent.left_other)
      (cells_put width height start first format lent.left seen lent.mid begins (ap length same ∙ full) lies.column lies.row lent.long
      (subst (λ n. WritesRun start (start + n) (λ k. get_or (map (shade format) lent.left) (k - start) no_pixel) seen lent.mid) (sym lent.long) lent.writes)
      ∙ ap (λ p. with_cell p first lent.left) (ap (of_cells width height format) same ∙ shows));
}
  where
    lies : LiesOn (of_cells width height format old) first
    lies = subst (λ (p : Picture). LiesOn p first) (sym shows) on

    lies' : LiesOn (of_cells width height format old) second
    lies' = subst (λ (p : Picture). LiesOn p second) (sym shows) on'

-- and it is a picture
pub pair_is_picture : {F : Type 0} {g : OfTwo F} {f : F} (first second : Cell) (was new : Picture) → IsPicture was → PairReturns g f first second was new → IsPicture new
pair_is_picture first second was new shape returned =
    subst IsPicture (sym returned.leaves)
    (cell_is_picture (with_cell was first returned.left) second returned.left_other (cell_is_picture was first returned.left shape))

-- what a closure is given of a row of cells
pub strip_given : (width height start size row from to : ℕ) (format : Format) (old seen pixels : List Pixel) (was : Picture)
    → seen ≡ old → of_cells width height format old ≡ was → start ≡ cell_start width from row → size ≡ 4096 * (to - from) → length old ≡ places width height
    → from ≤ to → to ≤ cells_along was.width → row < cells_along was.height
    → pixels ≡ take size (drop start seen) → IsStripOf was row from to pixels
strip_given width height start size row from to format old seen pixels was same shows begins sized full ordered on on' cut =
    subst (λ (p : Picture). IsStripOf p row from to pixels) shows
    (strip_shown width height start size row from to format old pixels (cut ∙ ap (λ (cells : List Pixel). take size (drop start cells)) same) begins sized full ordered
    (subst (λ (p : Picture). to ≤ cells_along p.width) (sym shows) on) (subst (λ (p : Picture). row < cells_along p.height) (sym shows) on'))

-- a surface of which a closure has had a row of cells, in two parts
pub split_returned : {F : Type 0} {g : OfTwo F} {f : F} (width height start size middle rest row column : ℕ) (format : Format) (old seen new kept : List Pixel) (was : Picture)
    → seen ≡ old → kept ≡ new → of_cells width height format old ≡ was → start ≡ cell_start width 0 row → size ≡ 4096 * column → middle ≡ cell_start width column row
    → rest ≡ 4096 * (cells_along width - column) → length old ≡ places width height → column ≤ cells_along was.width → row < cells_along was.height
    → LentOf g f format start size middle rest seen new → SplitReturns g f row column was (of_cells width height format kept)
split_returned width height start size middle rest row column format old seen new kept was same keeps shows begins sized begins' sized' full on on' lent = record {
  shown = take size (drop start seen);
  shown_other = take rest (drop middle seen);
  shows = strip_given width height start size row 0 column format old seen _ was same shows begins (sized ∙ omega arith) full (omega arith) on on' refl;
  shows_other = strip_given width height middle rest row column (cells_along was.width) format old seen _ was same shows begins' (sized' ∙ wide) full on (omega arith) on' refl;
  left = lent.left;
  left_other = lent.left_other;
  long = lent.long ∙ sized;
  long_other = lent.long_other ∙ sized' ∙ wide;
  lent = lent.lent;
  leaves =
      ap (of_cells width height format) keeps
      ∙ strip_put width height middle rest row column (cells_along width) format lent.left_other lent.mid new begins' sized' (lent.same ∙ ap length same ∙ full) within (omega arith) lent.long_other lent.writes_other
      ∙ ap (λ p. with_strip p row column (cells_along width) lent.left_other)
      (strip_put width height start size row 0 column format lent.left seen lent.mid begins (sized ∙ omega arith) (ap length same ∙ full) (omega arith) within lent.long lent.writes
      ∙ ap (λ p. with_strip p row 0 column lent.left) (ap (of_cells width height format) same ∙ shows))
      ∙ (λ i. with_strip (with_strip was row 0 column lent.left) row column (cells_along (shows i).width) lent.left_other);
}
  where
    within : column ≤ cells_along width
    within = subst (λ (p : Picture). column ≤ cells_along p.width) (sym shows) on

    wide : 4096 * (cells_along width - column) ≡ 4096 * (cells_along was.width - column)
    wide = ap (λ (p : Picture). 4096 * (cells_along p.width - column)) shows

pub split_is_picture : {F : Type 0} {g : OfTwo F} {f : F} (row column : ℕ) (was new : Picture) → IsPicture was → SplitReturns g f row column was new → IsPicture new
split_is_picture row column was new shape returned =
    subst IsPicture (sym returned.leaves)
    (strip_is_picture (with_strip was row 0 column returned.left) row column (cells_along was.width) returned.left_other
    (strip_is_picture was row 0 column returned.left shape))
