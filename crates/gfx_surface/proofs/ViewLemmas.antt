-- What a surface shows once a place or a cell of it is written.
use Rattle.std.proofs.Common.{◌≡◌, ◌≢◌, refl, sym, ap, ◌∙◌, subst, true, false, ◌&&◌, nat_eq, nat_le, nat_lt, if◌then◌else◌, ◌⊎◌, inl, inr, ℕ, ◌+◌, ◌-◌, ◌*◌, ◌/◌, ◌%◌, ◌<◌, ◌≤◌, List, map, length, take, drop, get_or, get_or-take, get_or-drop, length-take, length-drop, slice_set, arith}
use Rattle.std.proofs.lemmas.List.{get_or-map, get_or-set_same, get_or-set_other}
use Rattle.std.proofs.lemmas.Bool.{cases_lt}
use Rattle.std.proofs.lemmas.Bool.Decides.{nat_tests}
use Rattle.std.proofs.lemmas.Nat.{row_fits}
use Rattle.gfx_base.specs.declared.format.Format.{Format}
use Rattle.gfx_base.specs.declared.geometry.Cell.{Cell}
use Rattle.gfx_base.specs.declared.pixel.Pixel.{Pixel}
use Rattle.gfx_base.specs.Geometry.{holds}
use Rattle.gfx_surface.specs.Picture.{Picture, IsPicture, shade, no_pixel}
use Rattle.gfx_base.specs.Cells.{cells_along}
use Rattle.gfx_surface.specs.Cells.{cell_start, places, place}
use Rattle.gfx_surface.specs.Rows.{WritesRun}
use Rattle.gfx_surface.specs.Views.{IsCellOf, IsStripOf, with_pixel, with_cell, with_strip}
use Rattle.gfx_surface.specs.Where.{WritesWhere, run_in}
use Rattle.gfx_surface.proofs.CellPlaces.{place_below, place_in_cell, cell_within}
use Rattle.gfx_surface.proofs.CellWrites.{places_written}
use Rattle.gfx_surface.proofs.PictureLemmas.{of_cells, cells_redrawn, redrawn_some, pixel_at-of_cells}
use Rattle.gfx_surface.proofs.Places.{next_row}
use Rattle.gfx_surface.proofs.Wheres.{run_written, where_same}

-- one place of a list is written
set_run : (k : ℕ) (pixel : Pixel) (old : List Pixel) → k < length old → WritesRun k (k + 1) (λ _. pixel) old (slice_set old k pixel)
set_run k pixel old within j d below = by (cases_lt j k) (cases_lt k j)
  where
    other : (j ≢ k) → (nat_le k j && nat_lt j (k + 1)) ≡ false → get_or (slice_set old k pixel) j d ≡ (if nat_le k j && nat_lt j (k + 1) then pixel else get_or old j d)
    other apart out = get_or-set_other old k j pixel d apart ∙ sym (ap (λ b. if b then pixel else get_or old j d) out)

    by : ((j < k) ⊎ (k ≤ j)) → ((k < j) ⊎ (j ≤ k)) → get_or (slice_set old k pixel) j d ≡ (if nat_le k j && nat_lt j (k + 1) then pixel else get_or old j d)
    by (inl less) _ = other (λ e. omega (arith, e)) (grind (arith, nat_tests))
    by _ (inl more) = other (λ e. omega (arith, e)) (grind (arith, nat_tests))
    by (inr a) (inr b) =
        let same : j ≡ k = omega arith in
        let hit : (nat_le k j && nat_lt j (k + 1)) ≡ true = grind (arith, nat_tests) in
        ap (λ n. get_or (slice_set old k pixel) n d) same ∙ get_or-set_same old k pixel d within
        ∙ sym (ap (λ b. if b then pixel else get_or old j d) hit)

-- a surface of which a place is written
pub cells_dotted : (width height x y k : ℕ) (format : Format) (pixel kept : Pixel) (old : List Pixel) → length old ≡ places width height → x < width → y < height
    → k ≡ place width x y → kept ≡ shade format pixel
    → of_cells width height format (slice_set old k kept) ≡ with_pixel (of_cells width height format old) x y pixel
unfolding with_pixel
cells_dotted width height x y k format pixel kept old full column row at keeps =
    cells_redrawn width height format (λ i j. nat_eq i x && nat_eq j y) (λ _ _. kept) (λ _ _. shade format pixel) old (slice_set old k kept)
    (where_same width height (holds (run_in x y 1)) (λ i j. nat_eq i x && nat_eq j y) (λ _ _. kept) old (slice_set old k kept)
    (run_written width height x y 1 1 k (λ _. kept) (λ _ _. kept) old (slice_set old k kept) full (omega arith) row (omega arith) at refl
    (set_run k kept old within) (λ _ _. refl))
    alone)
    (λ _ _ _ _ _. keeps)
  where
    within : k < length old
    within = subst (λ n. k < n) (sym full) (subst (λ n. n < places width height) (sym at) (place_below width height x y column row))

    alone : (i j : ℕ) → holds (run_in x y 1) i j ≡ (nat_eq i x && nat_eq j y)
    alone i j = grind (arith, nat_tests)

pub pixel_is_picture : (picture : Picture) (x y : ℕ) (pixel : Pixel) → IsPicture picture → IsPicture (with_pixel picture x y pixel)
unfolding with_pixel
pixel_is_picture picture x y pixel shape = redrawn_some picture (λ i j. nat_eq i x && nat_eq j y) (λ _ _. pixel) shape

-- a surface of which a cell is written
pub cells_put : (width height start : ℕ) (cell : Cell) (format : Format) (pixels old new : List Pixel)
    → start ≡ cell_start width cell.x cell.y → length old ≡ places width height → cell.x < cells_along width → cell.y < cells_along height → length pixels ≡ 4096
    → WritesRun start (start + length pixels) (λ k. get_or (map (shade format) pixels) (k - start) no_pixel) old new
    → of_cells width height format new ≡ with_cell (of_cells width height format old) cell pixels
unfolding with_cell
cells_put width height start cell format pixels old new begins full on on' long run =
    cells_redrawn width height format (λ x y. nat_eq (x / 64) cell.x && nat_eq (y / 64) cell.y) (λ x y. shade format (get_or pixels (y % 64 * 64 + x % 64) no_pixel))
    (λ x y. shade format (get_or pixels (y % 64 * 64 + x % 64) no_pixel)) old new
    (places_written width height start cell format pixels old new begins full on on' long run) (λ _ _ _ _ _. refl)

-- and where another format keeps its pixels alike
pub cells_put_alike : (width height start : ℕ) (cell : Cell) (format keeps : Format) (pixels old new : List Pixel)
    → start ≡ cell_start width cell.x cell.y → length old ≡ places width height → cell.x < cells_along width → cell.y < cells_along height → length pixels ≡ 4096
    → map (shade keeps) pixels ≡ map (shade format) pixels
    → WritesRun start (start + length pixels) (λ k. get_or (map (shade keeps) pixels) (k - start) no_pixel) old new
    → of_cells width height format new ≡ with_cell (of_cells width height format old) cell pixels
cells_put_alike width height start cell format keeps pixels old new begins full on on' long alike run =
    cells_put width height start cell format pixels old new begins full on on' long
    (subst (λ (kept : List Pixel). WritesRun start (start + length pixels) (λ k. get_or kept (k - start) no_pixel) old new) alike run)

pub cell_is_picture : (picture : Picture) (cell : Cell) (pixels : List Pixel) → IsPicture picture → IsPicture (with_cell picture cell pixels)
unfolding with_cell
cell_is_picture picture cell pixels shape =
    redrawn_some picture (λ x y. nat_eq (x / 64) cell.x && nat_eq (y / 64) cell.y) (λ x y. get_or pixels (y % 64 * 64 + x % 64) no_pixel) shape

-- what a surface has of a cell
pub cell_shown : (width height start : ℕ) (format : Format) (cell : Cell) (cells pixels : List Pixel)
    → pixels ≡ take 4096 (drop start cells) → start ≡ cell_start width cell.x cell.y → length cells ≡ places width height → cell.x < cells_along width → cell.y < cells_along height
    → IsCellOf (of_cells width height format cells) cell pixels
cell_shown width height start format cell cells pixels cut begins full on on' = record {
  long =
      let within : start + 4096 ≤ length cells = omega (arith, begins, full, cell_within width height cell.x cell.y on on') in
      ap length cut ∙ simp (length-take, length-drop) (omega (arith, within));
  each = λ x y column row.
      ap (λ (l : List Pixel). get_or l (y * 64 + x) no_pixel) cut
      ∙ get_or-take 4096 (drop start cells) (y * 64 + x) no_pixel (omega (arith, column, row)) ∙ get_or-drop start cells (y * 64 + x) no_pixel
      ∙ ap (λ n. get_or cells n no_pixel) (ap (λ n. n + (y * 64 + x)) begins ∙ place_in_cell width cell.x cell.y x y (omega (arith, column)) (omega (arith, row)))
      ∙ sym (pixel_at-of_cells width height format cells (64 * cell.x + x) (64 * cell.y + y) (omega (arith, column)) (omega (arith, row)));
}

-- what it has of a row of cells, from one column of them up to another
pub strip_shown : (width height start size row from to : ℕ) (format : Format) (cells pixels : List Pixel)
    → pixels ≡ take size (drop start cells) → start ≡ cell_start width from row → size ≡ 4096 * (to - from) → length cells ≡ places width height
    → from ≤ to → to ≤ cells_along width → row < cells_along height
    → IsStripOf (of_cells width height format cells) row from to pixels
strip_shown width height start size row from to format cells pixels cut begins sized full ordered on on' = record {
  long = ap length cut ∙ simp (length-take, length-drop) (omega (arith, within)) ∙ sized;
  each = λ column x y low high across down.
      let k : ℕ = (column - from) * 4096 + (y * 64 + x) in
      let below : k < size = omega (arith, sized, low, high, across, down) in
      let there : start + k ≡ cell_start width column row + (y * 64 + x) = omega (arith, begins, low) in
      ap (λ (l : List Pixel). get_or l k no_pixel) cut
      ∙ get_or-take size (drop start cells) k no_pixel below ∙ get_or-drop start cells k no_pixel
      ∙ ap (λ n. get_or cells n no_pixel) (there ∙ place_in_cell width column row x y (omega (arith, across)) (omega (arith, down)))
      ∙ sym (pixel_at-of_cells width height format cells (64 * column + x) (64 * row + y) (omega (arith, across)) (omega (arith, down)));
}
  where
    within : start + size ≤ length cells
    within =
        let last : row * cells_along width + cells_along width ≤ cells_along height * cells_along width = row_fits row (cells_along width) (cells_along height) (cells_along width) on' (omega arith) in
        omega (arith, begins, sized, full, last)

-- the places of a part of a row of cells are written
strip_written : (width height start size row from to : ℕ) (format : Format) (pixels old new : List Pixel)
    → start ≡ cell_start width from row → size ≡ 4096 * (to - from) → length old ≡ places width height → from ≤ to → to ≤ cells_along width → length pixels ≡ size
    → WritesRun start (start + size) (λ k. get_or (map (shade format) pixels) (k - start) no_pixel) old new
    → WritesWhere width height (λ x y. nat_eq (y / 64) row && nat_le from (x / 64) && nat_lt (x / 64) to)
    (λ x y. shade format (get_or pixels ((x / 64 - from) * 4096 + (y % 64 * 64 + x % 64)) no_pixel)) old new
unfolding place
strip_written width height start size row from to format pixels old new begins sized full ordered on long run x y d column row' =
    run k d below ∙ by (cases_lt (y / 64) row) (cases_lt row (y / 64)) (cases_lt (x / 64) from) (cases_lt (x / 64) to)
  where
    k : ℕ
    k = place width x y

    m : ℕ
    m = y % 64 * 64 + x % 64

    small : m < 4096
    small = omega arith

    below : k < length old
    below = subst (λ n. k < n) (sym full) (place_below width height x y column row')

    inner : x / 64 < cells_along width
    inner = omega (arith, column)

    missed : (k < start) ⊎ (start + size ≤ k) → (nat_eq (y / 64) row && nat_le from (x / 64) && nat_lt (x / 64) to) ≡ false
        → (if nat_le start k && nat_lt k (start + size) then get_or (map (shade format) pixels) (k - start) no_pixel else get_or old k d)
        ≡ (if nat_eq (y / 64) row && nat_le from (x / 64) && nat_lt (x / 64) to then shade format (get_or pixels ((x / 64 - from) * 4096 + m) no_pixel) else get_or old k d)
    missed (inl before) out =
        let miss : (nat_le start k && nat_lt k (start + size)) ≡ false = grind (arith, nat_tests) in
        ap (λ b. if b then get_or (map (shade format) pixels) (k - start) no_pixel else get_or old k d) miss
        ∙ sym (ap (λ b. if b then shade format (get_or pixels ((x / 64 - from) * 4096 + m) no_pixel) else get_or old k d) out)
    missed (inr after) out =
        let miss : (nat_le start k && nat_lt k (start + size)) ≡ false = grind (arith, nat_tests) in
        ap (λ b. if b then get_or (map (shade format) pixels) (k - start) no_pixel else get_or old k d) miss
        ∙ sym (ap (λ b. if b then shade format (get_or pixels ((x / 64 - from) * 4096 + m) no_pixel) else get_or old k d) out)

    by : ((y / 64 < row) ⊎ (row ≤ y / 64)) → ((row < y / 64) ⊎ (y / 64 ≤ row)) → ((x / 64 < from) ⊎ (from ≤ x / 64)) → ((x / 64 < to) ⊎ (to ≤ x / 64))
        → (if nat_le start k && nat_lt k (start + size) then get_or (map (shade format) pixels) (k - start) no_pixel else get_or old k d)
        ≡ (if nat_eq (y / 64) row && nat_le from (x / 64) && nat_lt (x / 64) to then shade format (get_or pixels ((x / 64 - from) * 4096 + m) no_pixel) else get_or old k d)
    by (inl less) _ _ _ =
        let over : y / 64 * cells_along width + cells_along width ≤ row * cells_along width = next_row (y / 64) row (cells_along width) less in
        missed (inl (omega (arith, over, inner, small, begins))) (grind (arith, nat_tests))
    by _ (inl more) _ _ =
        let over : row * cells_along width + cells_along width ≤ y / 64 * cells_along width = next_row row (y / 64) (cells_along width) more in
        missed (inr (omega (arith, over, begins, sized, on, ordered))) (grind (arith, nat_tests))
    by (inr a) (inr b) (inl left) _ =
        let same : y / 64 ≡ row = omega arith in
        let here : y / 64 * cells_along width ≡ row * cells_along width = ap (λ n. n * cells_along width) same in
        missed (inl (omega (arith, here, small, begins, left))) (grind (arith, nat_tests))
    by (inr a) (inr b) (inr on_left) (inr right) =
        let same : y / 64 ≡ row = omega arith in
        let here : y / 64 * cells_along width ≡ row * cells_along width = ap (λ n. n * cells_along width) same in
        missed (inr (omega (arith, here, begins, sized, right, ordered))) (grind (arith, nat_tests))
    by (inr a) (inr b) (inr on_left) (inl up_to) =
        let same : y / 64 ≡ row = omega arith in
        let here : y / 64 * cells_along width ≡ row * cells_along width = ap (λ n. n * cells_along width) same in
        let at : k ≡ start + ((x / 64 - from) * 4096 + m) = omega (arith, here, begins, on_left) in
        let low : (x / 64 - from) * 4096 + m < size = omega (arith, sized, small, on_left, up_to) in
        let hit : (nat_le start k && nat_lt k (start + size)) ≡ true = grind (arith, nat_tests) in
        let held : (nat_eq (y / 64) row && nat_le from (x / 64) && nat_lt (x / 64) to) ≡ true = grind (arith, nat_tests) in
        let off : k - start ≡ (x / 64 - from) * 4096 + m = omega (arith, at) in
        ap (λ b. if b then get_or (map (shade format) pixels) (k - start) no_pixel else get_or old k d) hit
        ∙ ap (λ n. get_or (map (shade format) pixels) n no_pixel) off
        ∙ get_or-map (shade format) pixels ((x / 64 - from) * 4096 + m) no_pixel no_pixel (omega (arith, low, long))
        ∙ sym (ap (λ b. if b then shade format (get_or pixels ((x / 64 - from) * 4096 + m) no_pixel) else get_or old k d) held)

-- a surface of which a part of a row of cells is written
pub strip_put : (width height start size row from to : ℕ) (format : Format) (pixels old new : List Pixel)
    → start ≡ cell_start width from row → size ≡ 4096 * (to - from) → length old ≡ places width height → from ≤ to → to ≤ cells_along width → length pixels ≡ size
    → WritesRun start (start + size) (λ k. get_or (map (shade format) pixels) (k - start) no_pixel) old new
    → of_cells width height format new ≡ with_strip (of_cells width height format old) row from to pixels
unfolding with_strip
strip_put width height start size row from to format pixels old new begins sized full ordered on long run =
    cells_redrawn width height format (λ x y. nat_eq (y / 64) row && nat_le from (x / 64) && nat_lt (x / 64) to)
    (λ x y. shade format (get_or pixels ((x / 64 - from) * 4096 + (y % 64 * 64 + x % 64)) no_pixel))
    (λ x y. shade format (get_or pixels ((x / 64 - from) * 4096 + (y % 64 * 64 + x % 64)) no_pixel)) old new
    (strip_written width height start size row from to format pixels old new begins sized full ordered on long run) (λ _ _ _ _ _. refl)

pub strip_is_picture : (picture : Picture) (row from to : ℕ) (pixels : List Pixel) → IsPicture picture → IsPicture (with_strip picture row from to pixels)
unfolding with_strip
strip_is_picture picture row from to pixels shape =
    redrawn_some picture (λ x y. nat_eq (y / 64) row && nat_le from (x / 64) && nat_lt (x / 64) to)
    (λ x y. get_or pixels ((x / 64 - from) * 4096 + (y % 64 * 64 + x % 64)) no_pixel) shape

-- no view touches the sides and the format
pub with_pixel-width : (picture : Picture) (x y : ℕ) (pixel : Pixel) → (with_pixel picture x y pixel).width ≡ picture.width
unfolding with_pixel
with_pixel-width picture x y pixel = refl

pub with_pixel-height : (picture : Picture) (x y : ℕ) (pixel : Pixel) → (with_pixel picture x y pixel).height ≡ picture.height
unfolding with_pixel
with_pixel-height picture x y pixel = refl

pub with_pixel-format : (picture : Picture) (x y : ℕ) (pixel : Pixel) → (with_pixel picture x y pixel).format ≡ picture.format
unfolding with_pixel
with_pixel-format picture x y pixel = refl

pub with_cell-width : (picture : Picture) (cell : Cell) (pixels : List Pixel) → (with_cell picture cell pixels).width ≡ picture.width
unfolding with_cell
with_cell-width picture cell pixels = refl

pub with_cell-height : (picture : Picture) (cell : Cell) (pixels : List Pixel) → (with_cell picture cell pixels).height ≡ picture.height
unfolding with_cell
with_cell-height picture cell pixels = refl

pub with_cell-format : (picture : Picture) (cell : Cell) (pixels : List Pixel) → (with_cell picture cell pixels).format ≡ picture.format
unfolding with_cell
with_cell-format picture cell pixels = refl
