-- What one more run of a row, and one more row of a rectangle, leaves of each kind of writing.
use Rattle.std.proofs.Common.{◌≡◌, refl, sym, ap, ◌∙◌, subst, Bool, true, false, ◌&&◌, nat_le, nat_lt, IsTrue, if◌then◌else◌, ◌⊎◌, inl, inr, ℕ, ◌+◌, ◌-◌, ◌*◌, ◌/◌, ◌%◌, ◌<◌, ◌≤◌, List, map, length, take, drop, get_or, get_or-take, get_or-drop, length-take, length-drop, arith}
use Rattle.std.specs.List.{CopiedTo, SameBelow, SameFrom}
use Rattle.std.proofs.lemmas.List.{get_or-map}
use Rattle.std.proofs.lemmas.Bool.{cases_lt}
use Rattle.std.proofs.lemmas.Bool.Decides.{nat_tests}
use Rattle.std.proofs.lemmas.Nat.{row_fits}
use Rattle.gfx_base.specs.declared.format.Format.{Format}
use Rattle.gfx_base.specs.declared.format.Format.TheVariants.{Argb}
use Rattle.gfx_base.specs.declared.geometry.Point.{Point}
use Rattle.gfx_base.specs.declared.geometry.Rect.{Rect}
use Rattle.gfx_base.specs.declared.pixel.Pixel.{Pixel}
use Rattle.gfx_base.specs.Geometry.{holds, lies_in, width_of, height_of, moved, sized}
use Rattle.gfx_surface.specs.Picture.{no_pixel, shade, in_rect, raw_pixels}
use Rattle.gfx_surface.specs.Cells.{places, place, kept_at}
use Rattle.gfx_surface.specs.Rows.{WritesRows, WritesRun}
use Rattle.gfx_surface.specs.Where.{WritesWhere, run_in, taken_from}
use Rattle.gfx_surface.proofs.CellPlaces.{place_along, run_within}
use Rattle.gfx_surface.proofs.CopyLemmas.{moved_run, raw_row}
use Rattle.gfx_surface.proofs.Places.{InRow, in_row, same_run, rows_more, left_in}
use Rattle.gfx_surface.proofs.Wheres.{run_more, run_before, run_written, row_more, row_above, where_kept}

-- a piece that is cut out of a list
pub cut_long : {A : Type 0} → (at count : ℕ) (list run : List A) → at + count ≤ length list → run ≡ take (at + count - at) (drop at list) → length run ≡ count
cut_long at count list run within cut = ap length cut ∙ simp (length-take, length-drop) (omega arith)

pub cut_at : (at count k : ℕ) (list run : List Pixel) → run ≡ take (at + count - at) (drop at list) → k < count → get_or run k no_pixel ≡ get_or list (at + k) no_pixel
cut_at at count k list run cut below =
    ap (λ r. get_or r k no_pixel) cut ∙ get_or-take (at + count - at) (drop at list) k no_pixel (omega arith) ∙ get_or-drop at list k no_pixel

-- a run that is cut out of cells
pub run_cut : (width height x y count at : ℕ) (cells run : List Pixel)
    → length cells ≡ places width height → 0 < count → x + count ≤ width → y < height → x % 64 + count ≤ 64 → at ≡ place width x y
    → run ≡ take (at + count - at) (drop at cells) → length run ≡ count
run_cut width height x y count at cells run full some columns row one begins cut =
    cut_long at count cells run (subst (λ n. at + count ≤ n) (sym full) (subst (λ n. n + count ≤ places width height) (sym begins) (run_within width height x y count some columns row one))) cut

pub run_cut_at : (width x y count at k : ℕ) (cells run : List Pixel)
    → x % 64 + count ≤ 64 → at ≡ place width x y → run ≡ take (at + count - at) (drop at cells) → k < count
    → get_or run k no_pixel ≡ kept_at width cells (x + k) y
run_cut_at width x y count at k cells run one begins cut below =
    cut_at at count k cells run cut below ∙ ap (λ n. get_or cells (n + k) no_pixel) begins ∙ sym (ap (λ n. get_or cells n no_pixel) (place_along width x y k (omega arith)))

-- one more run is read
pub read_more : (width height x y done count column at : ℕ) (cells run mid new : List Pixel)
    → length cells ≡ places width height → 0 < count → column ≡ x + done → column + count ≤ width → y < height → column % 64 + count ≤ 64 → at ≡ place width column y → done + count ≤ length mid
    → run ≡ take (at + count - at) (drop at cells)
    → ((k : ℕ) (d : Pixel) → k < done → get_or mid k d ≡ kept_at width cells (x + k) y)
    → WritesRun done (done + length run) (λ k. get_or (map (shade Argb) run) (k - done) no_pixel) mid new
    → (k : ℕ) (d : Pixel) → k < done + count → get_or new k d ≡ kept_at width cells (x + k) y
read_more width height x y done count column at cells run mid new full some starts columns row one begins within cut before writes k d below =
    writes k d (omega arith) ∙ ap (λ n. if nat_le done k && nat_lt k (done + n) then get_or (map (shade Argb) run) (k - done) no_pixel else get_or mid k d) long
    ∙ by (cases_lt k done)
  where
    long : length run ≡ count
    long = run_cut width height column y count at cells run full some columns row one begins cut

    by : ((k < done) ⊎ (done ≤ k))
        → (if nat_le done k && nat_lt k (done + count) then get_or (map (shade Argb) run) (k - done) no_pixel else get_or mid k d) ≡ kept_at width cells (x + k) y
    by (inl early) =
        let out : (nat_le done k && nat_lt k (done + count)) ≡ false = grind (arith, nat_tests) in
        ap (λ b. if b then get_or (map (shade Argb) run) (k - done) no_pixel else get_or mid k d) out ∙ before k d early
    by (inr late) =
        let hit : (nat_le done k && nat_lt k (done + count)) ≡ true = grind (arith, nat_tests) in
        let j : ℕ = k - done in
        let there : column + j ≡ x + k = omega arith in
        ap (λ b. if b then get_or (map (shade Argb) run) j no_pixel else get_or mid k d) hit
        ∙ get_or-map (shade Argb) run j no_pixel no_pixel (omega (arith, long, below))
        ∙ run_cut_at width column y count at j cells run one begins cut (omega arith)
        ∙ ap (λ n. kept_at width cells n y) there

-- one more row is read
pub read_row_more : (width height i at count : ℕ) (rect : Rect) (cells old mid new : List Pixel)
    → IsTrue (lies_in width height rect) → length old ≡ width_of rect * height_of rect → length mid ≡ length old → i < height_of rect
    → count ≡ width_of rect → at ≡ i * count
    → WritesRows (width_of rect) (sized (width_of rect) i) (λ x y. kept_at width cells (x + rect.left) (y + rect.top)) old mid
    → WritesRun at (at + count) (λ k. kept_at width cells (rect.left + (k - at)) (rect.top + i)) mid new
    → WritesRows (width_of rect) (sized (width_of rect) (i + 1)) (λ x y. kept_at width cells (x + rect.left) (y + rect.top)) old new
read_row_more width height i at count rect cells old mid new inside full same down wide begins rows run =
    rows_more (width_of rect) i at (at + count) (sized (width_of rect) i) (λ x y. kept_at width cells (x + rect.left) (y + rect.top)) (height_of rect) old mid new
    (omega arith) (omega arith) full same (omega arith) rows (starts ∙ omega arith) (ends ∙ omega arith)
    (same_run at (at + count) _ _ mid new run
    (λ k on up_to.
    let here : InRow (width_of rect) i k = in_row (width_of rect) i 0 (width_of rect) k (omega arith) (omega (arith, starts, on)) (omega (arith, ends, up_to)) in
    let column : rect.left + (k - at) ≡ k % width_of rect + rect.left = omega (arith, here.column, starts) in
    let row : rect.top + i ≡ k / width_of rect + rect.top = omega (arith, here.row) in
    λ j. kept_at width cells (column j) (row j)))
  where
    starts : at ≡ i * width_of rect
    starts = begins ∙ ap (λ n. i * n) wide

    ends : at + count ≡ i * width_of rect + width_of rect
    ends = λ j. starts j + wide j

-- one more run of pixels is put
pub put_more : (width height x y done count column at : ℕ) (format : Format) (from run old mid new : List Pixel)
    → length mid ≡ places width height → column ≡ x + done → column + count ≤ width → y < height → column % 64 + count ≤ 64 → at ≡ place width column y
    → done + count ≤ length from → run ≡ take (done + count - done) (drop done from)
    → WritesWhere width height (holds (run_in x y done)) (λ i _. shade format (get_or from (i - x) no_pixel)) old mid
    → WritesRun at (at + length run) (λ k. get_or (map (shade format) run) (k - at) no_pixel) mid new
    → WritesWhere width height (holds (run_in x y (done + count))) (λ i _. shade format (get_or from (i - x) no_pixel)) old new
put_more width height x y done count column at format from run old mid new full starts columns row one begins within cut before writes =
    run_more width height x y done count (length run) column at (λ k. get_or (map (shade format) run) (k - at) no_pixel) (λ i _. shade format (get_or from (i - x) no_pixel)) old mid new
    full starts columns row one begins long before writes says
  where
    long : length run ≡ count
    long = cut_long done count from run within cut

    says : (k : ℕ) → k < count → get_or (map (shade format) run) (at + k - at) no_pixel ≡ shade format (get_or from (column + k - x) no_pixel)
    says k below =
        let off : at + k - at ≡ k = omega arith in
        let there : done + k ≡ column + k - x = omega arith in
        ap (λ n. get_or (map (shade format) run) n no_pixel) off
        ∙ get_or-map (shade format) run k no_pixel no_pixel (omega (arith, long, below))
        ∙ ap (shade format) (cut_at done count k from run cut below ∙ ap (λ n. get_or from n no_pixel) there)

-- a whole run has its places
pub whole_run_within : (width height x y done count at : ℕ) (cells : List Pixel) → length cells ≡ places width height → x % 64 ≡ 0 → done % 64 ≡ 0 → done + 64 ≤ count
    → x + count ≤ width → y < height → at ≡ place width (x + done) y → at + 64 ≤ length cells
whole_run_within width height x y done count at cells full border starts some columns row begins =
    let within = run_within width height (x + done) y 64 (omega arith) (omega (arith, some, columns)) row (omega (arith, border, starts)) in
    omega (arith, within, begins, full)

-- a run of one cell is put
pub part_put : (width height x y at : ℕ) (format : Format) (from old new : List Pixel)
    → length old ≡ places width height → x + length from ≤ width → y < height → x % 64 + length from ≤ 64 → at ≡ place width x y
    → WritesRun at (at + length from) (λ k. get_or (map (shade format) from) (k - at) no_pixel) old new
    → WritesWhere width height (holds (run_in x y (length from))) (λ i _. shade format (get_or from (i - x) no_pixel)) old new
part_put width height x y at format from old new full columns row one begins run =
    run_written width height x y (length from) (length from) at (λ k. get_or (map (shade format) from) (k - at) no_pixel) (λ i _. shade format (get_or from (i - x) no_pixel)) old new
    full columns row one begins refl run says
  where
    says : (k : ℕ) → k < length from → get_or (map (shade format) from) (at + k - at) no_pixel ≡ shade format (get_or from (x + k - x) no_pixel)
    says k below =
        let off : at + k - at ≡ k = omega arith in
        let there : k ≡ x + k - x = omega arith in
        ap (λ n. get_or (map (shade format) from) n no_pixel) off
        ∙ get_or-map (shade format) from k no_pixel no_pixel below
        ∙ ap (λ n. shade format (get_or from n no_pixel)) there

-- one more row of pixels is put
pub put_row_more : (width height i start count : ℕ) (rect : Rect) (format : Format) (from row old mid new : List Pixel)
    → IsTrue (lies_in width height rect) → length from ≡ width_of rect * height_of rect → i < height_of rect → count ≡ width_of rect → start ≡ i * count
    → row ≡ take (start + count - start) (drop start from)
    → WritesWhere width height (holds (record rect { bottom = rect.top + i })) (λ x y. shade format (in_rect rect from x y)) old mid
    → WritesWhere width height (holds (run_in rect.left (rect.top + i) (length row))) (λ x _. shade format (get_or row (x - rect.left) no_pixel)) mid new
    → WritesWhere width height (holds (record rect { bottom = rect.top + (i + 1) })) (λ x y. shade format (in_rect rect from x y)) old new
put_row_more width height i start count rect format from row old mid new inside whole down wide begins cut before writes =
    row_more width height i (rect.top + i) (length row) rect (λ x _. shade format (get_or row (x - rect.left) no_pixel)) (λ x y. shade format (in_rect rect from x y)) old mid new
    (left_in width height rect inside) refl (long ∙ wide) before writes says
  where
    fits : i * width_of rect + width_of rect ≤ height_of rect * width_of rect
    fits = row_fits i (width_of rect) (height_of rect) (width_of rect) down (omega arith)

    starts : start ≡ i * width_of rect
    starts = begins ∙ ap (λ n. i * n) wide

    long : length row ≡ count
    long = cut_long start count from row (omega (arith, fits, starts, wide, whole)) cut

    says : (x : ℕ) → rect.left ≤ x → x < rect.right → shade format (get_or row (x - rect.left) no_pixel) ≡ shade format (in_rect rect from x (rect.top + i))
    says x low high =
        let same : i ≡ rect.top + i - rect.top = omega arith in
        ap (shade format) (cut_at start count (x - rect.left) from row cut (omega arith)
        ∙ (λ j. get_or from ((starts ∙ ap (λ n. n * width_of rect) same) j + (x - rect.left)) no_pixel))

-- one more run of data is put
pub raw_more : (width height x y done count column at start pixels : ℕ) (format : Format) (bytes run : List ℕ) (old mid new : List Pixel)
    → length mid ≡ places width height → column ≡ x + done → column + count ≤ width → y < height → column % 64 + count ≤ 64 → at ≡ place width column y
    → done + count ≤ pixels → length bytes ≡ 4 * pixels → start ≡ 4 * done → run ≡ take (start + 4 * count - start) (drop start bytes)
    → WritesWhere width height (holds (run_in x y done)) (λ i _. get_or (raw_pixels format bytes) (i - x) no_pixel) old mid
    → WritesRun at (at + count) (λ k. get_or (raw_pixels format run) (k - at) no_pixel) mid new
    → WritesWhere width height (holds (run_in x y (done + count))) (λ i _. get_or (raw_pixels format bytes) (i - x) no_pixel) old new
raw_more width height x y done count column at start pixels format bytes run old mid new full starts columns row one begins within whole first cut before writes =
    run_more width height x y done count count column at (λ k. get_or (raw_pixels format run) (k - at) no_pixel) (λ i _. get_or (raw_pixels format bytes) (i - x) no_pixel) old mid new
    full starts columns row one begins refl before writes says
  where
    taken : run ≡ take (4 * count) (drop (4 * done) bytes)
    taken =
        let size : start + 4 * count - start ≡ 4 * count = omega arith in
        cut ∙ (λ j. take (size j) (drop (first j) bytes))

    says : (k : ℕ) → k < count → get_or (raw_pixels format run) (at + k - at) no_pixel ≡ get_or (raw_pixels format bytes) (column + k - x) no_pixel
    says k below =
        let off : at + k - at ≡ k = omega arith in
        let there : done + k ≡ column + k - x = omega arith in
        ap (λ n. get_or (raw_pixels format run) n no_pixel) off
        ∙ raw_row format bytes run done count k taken (omega arith) below
        ∙ ap (λ n. get_or (raw_pixels format bytes) n no_pixel) there

-- one more row of data is put
pub raw_row_more : (width height i start count : ℕ) (rect : Rect) (format : Format) (bytes row : List ℕ) (old mid new : List Pixel)
    → IsTrue (lies_in width height rect) → length bytes ≡ 4 * (width_of rect * height_of rect) → i < height_of rect → count ≡ width_of rect → start ≡ 4 * (i * count)
    → row ≡ take (start + 4 * count - start) (drop start bytes)
    → WritesWhere width height (holds (record rect { bottom = rect.top + i })) (in_rect rect (raw_pixels format bytes)) old mid
    → WritesWhere width height (holds (run_in rect.left (rect.top + i) count)) (λ x _. get_or (raw_pixels format row) (x - rect.left) no_pixel) mid new
    → WritesWhere width height (holds (record rect { bottom = rect.top + (i + 1) })) (in_rect rect (raw_pixels format bytes)) old new
raw_row_more width height i start count rect format bytes row old mid new inside whole down wide begins cut before writes =
    row_more width height i (rect.top + i) count rect (λ x _. get_or (raw_pixels format row) (x - rect.left) no_pixel) (in_rect rect (raw_pixels format bytes)) old mid new
    (left_in width height rect inside) refl wide before writes says
  where
    fits : i * width_of rect + width_of rect ≤ height_of rect * width_of rect
    fits = row_fits i (width_of rect) (height_of rect) (width_of rect) down (omega arith)

    first : i * count ≡ i * width_of rect
    first = ap (λ n. i * n) wide

    taken : row ≡ take (4 * count) (drop (4 * (i * count)) bytes)
    taken =
        let size : start + 4 * count - start ≡ 4 * count = omega arith in
        cut ∙ (λ j. take (size j) (drop (begins j) bytes))

    says : (x : ℕ) → rect.left ≤ x → x < rect.right → get_or (raw_pixels format row) (x - rect.left) no_pixel ≡ in_rect rect (raw_pixels format bytes) x (rect.top + i)
    says x low high =
        let same : i ≡ rect.top + i - rect.top = omega arith in
        raw_row format bytes row (i * count) count (x - rect.left) taken (omega (arith, fits, first, wide, whole)) (omega arith)
        ∙ (λ j. get_or (raw_pixels format bytes) ((first ∙ ap (λ n. n * width_of rect) same) j + (x - rect.left)) no_pixel)

-- one more run of other cells is put
pub crossed_more : (width height from_width from_height left top x y done count from_column column start at : ℕ) (format : Format) (from run old mid new : List Pixel)
    → length from ≡ places from_width from_height → length mid ≡ places width height → 0 < count
    → from_column ≡ left + done → from_column + count ≤ from_width → top < from_height → from_column % 64 + count ≤ 64 → start ≡ place from_width from_column top
    → column ≡ x + done → column + count ≤ width → y < height → column % 64 + count ≤ 64 → at ≡ place width column y
    → run ≡ take (start + count - start) (drop start from)
    → WritesWhere width height (holds (run_in x y done)) (λ i _. shade format (kept_at from_width from (i - x + left) top)) old mid
    → WritesRun at (at + length run) (λ k. get_or (map (shade format) run) (k - at) no_pixel) mid new
    → WritesWhere width height (holds (run_in x y (done + count))) (λ i _. shade format (kept_at from_width from (i - x + left) top)) old new
crossed_more width height from_width from_height left top x y done count from_column column start at format from run old mid new from_full full some
    from_starts from_columns from_row from_one from_begins starts columns row one begins cut before writes =
    run_more width height x y done count (length run) column at (λ k. get_or (map (shade format) run) (k - at) no_pixel) (λ i _. shade format (kept_at from_width from (i - x + left) top)) old mid new
    full starts columns row one begins long before writes says
  where
    long : length run ≡ count
    long = run_cut from_width from_height from_column top count start from run from_full some from_columns from_row from_one from_begins cut

    says : (k : ℕ) → k < count → get_or (map (shade format) run) (at + k - at) no_pixel ≡ shade format (kept_at from_width from (column + k - x + left) top)
    says k below =
        let off : at + k - at ≡ k = omega arith in
        let there : from_column + k ≡ column + k - x + left = omega arith in
        ap (λ n. get_or (map (shade format) run) n no_pixel) off
        ∙ get_or-map (shade format) run k no_pixel no_pixel (omega (arith, long, below))
        ∙ ap (shade format) (run_cut_at from_width from_column top count start k from run from_one from_begins cut below
        ∙ ap (λ n. kept_at from_width from n top) there)

-- one more row of other cells is put
pub crossed_row_more : (width height from_width i count : ℕ) (rect : Rect) (to : Point) (format : Format) (from old mid new : List Pixel)
    → count ≡ width_of rect
    → WritesWhere width height (holds (record (moved rect to) { bottom = to.y + i })) (λ x y. shade format (taken_from from_width from rect to x y)) old mid
    → WritesWhere width height (holds (run_in to.x (to.y + i) count)) (λ x _. shade format (kept_at from_width from (x - to.x + rect.left) (rect.top + i))) mid new
    → WritesWhere width height (holds (record (moved rect to) { bottom = to.y + (i + 1) })) (λ x y. shade format (taken_from from_width from rect to x y)) old new
crossed_row_more width height from_width i count rect to format from old mid new wide before writes =
    row_more width height i (to.y + i) count (moved rect to) (λ x _. shade format (kept_at from_width from (x - to.x + rect.left) (rect.top + i)))
    (λ x y. shade format (taken_from from_width from rect to x y)) old mid new (omega arith) refl (omega arith) before writes
    (λ x low high.
    let same : rect.top + i ≡ to.y + i - to.y + rect.top = omega arith in
    ap (λ n. shade format (kept_at from_width from (x - to.x + rect.left) n)) same)

-- a run of the same cells is put, where it isn't among what was written
moved_says : (width height from_column column top x left count start at : ℕ) (test : ℕ → ℕ → Bool) (f : ℕ → ℕ → Pixel) (old mid : List Pixel)
    → from_column + count ≤ width → top < height → from_column % 64 + count ≤ 64 → start ≡ place width from_column top
    → column + left ≡ from_column + x → x ≤ column
    → WritesWhere width height test f old mid → ((k : ℕ) → k < count → test (from_column + k) top ≡ false)
    → (k : ℕ) → k < count → get_or mid (start + (at + k - at)) no_pixel ≡ kept_at width old (column + k - x + left) top
moved_says width height from_column column top x left count start at test f old mid columns row one begins apart after writes out k below =
    let off : start + (at + k - at) ≡ start + k = omega arith in
    let there : from_column + k ≡ column + k - x + left = omega arith in
    ap (λ n. get_or mid n no_pixel) (off ∙ ap (λ n. n + k) begins ∙ sym (place_along width from_column top k (omega arith)))
    ∙ where_kept width height test f old mid (from_column + k) top no_pixel writes (omega arith) row (out k below)
    ∙ ap (λ n. kept_at width old n top) there

-- one more run is taken to the left
pub moved_left_more : (width height left top x y done count from_column column start at : ℕ) (old mid new : List Pixel)
    → length mid ≡ places width height → 0 < count → x ≤ left
    → from_column ≡ left + done → from_column + count ≤ width → top < height → from_column % 64 + count ≤ 64 → start ≡ place width from_column top
    → column ≡ x + done → column + count ≤ width → y < height → column % 64 + count ≤ 64 → at ≡ place width column y
    → WritesWhere width height (holds (run_in x y done)) (λ i _. kept_at width old (i - x + left) top) old mid
    → CopiedTo mid new start at (start + count - start) × SameBelow mid new at × SameFrom mid new (at + (start + count - start))
    → WritesWhere width height (holds (run_in x y (done + count))) (λ i _. kept_at width old (i - x + left) top) old new
moved_left_more width height left top x y done count from_column column start at old mid new full some leftward
    from_starts from_columns from_row from_one from_begins starts columns row one begins before (copies, under, over) =
    run_more width height x y done count (start + count - start) column at (λ k. get_or mid (start + (k - at)) no_pixel) (λ i _. kept_at width old (i - x + left) top) old mid new
    full starts columns row one begins (omega arith) before
    (moved_run at start (start + count - start) mid new within copies under over)
    (moved_says width height from_column column top x left count start at (holds (run_in x y done)) (λ i _. kept_at width old (i - x + left) top) old mid
    from_columns from_row from_one from_begins (omega arith) (omega arith) before (λ k below. out k below))
  where
    within : start + (start + count - start) ≤ length mid
    within =
        let lies : start + count ≤ places width height = subst (λ n. n + count ≤ places width height) (sym from_begins) (run_within width height from_column top count some from_columns from_row from_one) in
        omega (arith, lies, full)

    out : (k : ℕ) → k < count → holds (run_in x y done) (from_column + k) top ≡ false
    out k below = grind (arith, nat_tests)

-- and to the right
pub moved_right_more : (width height left top x y next rest count pixels from_column column start at : ℕ) (old mid new : List Pixel)
    → length mid ≡ places width height → 0 < count → left < x → next ≡ rest + count → next ≤ pixels
    → from_column ≡ left + rest → from_column + count ≤ width → top < height → from_column % 64 + count ≤ 64 → start ≡ place width from_column top
    → column ≡ x + rest → column + count ≤ width → y < height → column % 64 + count ≤ 64 → at ≡ place width column y
    → WritesWhere width height (holds (record { left = x + next; top = y; right = x + pixels; bottom = y + 1 })) (λ i _. kept_at width old (i - x + left) top) old mid
    → CopiedTo mid new start at (start + count - start) × SameBelow mid new at × SameFrom mid new (at + (start + count - start))
    → WritesWhere width height (holds (record { left = x + rest; top = y; right = x + pixels; bottom = y + 1 })) (λ i _. kept_at width old (i - x + left) top) old new
moved_right_more width height left top x y next rest count pixels from_column column start at old mid new full some rightward one_run fits
    from_starts from_columns from_row from_one from_begins starts columns row one begins before (copies, under, over) =
    run_before width height x y rest count (start + count - start) column at pixels (λ k. get_or mid (start + (k - at)) no_pixel) (λ i _. kept_at width old (i - x + left) top) old mid new
    full starts columns row one begins (omega arith) (omega arith) behind
    (moved_run at start (start + count - start) mid new within copies under over)
    (moved_says width height from_column column top x left count start at (holds (record { left = x + (rest + count); top = y; right = x + pixels; bottom = y + 1 })) (λ i _. kept_at width old (i - x + left) top) old mid
    from_columns from_row from_one from_begins (omega arith) (omega arith) behind (λ k below. out k below))
  where
    behind : WritesWhere width height (holds (record { left = x + (rest + count); top = y; right = x + pixels; bottom = y + 1 })) (λ i _. kept_at width old (i - x + left) top) old mid
    behind = subst (λ n. WritesWhere width height (holds (record { left = x + n; top = y; right = x + pixels; bottom = y + 1 })) (λ i _. kept_at width old (i - x + left) top) old mid) one_run before

    within : start + (start + count - start) ≤ length mid
    within =
        let lies : start + count ≤ places width height = subst (λ n. n + count ≤ places width height) (sym from_begins) (run_within width height from_column top count some from_columns from_row from_one) in
        omega (arith, lies, full)

    out : (k : ℕ) → k < count → holds (record { left = x + (rest + count); top = y; right = x + pixels; bottom = y + 1 }) (from_column + k) top ≡ false
    out k below = grind (arith, nat_tests)

-- one more row is taken upwards
pub moved_up_more : (width height i count : ℕ) (rect : Rect) (to : Point) (old mid new : List Pixel)
    → IsTrue (lies_in width height rect) → to.y ≤ rect.top → i < height_of rect → count ≡ width_of rect
    → WritesWhere width height (holds (record (moved rect to) { bottom = to.y + i })) (taken_from width old rect to) old mid
    → WritesWhere width height (holds (run_in to.x (to.y + i) count)) (λ x _. kept_at width mid (x - to.x + rect.left) (rect.top + i)) mid new
    → WritesWhere width height (holds (record (moved rect to) { bottom = to.y + (i + 1) })) (taken_from width old rect to) old new
moved_up_more width height i count rect to old mid new inside up down wide before writes =
    row_more width height i (to.y + i) count (moved rect to) (λ x _. kept_at width mid (x - to.x + rect.left) (rect.top + i)) (taken_from width old rect to) old mid new
    (omega arith) refl (omega arith) before writes says
  where
    column_in : (x : ℕ) → to.x ≤ x → x < to.x + width_of rect → x - to.x + rect.left < width
    column_in x low high = grind (arith, nat_tests)

    row_in : rect.top + i < height
    row_in = grind (arith, nat_tests)

    out : (x : ℕ) → holds (record (moved rect to) { bottom = to.y + i }) x (rect.top + i) ≡ false
    out x = grind (arith, nat_tests)

    says : (x : ℕ) → to.x ≤ x → x < to.x + width_of rect → kept_at width mid (x - to.x + rect.left) (rect.top + i) ≡ taken_from width old rect to x (to.y + i)
    says x low high =
        let same : rect.top + i ≡ to.y + i - to.y + rect.top = omega arith in
        where_kept width height (holds (record (moved rect to) { bottom = to.y + i })) (taken_from width old rect to) old mid (x - to.x + rect.left) (rect.top + i) no_pixel before
        (column_in x low high) row_in (out (x - to.x + rect.left))
        ∙ ap (λ n. kept_at width old (x - to.x + rect.left) n) same

-- and downwards
pub moved_down_more : (width height i next count : ℕ) (rect : Rect) (to : Point) (old mid new : List Pixel)
    → IsTrue (lies_in width height rect) → rect.top < to.y → next ≡ i + 1 → next ≤ height_of rect → count ≡ width_of rect
    → WritesWhere width height (holds (record (moved rect to) { top = to.y + next })) (taken_from width old rect to) old mid
    → WritesWhere width height (holds (run_in to.x (to.y + i) count)) (λ x _. kept_at width mid (x - to.x + rect.left) (rect.top + i)) mid new
    → WritesWhere width height (holds (record (moved rect to) { top = to.y + i })) (taken_from width old rect to) old new
moved_down_more width height i next count rect to old mid new inside down one_less within wide before writes =
    row_above width height i next (to.y + i) count (moved rect to) (λ x _. kept_at width mid (x - to.x + rect.left) (rect.top + i)) (taken_from width old rect to) old mid new
    (omega arith) refl one_less (omega arith) (omega arith) before writes says
  where
    column_in : (x : ℕ) → to.x ≤ x → x < to.x + width_of rect → x - to.x + rect.left < width
    column_in x low high = grind (arith, nat_tests)

    row_in : rect.top + i < height
    row_in = grind (arith, nat_tests)

    out : (x : ℕ) → holds (record (moved rect to) { top = to.y + next }) x (rect.top + i) ≡ false
    out x = grind (arith, nat_tests)

    says : (x : ℕ) → to.x ≤ x → x < to.x + width_of rect → kept_at width mid (x - to.x + rect.left) (rect.top + i) ≡ taken_from width old rect to x (to.y + i)
    says x low high =
        let same : rect.top + i ≡ to.y + i - to.y + rect.top = omega arith in
        where_kept width height (holds (record (moved rect to) { top = to.y + next })) (taken_from width old rect to) old mid (x - to.x + rect.left) (rect.top + i) no_pixel before
        (column_in x low high) row_in (out (x - to.x + rect.left))
        ∙ ap (λ n. kept_at width old (x - to.x + rect.left) n) same

-- all rows are taken
pub moved_up_all : (width height i : ℕ) (rect : Rect) (to : Point) (old new : List Pixel) → i ≡ height_of rect
    → WritesWhere width height (holds (record (moved rect to) { bottom = to.y + i })) (taken_from width old rect to) old new
    → WritesWhere width height (holds (moved rect to)) (taken_from width old rect to) old new
moved_up_all width height i rect to old new all writes =
    subst (λ n. WritesWhere width height (holds (record (moved rect to) { bottom = to.y + n })) (taken_from width old rect to) old new) all writes

pub moved_down_all : (width height i : ℕ) (rect : Rect) (to : Point) (old new : List Pixel) → i ≡ 0
    → WritesWhere width height (holds (record (moved rect to) { top = to.y + i })) (taken_from width old rect to) old new
    → WritesWhere width height (holds (moved rect to)) (taken_from width old rect to) old new
moved_down_all width height i rect to old new none writes =
    let first : to.y + i ≡ to.y = omega arith in
    subst (λ n. WritesWhere width height (holds (record (moved rect to) { top = n })) (taken_from width old rect to) old new) first writes
