-- What is seen of tiles that were sent.
use Rattle.std.proofs.Common.{◌≡◌, ◌∙◌, ◌+◌, ◌-◌, ◌*◌, ◌/◌, ◌<◌, ◌≤◌, ℕ, Bool, true, false, true≢false, ◌&&◌, ◌||◌, if◌then◌else◌, List, [], ◌∷◌, length, Some, refl, sym, ap, subst, arith}
use Rattle.std.specs.FinMap as finmap
use Rattle.std.specs.List.{AllByRecursion}
use Rattle.std.specs.Ordering.{eq_by_cmp}
use Rattle.std.proofs.lemmas.Bool.Decides.{nat_tests}
use Rattle.gfx_base.specs.declared.geometry.Cell.{Cell}
use Rattle.gfx_base.specs.declared.geometry.Rect.{Rect}
use Rattle.gfx_base.specs.declared.geometry.TheConstants.{CELL_SIDE}
use Rattle.gfx_base.specs.declared.pixel.Pixel.{Pixel}
use Rattle.gfx_base.specs.Cells.{cell, cells_met, cut_to_cell}
use Rattle.gfx_base.specs.Geometry.{holds}
use Rattle.gfx_quant.specs.declared.setting.Setting.{Setting}
use Rattle.gfx_script.specs.declared.picture.Picture.{Picture as Drawing}
use Rattle.gfx_script.specs.Scripted.{Script}
use Rattle.gfx_surface.specs.Picture.{Picture, no_pixel, pixel_at, shade}
use Rattle.gfx_surface.proofs.PictureLemmas.{pixel_at-drawn}
use Rattle.gfx_tile_make.specs.Levels.{MayBeSent, direct_pixel, shown_at, tile_at}
use Rattle.gfx_tile_make.proofs.Sources.{last-shown}
use Rattle.gfx_prog_decode.specs.declared.key.Key.{Key}
use Rattle.gfx_prog_decode.specs.Records.{key_cmp}
use Rattle.gfx_prog_decode.specs.Scene.{Scene}
use Rattle.gfx_prog_decode.specs.Showing.{cell_in, has_pixel, shown_in}
use Rattle.gfx_prog_decode.proofs.Keys.{itself}
use Rattle.gfx_prog_encode.specs.declared.send.TileSend.{TileSend}
use Rattle.gfx_prog_encode.specs.Messages.{area_of}
use Rattle.gfx_prog_live.specs.Cells.{cell_key}
use Rattle.gfx_prog_live.specs.Live.{Live, after_sends, painted_sends, send_of, with_live}
use Rattle.gfx_prog_live.specs.Showing.{after_showing, after_tiles, with_record, with_shown}
use Rattle.gfx_prog_law.specs.Taken.{LiveIn, WasSent}
use Rattle.gfx_prog_law.proofs.Apart.{Apart, Differ, Met, all-any, all-map, all-unmap, all-with, at-cell}
use Rattle.gfx_prog_law.proofs.Kept.{found-by, live-next}
use Rattle.gfx_prog_law.proofs.Painting.{painted-apart, painted-keeps}
use Rattle.gfx_prog_law.proofs.Shown.{KeepsCell, drawer}
use Rattle.gfx_prog_law.proofs.Squares.{LiesInCell, area-holds, cut-lies, one-cell, rect-in-cell}

-- the picture of a scene after tiles is what is seen of them
pub tiles-picture : (id : ℕ) (sends : List TileSend) (old : Scene) → (after_tiles id sends old).picture ≡ after_showing id sends old.picture
tiles-picture id [] old = refl
tiles-picture id (send ∷ sends) old = tiles-picture id sends (with_record id old send)

-- ---- sides and format stay

pub record SameShape (old new : Picture) : Type 0 where
  pub width : new.width ≡ old.width
  pub height : new.height ≡ old.height
  pub format : new.format ≡ old.format

shown-shape : (id : ℕ) (picture : Picture) (send : TileSend) → SameShape picture (with_shown id picture send)
unfolding shown_in
shown-shape id picture send = record { width = refl; height = refl; format = refl }

both-shapes : (a b c : Picture) → SameShape a b → SameShape b c → SameShape a c
both-shapes a b c one other = record { width = other.width ∙ one.width; height = other.height ∙ one.height; format = other.format ∙ one.format }

pub showing-shape : (id : ℕ) (sends : List TileSend) (picture : Picture) → SameShape picture (after_showing id sends picture)
showing-shape id [] picture = record { width = refl; height = refl; format = refl }
showing-shape id (send ∷ sends) picture =
    both-shapes picture (with_shown id picture send) (after_showing id sends (with_shown id picture send)) (shown-shape id picture send) (showing-shape id sends (with_shown id picture send))

-- ---- one tile

-- a pixel once a tile is shown
shown-pixel : (id : ℕ) (picture : Picture) (send : TileSend) (x y : ℕ) → x < picture.width → y < picture.height
    → pixel_at (with_shown id picture send) x y ≡ drawer picture (cell_key id send.cell) (area_of send ∷ []) (tile_at send.tile send.level) x y
unfolding shown_in
shown-pixel id picture send x y column row =
    pixel_at-drawn picture.width picture.height x y (drawer picture (cell_key id send.cell) (area_of send ∷ []) (tile_at send.tile send.level)) no_pixel column row

-- outside of its rectangle it is as it was
area-misses : (send : TileSend) (x y : ℕ) → holds send.rect x y ≡ false → has_pixel x y (area_of send) ≡ false
area-misses send x y miss = by (has_pixel x y (area_of send)) refl
  where
    by : (b : Bool) → has_pixel x y (area_of send) ≡ b → b ≡ false
    by false e = refl
    by true e = sym (area-holds send x y e) ∙ miss

not-chosen : (a b : Bool) (p q : Pixel) → b ≡ false → (if a && (b || false) then p else q) ≡ q
not-chosen true b p q e = ap (λ c. if c || false then p else q) e
not-chosen false b p q e = refl

shown-outside : (id : ℕ) (picture : Picture) (send : TileSend) (x y : ℕ) → x < picture.width → y < picture.height → holds send.rect x y ≡ false → pixel_at (with_shown id picture send) x y ≡ pixel_at picture x y
shown-outside id picture send x y column row miss =
    shown-pixel id picture send x y column row ∙ not-chosen (holds (cell_in picture.width picture.height (cell_key id send.cell)) x y) (has_pixel x y (area_of send)) _ _ (area-misses send x y miss)

-- inside it is the tile's
abbrev pub tile-shows : Picture → TileSend → ℕ → ℕ → Pixel
tile-shows picture send x y = shade picture.format (shown_at send.tile send.level (y - CELL_SIDE * send.cell.y) (x - CELL_SIDE * send.cell.x))

chosen : (a b : Bool) (p q : Pixel) → a ≡ true → b ≡ true → (if a && (b || false) then p else q) ≡ p
chosen a b p q e e' = (λ i. if e i && (e' i || false) then p else q)

area-has : (send : TileSend) (x y : ℕ) → holds send.rect x y ≡ true → has_pixel x y (area_of send) ≡ true
area-has send x y hit = grind (arith, nat_tests)

cell-has : (id : ℕ) (picture : Picture) (send : TileSend) (x y : ℕ) → x < picture.width → y < picture.height → LiesInCell send.rect send.cell.x send.cell.y → holds send.rect x y ≡ true
    → holds (cell_in picture.width picture.height (cell_key id send.cell)) x y ≡ true
cell-has id picture send x y column row lies hit = by lies.left lies.right lies.top lies.bottom
  where
    by : CELL_SIDE * send.cell.x ≤ send.rect.left → send.rect.right ≤ CELL_SIDE * send.cell.x + CELL_SIDE → CELL_SIDE * send.cell.y ≤ send.rect.top → send.rect.bottom ≤ CELL_SIDE * send.cell.y + CELL_SIDE
        → holds (cell_in picture.width picture.height (cell_key id send.cell)) x y ≡ true
    by left right top bottom = grind (arith, nat_tests)

shown-inside : (id : ℕ) (picture : Picture) (send : TileSend) (x y : ℕ) → x < picture.width → y < picture.height → KeepsCell send → holds send.rect x y ≡ true
    → pixel_at (with_shown id picture send) x y ≡ tile-shows picture send x y
shown-inside id picture send x y column row keeps hit =
    shown-pixel id picture send x y column row
    ∙ chosen (holds (cell_in picture.width picture.height (cell_key id send.cell)) x y) (has_pixel x y (area_of send)) _ _
    (cell-has id picture send x y column row (cut-lies send.rect send.cell.x send.cell.y keeps) hit) (area-has send x y hit)

-- a tile's pixel is of no tile of another cell
misses-other : (x y : ℕ) (send other : TileSend) → KeepsCell send → holds send.rect x y ≡ true → Differ send other → KeepsCell other → holds other.rect x y ≡ false
misses-other x y send other keeps hit differ keeps' = by (holds other.rect x y) refl
  where
    by : (b : Bool) → holds other.rect x y ≡ b → b ≡ false
    by false e = refl
    by true e =
        let same : (send.cell.x ≡ other.cell.x) × (send.cell.y ≡ other.cell.y) = one-cell send.cell.x send.cell.y other.cell.x other.cell.y x y (rect-in-cell send x y keeps hit) (rect-in-cell other x y keeps' e) in
        absurd (differ same.0 same.1)

-- in the rectangle of a tile the picture shows what the tile's level does
abbrev pub Shows : ℕ → ℕ → Picture → Picture → TileSend → Type 0
Shows x y old new send = holds send.rect x y ≡ true → pixel_at new x y ≡ tile-shows old send x y

-- ---- all of them

module _ (id x y : ℕ) where
  -- outside of their rectangles all is as it was
  pub showing-outside : (sends : List TileSend) (picture : Picture) → x < picture.width → y < picture.height → AllByRecursion (λ (send : TileSend). holds send.rect x y ≡ false) sends
      → pixel_at (after_showing id sends picture) x y ≡ pixel_at picture x y
  unfolding shown_in
  showing-outside [] picture column row miss = refl
  showing-outside (send ∷ sends) picture column row miss =
      showing-outside sends (with_shown id picture send) column row miss.1 ∙ shown-outside id picture send x y column row miss.0

  -- inside each shows
  pub showing-inside : (sends : List TileSend) (picture : Picture) → x < picture.width → y < picture.height → Apart sends → AllByRecursion KeepsCell sends
      → AllByRecursion (Shows x y picture (after_showing id sends picture)) sends
  unfolding shown_in
  showing-inside [] picture column row apart keeps = tt
  showing-inside (send ∷ sends) picture column row apart keeps = (
    (λ hit.
        showing-outside sends (with_shown id picture send) column row
        (all-with (Differ send) KeepsCell (λ (other : TileSend). holds other.rect x y ≡ false) (λ other differ keeps'. misses-other x y send other keeps.0 hit differ keeps') sends apart.0 keeps.1)
        ∙ shown-inside id picture send x y column row keeps.0 hit),
    showing-inside sends (with_shown id picture send) column row apart.1 keeps.1,
  )

-- so with tiles that are live: in its rectangle each shows
abbrev pub LiveShows : ℕ → Live → Picture → Type 0
LiveShows id live picture =
    (key : Key) (send : TileSend) → key.surface ≡ id → finmap.get live key ≡ Some send → (x y : ℕ) → x < picture.width → y < picture.height → Shows x y picture picture send

live-shows-next : (setting : Setting) (id width height : ℕ) (send : TileSend) (live : Live) (old : Scene) → WasSent setting width height send → LiveIn setting id width height live old.records → LiveShows id live old.picture
    → LiveShows id (with_live id live send) (with_shown id old.picture send)
unfolding shown_in
live-shows-next setting id width height send live old was agree shows key later same found x y column row hit =
    found-by live (cell_key id send.cell) send (λ one. holds one.rect x y ≡ true → pixel_at (with_shown id old.picture send) x y ≡ tile-shows old.picture one x y) key later found
    (λ is which. subst (λ one. holds one.rect x y ≡ true → pixel_at (with_shown id old.picture send) x y ≡ tile-shows old.picture one x y) which (λ hit. shown-inside id old.picture send x y column row was.in_cell hit))
    (λ was-live untied hit.
    let before = agree.each key later same was-live in
    let differs : Differ later send = λ e e'. true≢false (sym (itself (cell_key id send.cell)) ∙ ap (λ q. eq_by_cmp key_cmp q (cell_key id send.cell)) (λ i. cell_key id (cell (sym e i) (sym e' i))) ∙ ap (λ q. eq_by_cmp key_cmp q (cell_key id send.cell)) (sym before.0) ∙ untied) in
    shown-outside id old.picture send x y column row (misses-other x y later send before.1.0.in_cell hit differs was.in_cell)
    ∙ shows key later same was-live x y column row hit)
    hit

pub live-shows-after : (setting : Setting) (id width height : ℕ) (sends : List TileSend) (live : Live) (old : Scene) → AllByRecursion (WasSent setting width height) sends → LiveIn setting id width height live old.records
    → LiveShows id live old.picture → LiveShows id (after_sends id sends live) (after_showing id sends old.picture)
live-shows-after setting id width height [] live old was agree shows = shows
live-shows-after setting id width height (send ∷ sends) live old was agree shows =
    live-shows-after setting id width height sends (with_live id live send) (with_record id old send) was.1 (live-next setting id width height send live old.records was.0 agree)
    (live-shows-next setting id width height send live old was.0 agree shows)

-- at its last level a tile shows its own values, whatever it goes on
pub shows-direct : (picture : Picture) (send : TileSend) (x y : ℕ) → MayBeSent send.tile → send.level ≡ length send.tile.setting.levels
    → tile-shows picture send x y ≡ shade picture.format (direct_pixel send.tile (y - CELL_SIDE * send.cell.y) (x - CELL_SIDE * send.cell.x))
shows-direct picture send x y may last =
    ap (λ n. shade picture.format (shown_at send.tile n (y - CELL_SIDE * send.cell.y) (x - CELL_SIDE * send.cell.x))) last
    ∙ ap (shade picture.format) (last-shown send.tile may (y - CELL_SIDE * send.cell.y) (x - CELL_SIDE * send.cell.x))

-- ---- a paint

-- what is cut of a rectangle has no pixel outside of it
cut-misses : (rect : Rect) (c : Cell) (x y : ℕ) → holds rect x y ≡ false → holds (cut_to_cell rect c) x y ≡ false
cut-misses rect c x y miss = by (holds (cut_to_cell rect c) x y) refl
  where
    within : holds (cut_to_cell rect c) x y ≡ true → holds rect x y ≡ true
    within hit = grind (arith, nat_tests)

    by : (b : Bool) → holds (cut_to_cell rect c) x y ≡ b → b ≡ false
    by false e = refl
    by true e = sym (within e) ∙ miss

-- a pixel of it is of a cell that it meets, and of what is cut to the cell
met-at : (rect : Rect) (x y : ℕ) → holds rect x y ≡ true → Met rect (cell (x / CELL_SIDE) (y / CELL_SIDE))
met-at rect x y hit =
    let left : rect.left ≤ x = grind (arith, nat_tests) in
    let right : x < rect.right = grind (arith, nat_tests) in
    let top : rect.top ≤ y = grind (arith, nat_tests) in
    let bottom : y < rect.bottom = grind (arith, nat_tests) in
    record { left = omega (arith, left); right = omega (arith, right); top = omega (arith, top); bottom = omega (arith, bottom) }

cut-has : (rect : Rect) (x y : ℕ) → holds rect x y ≡ true → holds (cut_to_cell rect (cell (x / CELL_SIDE) (y / CELL_SIDE))) x y ≡ true
cut-has rect x y hit = by (x / CELL_SIDE) (y / CELL_SIDE) (omega arith) (omega arith) (omega arith) (omega arith)
  where
    by : (column row : ℕ) → CELL_SIDE * column ≤ x → x < CELL_SIDE * column + CELL_SIDE → CELL_SIDE * row ≤ y → y < CELL_SIDE * row + CELL_SIDE → holds (cut_to_cell rect (cell column row)) x y ≡ true
    by column row left right top bottom = grind (arith, nat_tests)

-- a paint changes no pixel outside of its rectangle
pub passes-wrote : (script : Script) (live : Live) (id : ℕ) (drawing : Drawing) (rect : Rect) (picture : Picture) (x y : ℕ) → x < picture.width → y < picture.height → holds rect x y ≡ false
    → pixel_at (after_showing id (painted_sends script live id drawing rect) picture) x y ≡ pixel_at picture x y
unfolding send_of
passes-wrote script live id drawing rect picture x y column row miss =
    showing-outside id x y (painted_sends script live id drawing rect) picture column row
    (all-map (send_of script live id drawing rect) (λ _. Unit {0}) (λ (send : TileSend). holds send.rect x y ≡ false) (λ c _. cut-misses rect c x y miss) (cells_met rect) (all-any (λ _. Unit {0}) (λ _. tt) (cells_met rect)))

-- inside it each pixel is that of its cell's tile
pub painted-pixel : (script : Script) (live : Live) (id : ℕ) (drawing : Drawing) (rect : Rect) (picture : Picture) (x y : ℕ) → x < picture.width → y < picture.height → holds rect x y ≡ true
    → pixel_at (after_showing id (painted_sends script live id drawing rect) picture) x y ≡ tile-shows picture (send_of script live id drawing rect (cell (x / CELL_SIDE) (y / CELL_SIDE))) x y
unfolding send_of
painted-pixel script live id drawing rect picture x y column row hit =
    at-cell (λ c. Shows x y picture after (send_of script live id drawing rect c)) rect (cell (x / CELL_SIDE) (y / CELL_SIDE))
    (all-unmap (send_of script live id drawing rect) (λ c. Shows x y picture after (send_of script live id drawing rect c)) (Shows x y picture after) (λ c shows. shows) (cells_met rect)
    (showing-inside id x y (painted_sends script live id drawing rect) picture column row (painted-apart script live id drawing rect) (painted-keeps script live id drawing rect)))
    (met-at rect x y hit) (cut-has rect x y hit)
  where
    after : Picture
    after = after_showing id (painted_sends script live id drawing rect) picture
