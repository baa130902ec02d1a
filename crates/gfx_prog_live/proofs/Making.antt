-- The tiles that a paint makes.
use Rattle.std.proofs.Common.{◌≡◌, ◌∙◌, ap, sym, refl, ℕ, ◌+◌, ◌*◌, ◌/◌, ◌%◌, ◌<◌, ◌&&◌, ◌≢◌, Bool, true, false, List, [], ◌∷◌, ◌++◌, map, take, length, get_or, set, Option, Some, None, inl, inr, ◌⊎◌, arith}
use Rattle.std.specs.Prelude.{◌==◌, MatchBool, if◌then◌else◌}
use Rattle.std.specs.FinMap.{get}
use Rattle.std.specs.Option.{option_map}
use Rattle.std.proofs.lemmas.Bool.{cases_eq}
use Rattle.std.proofs.lemmas.List.{get_or-set_same, get_or-set_other, map_more}
use Rattle.gfx_base.specs.declared.geometry.Cell.{Cell}
use Rattle.gfx_base.specs.declared.geometry.Rect.{Rect}
use Rattle.gfx_base.specs.declared.pixel.Pixel.{Pixel}
use Rattle.gfx_base.specs.Cells.{cell, cut_to_cell}
use Rattle.gfx_quant.specs.declared.setting.Setting.{Setting}
use Rattle.gfx_prog_encode.specs.declared.send.TileSend.{TileSend}
use Rattle.gfx_script.specs.declared.picture.Picture.{Picture}
use Rattle.gfx_script.specs.Patterns.{pixel_of}
use Rattle.gfx_script.specs.Scripted.{Script}
use Rattle.gfx_surface.specs.Picture.{drawn, no_pixel}
use Rattle.gfx_surface.proofs.PictureLemmas.{drawn_by_all}
use Rattle.gfx_tile_make.specs.Levels.{Fits, Leaves}
use Rattle.gfx_tile_make.specs.Source.{SourceTile, difference_of, source_of}
use Rattle.gfx_prog_live.specs.Cells.{cell_key}
use Rattle.gfx_prog_live.specs.Inside.{sent_over}
use Rattle.gfx_prog_live.specs.Live.{Live, send_of}
use Rattle.gfx_prog_live.specs.Tiles.{cell_pixels, gone_on, is_in_range, nearest}
use Rattle.gfx_prog_live.proofs.Ranges.{fits_in_range, leaves_range}

-- ---- pixels

-- the pixel for a place of a cell
abbrev pub cell_pixel : Picture → Rect → Cell → ℕ → ℕ → Pixel
cell_pixel picture rect c i j = pixel_of picture (nearest rect.left rect.right (64 * c.x + i)) (nearest rect.top rect.bottom (64 * c.y + j))

-- those before a place are drawn
abbrev pub DrawnBelow : Picture → Rect → Cell → ℕ → List Pixel → Type 0
DrawnBelow picture rect c place pixels = (k : ℕ) → k < place → get_or pixels k no_pixel ≡ cell_pixel picture rect c (k % 64) (k / 64)

-- one more is
pub one_drawn : (picture : Picture) (rect : Rect) (c : Cell) (place : ℕ) (pixel : Pixel) (old new : List Pixel) → place < length old
    → new ≡ set old place pixel → pixel ≡ cell_pixel picture rect c (place % 64) (place / 64)
    → DrawnBelow picture rect c place old → DrawnBelow picture rect c (place + 1) new
one_drawn picture rect c place pixel old new within put is before k h = ap (λ ps. get_or ps k no_pixel) put ∙ by (cases_eq k place)
  where
    by : ((k ≡ place) ⊎ (k ≢ place)) → get_or (set old place pixel) k no_pixel ≡ cell_pixel picture rect c (k % 64) (k / 64)
    by (inl here) =
        ap (λ n. get_or (set old place pixel) n no_pixel) here ∙ get_or-set_same old place pixel no_pixel within ∙ is
        ∙ ap (λ n. cell_pixel picture rect c (n % 64) (n / 64)) (sym here)
    by (inr apart) = get_or-set_other old place k pixel no_pixel apart ∙ before k (omega arith)

-- the pixel of a picture that is there
pub pixel_there : (found : Option Picture) (drawing : Picture) (pixel : Pixel) (a b x y : ℕ) → option_map (λ one. pixel_of one a b) found ≡ Some pixel → found ≡ Some drawing
    → a ≡ x → b ≡ y → pixel ≡ pixel_of drawing x y
pixel_there found drawing pixel a b x y is there column row =
    let some : Some (pixel_of drawing a b) ≡ Some pixel = ap (option_map (λ (one : Picture). pixel_of one a b)) (sym there) ∙ is in
    let same : pixel_of drawing a b ≡ pixel = cc in
    sym same ∙ (λ i. pixel_of drawing (column i) (row i))

-- all are
pub all_drawn : (picture : Picture) (rect : Rect) (c : Cell) (pixels : List Pixel) → length pixels ≡ 4096
    → DrawnBelow picture rect c 4096 pixels → pixels ≡ cell_pixels picture rect c
unfolding cell_pixels
all_drawn picture rect c pixels full each = drawn_by_all 64 64 (cell_pixel picture rect c) no_pixel pixels full each

-- ---- differences

-- the tests of whether it may, as they are made
pub tests_same : (d e b : Bool) (from listed : ℕ) (old : TileSend) (taken setting : Setting) → d ≡ e → from ≡ old.level → listed ≡ length taken.levels → taken ≡ setting
    → old.tile.setting ≡ setting → (d && (from == listed)) ≡ b → (e && (old.level == length old.tile.setting.levels)) ≡ b
tests_same d e b from listed old taken setting same level count is by test =
    let lists : listed ≡ length old.tile.setting.levels = count ∙ ap (λ (s : Setting). length s.levels) (is ∙ sym by) in
    (λ i. sym same i && (sym level i == sym lists i)) ∙ test

three_tests : (a b c : Bool) (x y : SourceTile) → (if a && b && c then x else y) ≡ (if (a && b) && c then x else y)
three_tests true b c x y = refl
three_tests false b c x y = refl

-- a tile that may go on the one before it, and was tried
pub gone_on_tried : (differences fits : Bool) (old : TileSend) (tile new : SourceTile)
    → MatchBool fits (Fits (difference_of tile old.tile) × (new ≡ difference_of tile old.tile)) (Leaves (difference_of tile old.tile) × (new ≡ tile))
    → (differences && (old.level == length old.tile.setting.levels)) ≡ true
    → new ≡ gone_on differences (Some old) tile
unfolding gone_on
gone_on_tried differences true old tile new says may =
    says.1 ∙ sym (three_tests differences (old.level == length old.tile.setting.levels) (is_in_range (difference_of tile old.tile)) (difference_of tile old.tile) tile
    ∙ (λ i. if may i && fits_in_range (difference_of tile old.tile) says.0 i then difference_of tile old.tile else tile))
gone_on_tried differences false old tile new says may =
    says.1 ∙ sym (three_tests differences (old.level == length old.tile.setting.levels) (is_in_range (difference_of tile old.tile)) (difference_of tile old.tile) tile
    ∙ (λ i. if may i && leaves_range (difference_of tile old.tile) says.0 i then difference_of tile old.tile else tile))

-- and one that may not
pub gone_on_left : (differences : Bool) (old : TileSend) (tile : SourceTile)
    → (differences && (old.level == length old.tile.setting.levels)) ≡ false → tile ≡ gone_on differences (Some old) tile
unfolding gone_on
gone_on_left differences old tile may =
    sym (three_tests differences (old.level == length old.tile.setting.levels) (is_in_range (difference_of tile old.tile)) (difference_of tile old.tile) tile
    ∙ (λ i. if may i && is_in_range (difference_of tile old.tile) then difference_of tile old.tile else tile))

-- nor where there is none
pub gone_on_none : (differences : Bool) (tile : SourceTile) → tile ≡ gone_on differences None tile
unfolding gone_on
gone_on_none differences tile = refl

-- ---- what is sent

-- a tile is sent over what is live in its cell
pub send_is_over : (script : Script) (live : Live) (id : ℕ) (picture : Picture) (rect : Rect) (c : Cell)
    → sent_over script (get live (cell_key id c)) picture rect c ≡ send_of script live id picture rect c
unfolding sent_over send_of
send_is_over script live id picture rect c = refl

-- the tile of a cell, as it is put together
pub sent_made : (script : Script) (before : Option TileSend) (drawing : Picture) (rect cut : Rect) (c : Cell) (pixels : List Pixel) (setting : Setting) (made gone : SourceTile)
    → cut ≡ cut_to_cell rect c → pixels ≡ cell_pixels drawing rect c → setting ≡ script.setting → made ≡ source_of setting pixels
    → gone ≡ gone_on script.differences before made
    → ◌≡◌ {A = TileSend} (record { cell = c; rect = cut; tile = gone; level = 0 }) (sent_over script before drawing rect c)
unfolding sent_over
sent_made script before drawing rect cut c pixels setting made gone part drawn by from on =
    let source : made ≡ source_of script.setting (cell_pixels drawing rect c) = from ∙ (λ i. source_of (by i) (drawn i)) in
    let tile : gone ≡ gone_on script.differences before (source_of script.setting (cell_pixels drawing rect c)) = on ∙ ap (gone_on script.differences before) source in
    λ i. record { cell = c; rect = part i; tile = tile i; level = 0 }

-- one cell more
pub one_sent : (script : Script) (live : Live) (id : ℕ) (drawing : Picture) (rect : Rect) (cells : List Cell) (place : ℕ) (c : Cell) (before : Option TileSend) (send : TileSend)
    (sends more : List TileSend) → place < length cells → c ≡ get_or cells place (cell 0 0) → before ≡ get live (cell_key id c)
    → send ≡ sent_over script before drawing rect c → more ≡ sends ++ send ∷ [] → sends ≡ map (send_of script live id drawing rect) (take place cells)
    → more ≡ map (send_of script live id drawing rect) (take (place + 1) cells)
one_sent script live id drawing rect cells place c before send sends more within at there is put so_far =
    let made : send ≡ send_of script live id drawing rect (get_or cells place (cell 0 0)) =
    is ∙ ap (λ o. sent_over script o drawing rect c) there ∙ send_is_over script live id drawing rect c ∙ ap (send_of script live id drawing rect) at in
    put ∙ (λ i. so_far i ++ made i ∷ []) ∙ sym (map_more (send_of script live id drawing rect) cells place (cell 0 0) within)
