-- Each tile of a message is drawn in its own area alone.
use Rattle.std.proofs.Common.{◌≡◌, ◌∙◌, ℕ, Bool, true, false, ◌&&◌, ◌||◌, if◌then◌else◌, List, [], ◌∷◌, map, refl, sym, ap}
use Rattle.std.specs.FinMap as finmap
use Rattle.std.specs.List.{AllByRecursion}
use Rattle.gfx_base.specs.declared.pixel.Pixel.{Pixel}
use Rattle.gfx_base.specs.Cells.{cut_to_cell}
use Rattle.gfx_base.specs.Geometry.{holds}
use Rattle.gfx_surface.specs.Picture.{Picture, pixel_at}
use Rattle.gfx_tile_state.specs.declared.state.TileState.{TileState}
use Rattle.gfx_tile_make.specs.Levels.{tile_at}
use Rattle.gfx_prog_block.specs.declared.area.Area.{Area}
use Rattle.gfx_prog_decode.specs.declared.key.Key.{Key}
use Rattle.gfx_prog_decode.specs.Scene.{Scene, scene}
use Rattle.gfx_prog_decode.specs.Showing.{cell_in, covered, has_pixel, shown_in, tile_pixel}
use Rattle.gfx_prog_decode.proofs.Pictures.{redrawn_same}
use Rattle.gfx_prog_encode.specs.declared.send.TileSend.{TileSend}
use Rattle.gfx_prog_encode.specs.Messages.{area_of}
use Rattle.gfx_prog_live.specs.Cells.{cell_key}
use Rattle.gfx_prog_live.specs.Showing.{after_tiles, with_record}
use Rattle.gfx_prog_law.specs.Accepted.{painted, raised, shown_at_level}
use Rattle.gfx_prog_law.specs.Taken.{place_of}
use Rattle.gfx_prog_law.proofs.Apart.{Apart, Differ, all-with}
use Rattle.gfx_prog_law.proofs.Squares.{InCell, area-in-cell, cell-holds, one-cell}

-- what a tile paints lies in its cell
abbrev pub KeepsCell : TileSend → Type 0
KeepsCell send = cut_to_cell send.rect send.cell ≡ send.rect

-- of a tile's cell, areas have what its own area has
abbrev pub Own : List Area → TileSend → Type 0
Own areas send = (x y : ℕ) → InCell send.cell.x send.cell.y x y → covered areas x y ≡ covered (area_of send ∷ []) x y

-- the area of a tile of another cell has nothing of it
elsewhere : (send other : TileSend) (x y : ℕ) → Differ send other → KeepsCell other → InCell send.cell.x send.cell.y x y → has_pixel x y (area_of other) ≡ false
elsewhere send other x y apart keeps here = by (has_pixel x y (area_of other)) refl
  where
    by : (b : Bool) → has_pixel x y (area_of other) ≡ b → b ≡ false
    by false e = refl
    by true e =
        let same : (send.cell.x ≡ other.cell.x) × (send.cell.y ≡ other.cell.y) = one-cell send.cell.x send.cell.y other.cell.x other.cell.y x y here (area-in-cell other x y keeps e) in
        absurd (apart same.0 same.1)

others-miss : (send : TileSend) (x y : ℕ) → InCell send.cell.x send.cell.y x y → (sends : List TileSend) → AllByRecursion (Differ send) sends → AllByRecursion KeepsCell sends
    → covered (map area_of sends) x y ≡ false
others-miss send x y here [] apart keeps = refl
others-miss send x y here (other ∷ sends) apart keeps =
    ap (λ b. b || covered (map area_of sends) x y) (elsewhere send other x y apart.0 keeps.0 here) ∙ others-miss send x y here sends apart.1 keeps.1

-- so it is with each of tiles of different cells
pub own-all : (sends : List TileSend) → Apart sends → AllByRecursion KeepsCell sends → AllByRecursion (Own (map area_of sends)) sends
own-all [] apart keeps = tt
own-all (send ∷ sends) apart keeps = (
  λ x y here. ap (λ b. has_pixel x y (area_of send) || b) (others-miss send x y here sends apart.0 keeps.1),
  all-with (Differ send) (Own (map area_of sends)) (Own (area_of send ∷ map area_of sends))
      (λ other differ own x y here.
      ap (λ b. b || covered (map area_of sends) x y) (elsewhere other send x y (λ e e'. differ (sym e) (sym e')) keeps.0 here) ∙ own x y here)
      sends apart.0 (own-all sends apart.1 keeps.1),
)

same-choice : (b c d : Bool) (p q : Pixel) → (b ≡ true → c ≡ d) → (if b && c then p else q) ≡ (if b && d then p else q)
same-choice true c d p q same = ap (λ b. if b then p else q) (same refl)
same-choice false c d p q same = refl

-- the function that a picture is redrawn by
abbrev pub drawer : Picture → Key → List Area → TileState → ℕ → ℕ → Pixel
drawer picture key areas tile x y = if holds (cell_in picture.width picture.height key) x y && covered areas x y then tile_pixel picture key tile x y else pixel_at picture x y

own-shown : (picture : Picture) (id : ℕ) (areas : List Area) (send : TileSend) (tile : TileState) → Own areas send
    → shown_in picture (cell_key id send.cell) areas tile ≡ shown_in picture (cell_key id send.cell) (area_of send ∷ []) tile
unfolding shown_in
own-shown picture id areas send tile own =
    let key : Key = cell_key id send.cell in
    redrawn_same picture (drawer picture key areas tile) (drawer picture key (area_of send ∷ []) tile) (λ x y _ _.
    same-choice (holds (cell_in picture.width picture.height key) x y) (covered areas x y) (covered (area_of send ∷ []) x y) (tile_pixel picture key tile x y) (pixel_at picture x y)
    (λ hit. own x y (cell-holds picture.width picture.height key x y hit)))

-- one tile
one-shown : (id : ℕ) (areas : List Area) (level : ℕ) (send : TileSend) (old : Scene) → Own areas send → send.level ≡ level
    → shown_at_level (place_of id) areas level send old ≡ with_record id old send
one-shown id areas level send old own e =
    ap (λ n. shown_at_level (place_of id) areas n send old) (sym e)
    ∙ ap (scene (finmap.insert old.records (cell_key id send.cell) (tile_at send.tile send.level))) (own-shown old.picture id areas send (tile_at send.tile send.level) own)

-- all of them
pub painted-shown : (id : ℕ) (areas : List Area) (sends : List TileSend) (old : Scene) → AllByRecursion (Own areas) sends → AllByRecursion (λ (send : TileSend). send.level ≡ 0) sends
    → painted (place_of id) areas sends old ≡ after_tiles id sends old
painted-shown id areas [] old own first = refl
painted-shown id areas (send ∷ sends) old own first =
    ap (painted (place_of id) areas sends) (one-shown id areas 0 send old own.0 first.0) ∙ painted-shown id areas sends (with_record id old send) own.1 first.1

pub raised-shown : (id : ℕ) (areas : List Area) (sends : List TileSend) (old : Scene) → AllByRecursion (Own areas) sends → raised (place_of id) areas sends old ≡ after_tiles id sends old
raised-shown id areas [] old own = refl
raised-shown id areas (send ∷ sends) old own =
    ap (raised (place_of id) areas sends) (one-shown id areas send.level send old own.0 refl) ∙ raised-shown id areas sends (with_record id old send) own.1
