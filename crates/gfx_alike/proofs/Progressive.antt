-- A progressive message on a surface with other pixels: it is accepted alike and leaves the same records, since its checks
-- read the sides of the surface, the records and the message alone.
use Rattle.std.proofs.Common.{◌≡◌, ℕ, List, [], ◌∷◌, Result, refl, sym, ◌∙◌, subst}
use Rattle.gfx_base.specs.declared.pixel.Pixel.{Pixel}
use Rattle.gfx_base.specs.declared.refusal.Refusal.{Refusal}
use Rattle.gfx_surface.specs.Picture.{Picture}
use Rattle.gfx_prog_block.specs.declared.area.Area.{Area}
use Rattle.gfx_prog_block.specs.declared.block.Block.{Block}
use Rattle.gfx_prog_block.specs.declared.block.Block.TheVariants as blocks
use Rattle.gfx_prog_block.specs.declared.region.Region.{Region as RegionRead}
use Rattle.gfx_prog_block.specs.declared.tile.FirstPass.{FirstPass}
use Rattle.gfx_prog_block.specs.declared.tile.TheConstants.{NO_QUALITY}
use Rattle.gfx_prog_block.specs.declared.tile.Tile.{Tile}
use Rattle.gfx_prog_block.specs.declared.tile.Tile.TheVariants.{Simple, First, Upgrade}
use Rattle.gfx_prog_block.specs.declared.tile.TileHead.{TileHead}
use Rattle.gfx_prog_block.specs.declared.tile.UpgradePass.{UpgradePass}
use Rattle.gfx_tile_state.specs.declared.state.TileState.{TileState}
use Rattle.gfx_prog_decode.specs.declared.key.Key.{Key}
use Rattle.gfx_prog_decode.specs.declared.key.Place.{Place}
use Rattle.gfx_prog_decode.specs.Progressive.{with_tile, after_first, after_upgrade, after_tile, after_region, after_block, after_message}
use Rattle.gfx_prog_decode.specs.Scene.{Scene, scene, in_turn}
use Rattle.gfx_prog_decode.specs.Showing.{shown_in}
use Rattle.gfx_state.specs.Alike.{outline}
use Rattle.gfx_state.proofs.Following.{Follows, gives, after, both}
use Rattle.gfx_alike.proofs.Surfaces.{SameOutline, repainted, second_picture}

-- the same records, and a picture that differs in pixels alone
pub record SceneAlike (a b : Scene) : Type 0 where
  pub records : a.records ≡ b.records
  pub picture : SameOutline a.picture b.picture

-- a scene with other pixels
abbrev recoloured : Scene → List Pixel → Scene
recoloured s pixels = scene s.records (repainted s.picture pixels)

second_scene : (a b : Scene) → SceneAlike a b → recoloured a b.picture.pixels ≡ b
second_scene a b same = λ i. scene (same.records i) (second_picture a.picture b.picture same.picture i)

-- so what holds of the first with any pixels holds of the second
for_second : (P : Scene → Type 0) (a b : Scene) → SceneAlike a b → ((pixels : List Pixel) → P (recoloured a pixels)) → P b
for_second P a b same all = subst P (second_scene a b same) (all b.picture.pixels)

outline-shown_in : (p : Picture) (key : Key) (areas : List Area) (tile : TileState) → outline (shown_in p key areas tile) ≡ outline p
unfolding shown_in
outline-shown_in p key areas tile = refl

with_tile_alike : (old : Scene) (pixels : List Pixel) (key : Key) (areas : List Area) (tile : TileState)
    → SceneAlike (with_tile old key areas tile) (with_tile (recoloured old pixels) key areas tile)
with_tile_alike old pixels key areas tile =
    record { records = refl; picture = outline-shown_in old.picture key areas tile ∙ sym (outline-shown_in (repainted old.picture pixels) key areas tile) }

first_alike : (place : Place) (region : RegionRead) (head : TileHead) (flags quality : ℕ) (pass : FirstPass) (old : Scene) (pixels : List Pixel)
    → Follows SceneAlike (after_first place region head flags quality pass old) (after_first place region head flags quality pass (recoloured old pixels))
unfolding after_first
first_alike place region head flags quality pass old pixels =
    after SceneAlike _ _ _ (λ coding. after SceneAlike _ _ _ (λ may. after SceneAlike _ _ _ (λ tile.
    gives SceneAlike _ _ (with_tile_alike old pixels _ region.rects tile))))

upgrade_alike : (place : Place) (region : RegionRead) (head : TileHead) (quality : ℕ) (pass : UpgradePass) (old : Scene) (pixels : List Pixel)
    → Follows SceneAlike (after_upgrade place region head quality pass old) (after_upgrade place region head quality pass (recoloured old pixels))
unfolding after_upgrade
upgrade_alike place region head quality pass old pixels =
    after SceneAlike _ _ _ (λ coding. after SceneAlike _ _ _ (λ before. after SceneAlike _ _ _ (λ tile.
    gives SceneAlike _ _ (with_tile_alike old pixels _ region.rects tile))))

tile_over : (place : Place) (region : RegionRead) (tile : Tile) (old : Scene) (pixels : List Pixel)
    → Follows SceneAlike (after_tile place region tile old) (after_tile place region tile (recoloured old pixels))
tile_over place region (Simple head flags pass) old pixels = first_alike place region head flags NO_QUALITY pass old pixels
tile_over place region (First head flags quality pass) old pixels = first_alike place region head flags quality pass old pixels
tile_over place region (Upgrade head quality pass) old pixels = upgrade_alike place region head quality pass old pixels

tile_alike : (place : Place) (region : RegionRead) (tile : Tile) (a b : Scene) → SceneAlike a b
    → Follows SceneAlike (after_tile place region tile a) (after_tile place region tile b)
tile_alike place region tile a b same =
    for_second (λ z. Follows SceneAlike (after_tile place region tile a) (after_tile place region tile z)) a b same (tile_over place region tile a)

-- steps that each leave scenes alike leave them so one after another
in_turn_alike : {X : Type 0} (step : X → Scene → Result Scene Refusal) → ((x : X) (a b : Scene) → SceneAlike a b → Follows SceneAlike (step x a) (step x b))
    → (xs : List X) (a b : Scene) → SceneAlike a b → Follows SceneAlike (in_turn step xs a) (in_turn step xs b)
unfolding in_turn
in_turn_alike step each [] a b same = gives SceneAlike a b same
in_turn_alike step each (x ∷ xs) a b same =
    both SceneAlike SceneAlike _ _ _ _ (each x a b same) (λ c d r. in_turn_alike step each xs c d r)

region_alike : (place : Place) (region : RegionRead) (a b : Scene) → SceneAlike a b
    → Follows SceneAlike (after_region place region a) (after_region place region b)
unfolding after_region
region_alike place region a b same =
    after SceneAlike _ _ _ (λ bases. in_turn_alike (after_tile place region) (tile_alike place region) region.tiles a b same)

block_alike : (place : Place) (block : Block) (a b : Scene) → SceneAlike a b → Follows SceneAlike (after_block place block a) (after_block place block b)
block_alike place (blocks.Region region) a b same = region_alike place region a b same
block_alike place block a b same = gives SceneAlike a b same

pub message_alike : (place : Place) (bytes : List ℕ) (a b : Scene) → SceneAlike a b
    → Follows SceneAlike (after_message place bytes a) (after_message place bytes b)
unfolding after_message
message_alike place bytes a b same =
    after SceneAlike _ _ _ (λ all. in_turn_alike (after_block place) (block_alike place) all a b same)
