-- A message changes no picture's sides.
use Rattle.std.proofs.Common.{◌≡◌, ◌∙◌, ap, sym, refl, ℕ, List, [], ◌∷◌, Result, Ok}
use Rattle.gfx_base.specs.Results.{check}
use Rattle.gfx_base.specs.declared.refusal.Refusal.{Refusal}
use Rattle.gfx_base.specs.declared.refusal.Refusal.TheVariants.{QuantRange}
use Rattle.gfx_base.proofs.ResultLemmas.{and_then_ok}
use Rattle.gfx_prog_block.specs.declared.area.Area.{Area}
use Rattle.gfx_prog_block.specs.declared.block.Block.{Block}
use Rattle.gfx_prog_block.specs.declared.block.Block.TheVariants as blocks
use Rattle.gfx_prog_block.specs.declared.region.Region.{Region as RegionRead}
use Rattle.gfx_prog_block.specs.declared.tile.FirstPass.{FirstPass}
use Rattle.gfx_prog_block.specs.declared.tile.Tile.{Tile}
use Rattle.gfx_prog_block.specs.declared.tile.Tile.TheVariants.{Simple, First, Upgrade}
use Rattle.gfx_prog_block.specs.declared.tile.TheConstants.{NO_QUALITY}
use Rattle.gfx_prog_block.specs.declared.tile.TileHead.{TileHead}
use Rattle.gfx_prog_block.specs.declared.tile.UpgradePass.{UpgradePass}
use Rattle.gfx_prog_block.specs.Reading.{blocks_of}
use Rattle.gfx_tile_state.specs.declared.state.TileState.{TileState}
use Rattle.gfx_prog_decode.specs.declared.key.Key.{Key}
use Rattle.gfx_prog_decode.specs.declared.key.Place.{Place}
use Rattle.gfx_prog_decode.specs.Coding.{are_bases}
use Rattle.gfx_prog_decode.specs.Progressive.{after_block, after_first, after_message, after_region, after_tile, after_upgrade, with_tile}
use Rattle.gfx_prog_decode.specs.Scene.{Scene, in_turn}
use Rattle.gfx_prog_decode.specs.Showing.{shown_in}

-- the sides of two scenes are the same
abbrev pub SameSides : Scene → Scene → Type 0
SameSides old new = (new.picture.width ≡ old.picture.width) × (new.picture.height ≡ old.picture.height)

joined : (a b c : Scene) → SameSides a b → SameSides b c → SameSides a c
joined a b c (width, height) (further, higher) = (further ∙ width, higher ∙ height)

shown_sides : (old : Scene) (key : Key) (areas : List Area) (tile : TileState) → SameSides old (with_tile old key areas tile)
unfolding shown_in
shown_sides old key areas tile = (refl, refl)

ended : (old : Scene) (key : Key) (areas : List Area) (tile : TileState) (new : Scene) → ◌≡◌ {A = Result Scene Refusal} (Ok (with_tile old key areas tile)) (Ok new) → SameSides old new
ended old key areas tile new e =
    let same : with_tile old key areas tile ≡ new = cc in
    let sides = shown_sides old key areas tile in
    (ap (λ z. z.picture.width) (sym same) ∙ sides.0, ap (λ z. z.picture.height) (sym same) ∙ sides.1)

first_sides : (place : Place) (region : RegionRead) (head : TileHead) (flags quality : ℕ) (pass : FirstPass) (old new : Scene)
    → after_first place region head flags quality pass old ≡ Ok new → SameSides old new
unfolding after_first
first_sides place region head flags quality pass old new e =
    let coding = and_then_ok _ _ new e in
    let may = and_then_ok _ _ new coding.2 in
    let tile = and_then_ok _ _ new may.2 in
    ended old _ region.rects tile.0 new tile.2

upgrade_sides : (place : Place) (region : RegionRead) (head : TileHead) (quality : ℕ) (pass : UpgradePass) (old new : Scene)
    → after_upgrade place region head quality pass old ≡ Ok new → SameSides old new
unfolding after_upgrade
upgrade_sides place region head quality pass old new e =
    let coding = and_then_ok _ _ new e in
    let before = and_then_ok _ _ new coding.2 in
    let tile = and_then_ok _ _ new before.2 in
    ended old _ region.rects tile.0 new tile.2

tile_sides : (place : Place) (region : RegionRead) (tile : Tile) (old new : Scene) → after_tile place region tile old ≡ Ok new → SameSides old new
tile_sides place region (Simple head flags pass) old new e = first_sides place region head flags NO_QUALITY pass old new e
tile_sides place region (First head flags quality pass) old new e = first_sides place region head flags quality pass old new e
tile_sides place region (Upgrade head quality pass) old new e = upgrade_sides place region head quality pass old new e

turn_sides : {X : Type 0} (step : X → Scene → Result Scene Refusal) → ((x : X) (old new : Scene) → step x old ≡ Ok new → SameSides old new)
    → (xs : List X) (old new : Scene) → in_turn step xs old ≡ Ok new → SameSides old new
unfolding in_turn
turn_sides step each [] old new e = let same : old ≡ new = cc in (ap (λ z. z.picture.width) (sym same), ap (λ z. z.picture.height) (sym same))
turn_sides step each (x ∷ xs) old new e =
    let first = and_then_ok (step x old) (in_turn step xs) new e in
    joined old first.0 new (each x old first.0 first.1) (turn_sides step each xs first.0 new first.2)

region_sides : (place : Place) (region : RegionRead) (old new : Scene) → after_region place region old ≡ Ok new → SameSides old new
unfolding after_region
region_sides place region old new e =
    let bases = and_then_ok (check QuantRange (are_bases region.quants)) (λ _. in_turn (after_tile place region) region.tiles old) new e in
    turn_sides (after_tile place region) (tile_sides place region) region.tiles old new bases.2

block_sides : (place : Place) (block : Block) (old new : Scene) → after_block place block old ≡ Ok new → SameSides old new
block_sides place (blocks.Region region) old new e = region_sides place region old new e
block_sides place other old new e = let same : old ≡ new = cc in (ap (λ z. z.picture.width) (sym same), ap (λ z. z.picture.height) (sym same))

-- the sides are as they were
pub message_sides : (place : Place) (bytes : List ℕ) (old new : Scene) → after_message place bytes old ≡ Ok new → SameSides old new
unfolding after_message
message_sides place bytes old new e =
    let all = and_then_ok (blocks_of bytes) (λ all. in_turn (after_block place) all old) new e in
    turn_sides (after_block place) (block_sides place) all.0 old new all.2
