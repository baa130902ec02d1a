-- A message of RemoteFX video changes no picture's sides, nor its format.
use Rattle.std.proofs.Common.{◌≡◌, ◌∙◌, ap, sym, refl, ℕ, List, [], ◌∷◌, Result, Ok}
use Rattle.std.specs.Option.{ok_or}
use Rattle.gfx_base.specs.Results.{check}
use Rattle.gfx_base.specs.declared.geometry.Rect.{Rect}
use Rattle.gfx_base.specs.declared.refusal.Refusal.{Refusal}
use Rattle.gfx_base.specs.declared.refusal.Refusal.TheVariants.{EntropyUnknown, QuantRange}
use Rattle.gfx_base.proofs.ResultLemmas.{and_then_ok}
use Rattle.gfx_surface.specs.Picture.{Picture}
use Rattle.gfx_rlgr.specs.declared.mode.Mode.{Mode}
use Rattle.gfx_prog_block.specs.declared.area.Area.{Area}
use Rattle.gfx_rfx_video.specs.declared.block.VideoBlock.{VideoBlock}
use Rattle.gfx_rfx_video.specs.declared.block.VideoBlock.TheVariants as blocks
use Rattle.gfx_rfx_video.specs.declared.quants.VideoQuant.{VideoQuant}
use Rattle.gfx_rfx_video.specs.declared.set.TileSet.{TileSet}
use Rattle.gfx_rfx_video.specs.declared.tile.CodedTile.{CodedTile}
use Rattle.gfx_rfx_video.specs.BlockReading.{video_blocks_of}
use Rattle.gfx_rfx_video.specs.Showing.{open_areas, shown_in}
use Rattle.gfx_rfx_video.specs.Tiles.{are_bases, planes_of}
use Rattle.gfx_rfx_video.specs.Video.{Scene, scene, in_turn, entropy_of, after_tile, after_set, painted, after_block, after_blocks, after_video}

-- the sides of two pictures are the same, and their formats
pub record SameShape (old new : Picture) : Type 0 where
  pub width : new.width ≡ old.width
  pub height : new.height ≡ old.height
  pub format : new.format ≡ old.format

kept : (picture : Picture) → SameShape picture picture
kept picture = record { width = refl; height = refl; format = refl }

equal : (old new : Picture) → old ≡ new → SameShape old new
equal old new same = record { width = ap (λ z. z.width) (sym same); height = ap (λ z. z.height) (sym same); format = ap (λ z. z.format) (sym same) }

joined : (a b c : Picture) → SameShape a b → SameShape b c → SameShape a c
joined a b c first second = record { width = second.width ∙ first.width; height = second.height ∙ first.height; format = second.format ∙ first.format }

-- one tile
tile_shape : (rect : Rect) (mode : Mode) (quants : List VideoQuant) (areas : List Area) (tile : CodedTile) (old new : Picture)
    → after_tile rect mode quants areas tile old ≡ Ok new → SameShape old new
unfolding after_tile shown_in
tile_shape rect mode quants areas tile old new e =
    let planes = and_then_ok (planes_of mode quants tile) _ new e in
    let same : shown_in rect areas tile.head planes.0 old ≡ new = let last = planes.2 in cc in
    joined old (shown_in rect areas tile.head planes.0 old) new (record { width = refl; height = refl; format = refl }) (equal _ new same)

-- one after another, where what each makes is seen as a picture
turn_shape : {X S : Type 0} (seen : S → Picture) (step : X → S → Result S Refusal) → ((x : X) (old new : S) → step x old ≡ Ok new → SameShape (seen old) (seen new))
    → (xs : List X) (old new : S) → in_turn step xs old ≡ Ok new → SameShape (seen old) (seen new)
unfolding in_turn
turn_shape seen step each [] old new e = let same : old ≡ new = cc in equal (seen old) (seen new) (ap seen same)
turn_shape seen step each (x ∷ xs) old new e =
    let first = and_then_ok (step x old) (in_turn step xs) new e in
    joined (seen old) (seen first.0) (seen new) (each x old first.0 first.1) (turn_shape seen step each xs first.0 new first.2)

set_shape : (rect : Rect) (areas : List Area) (set : TileSet) (old new : Picture) → after_set rect areas set old ≡ Ok new → SameShape old new
unfolding after_set
set_shape rect areas set old new e =
    let mode = and_then_ok (ok_or (entropy_of set.properties) EntropyUnknown) _ new e in
    let bases = and_then_ok (check QuantRange (are_bases set.quants)) (λ _. in_turn (after_tile rect mode.0 set.quants areas) set.tiles old) new mode.2 in
    turn_shape (λ z. z) (after_tile rect mode.0 set.quants areas) (tile_shape rect mode.0 set.quants areas) set.tiles old new bases.2

painted_shape : (rect : Rect) (set : TileSet) (old new : Scene) → painted rect set old ≡ Ok new → SameShape old.picture new.picture
unfolding painted
painted_shape rect set old new e =
    let picture = and_then_ok (after_set rect (open_areas rect old.areas) set old.picture) _ new e in
    let same : scene old.areas picture.0 ≡ new = let last = picture.2 in cc in
    joined old.picture picture.0 new.picture (set_shape rect (open_areas rect old.areas) set old.picture picture.0 picture.1) (equal picture.0 new.picture (ap (λ z. z.picture) same))

block_shape : (rect : Rect) (block : VideoBlock) (old new : Scene) → after_block rect block old ≡ Ok new → SameShape old.picture new.picture
block_shape rect (blocks.Region areas) old new e = let same : scene areas old.picture ≡ new = cc in equal old.picture new.picture (ap (λ z. z.picture) same)
block_shape rect (blocks.TileSet set) old new e = painted_shape rect set old new e
block_shape rect other old new e = let same : old ≡ new = cc in equal old.picture new.picture (ap (λ z. z.picture) same)

-- a message leaves the sides and the format as they were
pub video_shape : (rect : Rect) (bytes : List ℕ) (old new : Picture) → after_video rect bytes old ≡ Ok new → SameShape old new
unfolding after_video after_blocks
video_shape rect bytes old new e =
    let all = and_then_ok (video_blocks_of bytes) (λ all. after_blocks rect all old) new e in
    let last = and_then_ok (in_turn (after_block rect) all.0 (scene [] old)) (λ last. Ok last.picture) new all.2 in
    let same : last.0.picture ≡ new = let end = last.2 in cc in
    joined old last.0.picture new (turn_shape (λ z. z.picture) (after_block rect) (block_shape rect) all.0 (scene [] old) last.0 last.1) (equal last.0.picture new same)
