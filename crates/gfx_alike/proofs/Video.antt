-- A message of RemoteFX video on a surface with other pixels: it is accepted alike, since each tile is decoded without a
-- look at what is drawn, and changes pixels alone.
use Rattle.std.proofs.Common.{◌≡◌, ℕ, List, [], ◌∷◌, Result, refl, sym, ◌∙◌, subst}
use Rattle.gfx_base.specs.declared.geometry.Rect.{Rect}
use Rattle.gfx_base.specs.declared.refusal.Refusal.{Refusal}
use Rattle.gfx_rlgr.specs.declared.mode.Mode.{Mode}
use Rattle.gfx_surface.specs.Picture.{Picture}
use Rattle.gfx_prog_block.specs.declared.area.Area.{Area}
use Rattle.gfx_rfx_video.specs.declared.block.VideoBlock.{VideoBlock}
use Rattle.gfx_rfx_video.specs.declared.block.VideoBlock.TheVariants as blocks
use Rattle.gfx_rfx_video.specs.declared.quants.VideoQuant.{VideoQuant}
use Rattle.gfx_rfx_video.specs.declared.set.TileSet.{TileSet}
use Rattle.gfx_rfx_video.specs.declared.tile.CodedTile.{CodedTile}
use Rattle.gfx_prog_block.specs.declared.tile.TileHead.{TileHead}
use Rattle.gfx_rfx_video.specs.Showing.{open_areas, shown_in}
use Rattle.gfx_rfx_video.specs.Video.{Scene, scene, in_turn, after_tile, after_set, painted, after_block, after_blocks, after_video}
use Rattle.gfx_state.specs.Alike.{outline}
use Rattle.gfx_state.proofs.Following.{Follows, gives, after, both}
use Rattle.gfx_alike.proofs.Surfaces.{SameOutline}

-- steps that each keep a relation keep it one after another
in_turn_alike : {X S : Type 0} (R : S → S → Type 0) (step : X → S → Result S Refusal) → ((x : X) (a b : S) → R a b → Follows R (step x a) (step x b))
    → (xs : List X) (a b : S) → R a b → Follows R (in_turn step xs a) (in_turn step xs b)
unfolding in_turn
in_turn_alike R step each [] a b same = gives R a b same
in_turn_alike R step each (x ∷ xs) a b same =
    both R R _ _ _ _ (each x a b same) (λ c d r. in_turn_alike R step each xs c d r)

outline-shown_in : (rect : Rect) (areas : List Area) (head : TileHead) (planes : _) (p : Picture) → outline (shown_in rect areas head planes p) ≡ outline p
unfolding shown_in
outline-shown_in rect areas head planes p = refl

tile_alike : (rect : Rect) (mode : Mode) (quants : List VideoQuant) (areas : List Area) (tile : CodedTile) (p q : Picture) → SameOutline p q
    → Follows SameOutline (after_tile rect mode quants areas tile p) (after_tile rect mode quants areas tile q)
unfolding after_tile
tile_alike rect mode quants areas tile p q same =
    after SameOutline _ _ _ (λ planes. gives SameOutline _ _
    (outline-shown_in rect areas tile.head planes p ∙ same ∙ sym (outline-shown_in rect areas tile.head planes q)))

set_alike : (rect : Rect) (areas : List Area) (set : TileSet) (p q : Picture) → SameOutline p q
    → Follows SameOutline (after_set rect areas set p) (after_set rect areas set q)
unfolding after_set
set_alike rect areas set p q same =
    after SameOutline _ _ _ (λ mode. after SameOutline _ _ _ (λ bases.
    in_turn_alike SameOutline (after_tile rect mode set.quants areas) (tile_alike rect mode set.quants areas) set.tiles p q same))

-- the same rectangles, and a picture that differs in pixels alone
record SceneAlike (a b : Scene) : Type 0 where
  areas : a.areas ≡ b.areas
  picture : SameOutline a.picture b.picture

painted_over : (rect : Rect) (set : TileSet) (areas : List Area) (p q : Picture) → SameOutline p q
    → Follows SceneAlike (painted rect set (scene areas p)) (painted rect set (scene areas q))
unfolding painted
painted_over rect set areas p q same =
    both SameOutline SceneAlike _ _ _ _ (set_alike rect (open_areas rect areas) set p q same) (λ x y r.
    gives SceneAlike _ _ (record { areas = refl; picture = r }))

painted_alike : (rect : Rect) (set : TileSet) (a b : Scene) → SceneAlike a b → Follows SceneAlike (painted rect set a) (painted rect set b)
painted_alike rect set a b same =
    subst (λ areas. Follows SceneAlike (painted rect set a) (painted rect set (scene areas b.picture))) same.areas
    (painted_over rect set a.areas a.picture b.picture same.picture)

block_alike : (rect : Rect) (block : VideoBlock) (a b : Scene) → SceneAlike a b → Follows SceneAlike (after_block rect block a) (after_block rect block b)
block_alike rect (blocks.Region areas) a b same = gives SceneAlike _ _ (record { areas = refl; picture = same.picture })
block_alike rect (blocks.TileSet set) a b same = painted_alike rect set a b same
block_alike rect block a b same = gives SceneAlike a b same

blocks_alike : (rect : Rect) (all : List VideoBlock) (p q : Picture) → SameOutline p q
    → Follows SameOutline (after_blocks rect all p) (after_blocks rect all q)
unfolding after_blocks
blocks_alike rect all p q same =
    both SceneAlike SameOutline _ _ _ _
    (in_turn_alike SceneAlike (after_block rect) (block_alike rect) all (scene [] p) (scene [] q) (record { areas = refl; picture = same }))
    (λ x y r. gives SameOutline _ _ r.picture)

pub video_alike : (rect : Rect) (bytes : List ℕ) (p q : Picture) → SameOutline p q → Follows SameOutline (after_video rect bytes p) (after_video rect bytes q)
unfolding after_video
video_alike rect bytes p q same = after SameOutline _ _ _ (λ all. blocks_alike rect all p q same)
