-- Steps over a list, one after another, and the answers of calls.
use Rattle.std.proofs.Common.{◌≡◌, ◌∙◌, ap, sym, refl, subst, true, false, eqb, ℕ, ◌-◌, ◌<◌, ◌≤◌, ◌+◌, List, [], ◌∷◌, drop, length, get_or, Result, Ok, Err, inl, inr}
use Rattle.std.proofs.lemmas.Bool.{cases_Bool, eqb-true}
use Rattle.std.proofs.lemmas.List.{drop_more, drop_all, nil_from_length}
use Rattle.gfx_base.specs.Outcome.{Applies, Gives}
use Rattle.gfx_base.specs.Results.{and_then}
use Rattle.gfx_base.specs.declared.answer.Cause.{Cause}
use Rattle.gfx_base.specs.declared.answer.Cause.TheVariants.{Memory, Refused}
use Rattle.gfx_base.specs.declared.geometry.Rect.{Rect}
use Rattle.gfx_base.specs.declared.pixel.Pixel.{Pixel}
use Rattle.gfx_base.specs.declared.refusal.Refusal.{Refusal}
use Rattle.gfx_base.proofs.ResultLemmas.{and_then_at, and_then_ok, and_then_refused}
use Rattle.gfx_layout.specs.declared.stop.Stop.{Stop}
use Rattle.gfx_rlgr.specs.declared.mode.Mode.{Mode}
use Rattle.gfx_surface.specs.declared.kept_cell.KeptCell.{KeptCell}
use Rattle.gfx_surface.specs.Kept.{put_back}
use Rattle.gfx_surface.specs.Picture.{Picture}
use Rattle.gfx_prog_block.specs.declared.area.Area.{Area}
use Rattle.gfx_rfx_video.specs.declared.block.VideoBlock.{VideoBlock}
use Rattle.gfx_rfx_video.specs.declared.planes.Planes.{Planes}
use Rattle.gfx_rfx_video.specs.declared.quants.VideoQuant.{VideoQuant}
use Rattle.gfx_rfx_video.specs.declared.tile.CodedTile.{CodedTile}
use Rattle.gfx_rfx_video.specs.BlockReading.{begins_block, block_at, blocks_within, refused, video_blocks_of}
use Rattle.gfx_rfx_video.specs.Inside.{ArePixels, corner_of, tile_pixel}
use Rattle.gfx_rfx_video.specs.Showing.{changes, drawn_where, open_areas, shown_in, tile_in}
use Rattle.gfx_rfx_video.specs.Tiles.{pixel_of, planes_of}
use Rattle.gfx_rfx_video.specs.Undo.{StaysUndoable}
use Rattle.gfx_rfx_video.specs.Video.{Scene, after_block, after_blocks, after_tile, after_video, in_turn, scene}
use Rattle.gfx_rfx_video.proofs.BlockLoops.{block_begins, blocks-some, blocks_within-none, some_left}
use Rattle.gfx_rfx_video.proofs.Drawn.{drawn-same}
use Rattle.gfx_rfx_video.proofs.Parts.{tile-high, tile-wide}
use Rattle.gfx_rfx_video.proofs.Pixels.{pixel-there}

-- ---- a loop over a list

module _ {X S : Type 0} (step : X → S → Result S Refusal) where
  -- what all make of the first state is what the rest makes of the state now
  abbrev pub SoFar : List X → S → ℕ → S → Type 0
  SoFar all old i now = in_turn step all old ≡ in_turn step (drop i all) now

  -- one more step, whatever it gives
  one-more : (all : List X) (now : S) (i : ℕ) (d : X) (due : Result S Refusal) → i < length all → step (get_or all i d) now ≡ due
      → in_turn step (drop i all) now ≡ and_then due (in_turn step (drop (i + 1) all))
  unfolding in_turn
  one-more all now i d due below did =
      ap (λ rest. in_turn step rest now) (drop_more all i d below) ∙ ap (λ r. and_then r (in_turn step (drop (i + 1) all))) did

  pub so-more : (all : List X) (old now next : S) (i : ℕ) (d : X) → i < length all → step (get_or all i d) now ≡ Ok next
      → SoFar all old i now → SoFar all old (i + 1) next
  unfolding and_then
  so-more all old now next i d below did so = so ∙ one-more all now i d (Ok next) below did

  pub so-ended : (all : List X) (old now : S) (i : ℕ) → length all ≤ i → SoFar all old i now → in_turn step all old ≡ Ok now
  unfolding in_turn
  so-ended all old now i end so = so ∙ ap (λ rest. in_turn step rest now) (drop_all i all end)

  -- where a step is refused
  pub so-refused : (refusal : Refusal) (all : List X) (old now : S) (i : ℕ) (d : X) → i < length all → step (get_or all i d) now ≡ Err refusal
      → SoFar all old i now → in_turn step all old ≡ Err refusal
  unfolding and_then
  so-refused refusal all old now i d below did so = so ∙ one-more all now i d (Err refusal) below did

  -- where it gives none
  pub so-failed : (fault : Cause Refusal) (all : List X) (old now mid new : S) (i : ℕ) (d : X) → i < length all
      → Gives {X = Unit {0}} (λ _. mid) (Err fault) (step (get_or all i d) now) → SoFar all old i now → Gives {X = Unit {0}} (λ _. new) (Err fault) (in_turn step all old)
  so-failed Memory all old now mid new i d below did so = tt
  so-failed (Refused refusal) all old now mid new i d below did so = so-refused refusal all old now i d below did so

-- ---- a tile

-- its codes say nothing
pub tile-unread : (rect : Rect) (mode : Mode) (quants : List VideoQuant) (areas : List Area) (tile : CodedTile) (picture : Picture) (refusal : Refusal) → planes_of mode quants tile ≡ Err refusal
    → after_tile rect mode quants areas tile picture ≡ Err refusal
unfolding after_tile
tile-unread rect mode quants areas tile picture refusal is = and_then_refused (planes_of mode quants tile) refusal _ is

-- its pixels are shown
pub tile-shown : (rect : Rect) (mode : Mode) (quants : List VideoQuant) (areas : List Area) (tile : CodedTile) (picture new : Picture) (planes : Planes) (pixels : List Pixel)
    → planes_of mode quants tile ≡ Ok planes → ArePixels planes pixels → new ≡ drawn_where (changes rect areas tile.head) (tile_pixel pixels (corner_of (tile_in rect tile.head))) picture
    → after_tile rect mode quants areas tile picture ≡ Ok new
unfolding after_tile shown_in
tile-shown rect mode quants areas tile picture new planes pixels is each drawn =
    and_then_at (planes_of mode quants tile) planes (λ planes. Ok (shown_in rect areas tile.head planes picture)) is
    ∙ ap (λ z. Ok z)
    (sym (drawn
    ∙ drawn-same picture (changes rect areas tile.head) (changes rect areas tile.head) (tile_pixel pixels (corner_of (tile_in rect tile.head)))
    (λ x y. pixel_of planes (y - (tile_in rect tile.head).top) (x - (tile_in rect tile.head).left)) (λ x y column row. refl)
    (λ x y hit. pixel-there planes pixels (y - (tile_in rect tile.head).top) (x - (tile_in rect tile.head).left) each (tile-high rect areas tile.head x y hit) (tile-wide rect areas tile.head x y hit))))

-- ---- the areas that are open

pub none-open : (rect : Rect) (areas : List Area) → eqb (length areas) 0 ≡ true → open_areas rect areas ≡ open_areas rect []
none-open rect areas none = ap (open_areas rect) (nil_from_length areas (eqb-true (length areas) 0 none))

pub some-open : (rect : Rect) (areas : List Area) → eqb (length areas) 0 ≡ false → open_areas rect areas ≡ areas
some-open rect [] some = cc
some-open rect (area ∷ areas) some = refl

-- ---- blocks

-- a picture after all of them
pub blocks-ended : (rect : Rect) (all : List VideoBlock) (picture : Picture) (areas : List Area) (new : Picture) → in_turn (after_block rect) all (scene [] picture) ≡ Ok (scene areas new)
    → after_blocks rect all picture ≡ Ok new
unfolding after_blocks
blocks-ended rect all picture areas new is = and_then_at (in_turn (after_block rect) all (scene [] picture)) (scene areas new) (λ last. Ok last.picture) is

-- or one is refused
pub blocks-failed : (rect : Rect) (all : List VideoBlock) (picture new : Picture) (now : Scene) (i : ℕ) (d : VideoBlock) (fault : Cause Refusal) (mid : List Area → Scene) → i < length all
    → Gives {X = List Area} mid (Err fault) (after_block rect (get_or all i d) now) → SoFar (after_block rect) all (scene [] picture) i now
    → Gives {X = Unit {0}} (λ _. new) (Err fault) (after_blocks rect all picture)
unfolding after_blocks
blocks-failed rect all picture new now i d Memory mid below did so = tt
blocks-failed rect all picture new now i d (Refused refusal) mid below did so =
    and_then_refused (in_turn (after_block rect) all (scene [] picture)) refusal (λ last. Ok last.picture) (so-refused (after_block rect) refusal all (scene [] picture) now i d below did so)

-- ---- the whole message

-- a message that is refused, or for which memory is wanting, is undone
pub undone-applies : (fault : Cause Refusal) (due : Result Picture Refusal) (old now new : Picture) (empty log : List KeptCell) → empty ≡ []
    → Gives {X = Unit {0}} (λ _. now) (Err fault) due → StaysUndoable empty old log now → new ≡ put_back log now → Applies (Err fault) old new due
undone-applies Memory due old now new empty log none told stays is = is ∙ stays old (ap (λ l. put_back l old) none)
undone-applies (Refused refusal) due old now new empty log none told stays is = (told, is ∙ stays old (ap (λ l. put_back l old) none))

-- what was done applies
pub done-applies : (due : Result Picture Refusal) (old new : Picture) → Gives {X = Unit {0}} (λ _. new) (Ok tt) due → Applies (Ok tt) old new due
done-applies due old new gives = gives

pub data-unread : (rect : Rect) (bytes : List ℕ) (fault : Cause Refusal) (blocks : Result (List VideoBlock) Refusal) (old new : Picture) → video_blocks_of bytes ≡ blocks
    → Gives {X = List VideoBlock} (λ all. all) (Err fault) blocks → new ≡ old → Applies (Err fault) old new (after_video rect bytes old)
unfolding after_video
data-unread rect bytes Memory blocks old new is told same = same
data-unread rect bytes (Refused refusal) blocks old new is told same = (and_then_refused (video_blocks_of bytes) refusal _ (is ∙ told), same)

pub data-empty : (rect : Rect) (bytes : List ℕ) (all : List VideoBlock) (old : Picture) → video_blocks_of bytes ≡ Ok all → eqb (length all) 0 ≡ true → after_video rect bytes old ≡ Ok old
unfolding after_video after_blocks in_turn and_then
data-empty rect bytes all old is none =
    and_then_at (video_blocks_of bytes) all (λ all. after_blocks rect all old) is
    ∙ ap (λ l. after_blocks rect l old) (nil_from_length all (eqb-true (length all) 0 none))

pub data-read : (rect : Rect) (bytes : List ℕ) (all : List VideoBlock) (result : Result (Unit {0}) (Cause Refusal)) (old new : Picture) → video_blocks_of bytes ≡ Ok all
    → Applies result old new (after_blocks rect all old) → Applies result old new (after_video rect bytes old)
unfolding after_video
data-read rect bytes all result old new is applies =
    subst (Applies result old new) (sym (and_then_at (video_blocks_of bytes) all (λ all. after_blocks rect all old) is)) applies

refused-ok : (found : Result (List VideoBlock) Stop) (all : List VideoBlock) → refused found ≡ Ok all → found ≡ Ok all
refused-ok (Ok x) all e = let same : x ≡ all = cc in ap (λ z. Ok z) same
refused-ok (Err stop) all e = absurd cc

-- where bytes are some blocks, one begins
pub blocks-begin : (bytes : List ℕ) (all : List VideoBlock) → video_blocks_of bytes ≡ Ok all → eqb (length all) 0 ≡ false → begins_block bytes ≡ true
unfolding video_blocks_of
blocks-begin bytes all e some =
    let found : blocks_within (length bytes) bytes ≡ Ok all = refused-ok _ all e in
    elim (cases_Bool (eqb (length bytes) 0)) [
      | inl none ↦
          let given : ◌≡◌ {A = Result (List VideoBlock) Stop} (Ok []) (Ok all) = sym (blocks_within-none (length bytes) bytes (eqb-true _ _ none)) ∙ found in
          let same : [] ≡ all = cc in
          let any : eqb (length all) 0 ≡ true = ap (λ l. eqb (length l) 0) (sym same) in
          absurd cc
      | inr more ↦
          let first = and_then_ok (block_at bytes) _ all (sym (blocks-some bytes (some_left bytes more)) ∙ found) in
          block_begins bytes first.0 first.1
    ]
