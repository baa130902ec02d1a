-- The messages of a paint that goes as video are accepted by the server's own state, one after another, fit their channel
-- messages, and change nothing outside of the paint.
use Rattle.std.proofs.Common.{◌≡◌, ◌≤◌, ◌<◌, ◌^◌, ◌-◌, ℕ, true, false, List, [], ◌∷◌, length, map, Some, Ok, refl, sym, ap, ◌∙◌, arith}
use Rattle.std.specs.FinMap.{get}
use Rattle.std.specs.List.{AllByRecursion}
use Rattle.std.specs.Option.{ok_or}
use Rattle.std.proofs.lemmas.Bool.Decides.{nat_tests}
use Rattle.gfx_base.specs.Format.{byte_of, format_of}
use Rattle.gfx_base.specs.Geometry.{IsRect, holds, lies_in}
use Rattle.gfx_base.specs.Results.{check}
use Rattle.gfx_base.specs.declared.format.Format.{Format}
use Rattle.gfx_base.specs.declared.geometry.Rect.{Rect}
use Rattle.gfx_base.specs.declared.refusal.Refusal.TheVariants as refusal
use Rattle.gfx_base.proofs.ResultLemmas.{and_then_at, and_then_ok}
use Rattle.gfx_prog_law.proofs.Apart.{all-map}
use Rattle.gfx_quant.specs.declared.setting.Setting.{Setting}
use Rattle.gfx_rfx_video.specs.declared.video_tile.VideoTile.{VideoTile}
use Rattle.gfx_rfx_video.specs.Message.{head_of}
use Rattle.gfx_rfx_video.specs.Painted.{all_painted, tile_painted}
use Rattle.gfx_rfx_video.specs.Showing.{tile_in}
use Rattle.gfx_rfx_video.specs.Video.{after_video, in_turn}
use Rattle.gfx_script.specs.declared.picture.Picture.{Picture as Source}
use Rattle.gfx_state.proofs.VideoSides.{video_shape}
use Rattle.gfx_state.specs.State.{State}
use Rattle.gfx_state.specs.Step as message
use Rattle.gfx_state.specs.Step.{data_painted, video_painted}
use Rattle.gfx_pdu.specs.Codecs.{VIDEO, codec_of}
use Rattle.gfx_state.specs.Sending.{all_steps, IsCarried}
use Rattle.gfx_pdu.specs.declared.codec.Codec.TheVariants.{Video}
use Rattle.gfx_surface.specs.Picture.{Picture, shade}
use Rattle.gfx_surface_map.specs.Shown.{with_picture}
use Rattle.gfx_tile_make.specs.Levels.{direct_pixel}
use Rattle.gfx_video_paint.proofs.Cover.{shown-height, shown-width}
use Rattle.gfx_video_paint.specs.Shown.{shown_as_video}
use Rattle.gfx_video_paint.specs.Video.{video_tiles}
use Rattle.gfx_planner.specs.VideoMessages.{video_message}
use Rattle.gfx_planner.specs.Holds.{sides_of}
use Rattle.gfx_planner.proofs.Alike.{AlikeAt, alike_both, alike_same, outside_drawn}
use Rattle.gfx_planner.proofs.Carried.{carried-wire}
use Rattle.gfx_planner.proofs.Paints.{format_back}
use Rattle.gfx_planner.proofs.TilesAccepted.{put_same, put_twice, surface_here}

-- the state once a surface is drawn on
abbrev pub video_state : State → ℕ → Picture → State
video_state state id new = record state { shown = with_picture state.shown id new }

-- one message
video_step : (state : State) (id : ℕ) (surface : Picture) (format : Format) (rect : Rect) (bytes : List ℕ) (new : Picture) → get state.shown.surfaces id ≡ Some surface → lies_in surface.width surface.height rect ≡ true
    → after_video rect bytes surface ≡ Ok new → message.step state (video_message id format rect bytes) ≡ Ok (video_state state id new)
unfolding message.step data_painted video_painted codec_of
video_step state id surface format rect bytes new there inside made =
    and_then_at (ok_or (get state.shown.surfaces id) refusal.NoSurface) surface _ (ap (λ o. ok_or o refusal.NoSurface) there)
    ∙ and_then_at (ok_or (codec_of VIDEO) refusal.CodecRefused) Video _ refl
    ∙ and_then_at (ok_or (format_of (byte_of format)) refusal.PixelFormat) format _ (ap (λ o. ok_or o refusal.PixelFormat) (format_back format))
    ∙ and_then_at (check refusal.RectOutside (lies_in surface.width surface.height rect)) tt _ (ap (check refusal.RectOutside) inside)
    ∙ and_then_at (after_video rect bytes surface) new _ made

-- all of them, where they are accepted on the surface
pub videos_accepted : (id : ℕ) (format : Format) (rect : Rect) (payloads : List (List ℕ)) (state : State) (surface new : Picture) → get state.shown.surfaces id ≡ Some surface → lies_in surface.width surface.height rect ≡ true
    → in_turn (after_video rect) payloads surface ≡ Ok new → all_steps state (map (video_message id format rect) payloads) ≡ Ok (video_state state id new)
unfolding all_steps in_turn
videos_accepted id format rect [] state surface new there inside done =
    let same : surface ≡ new = cc in
    ap Ok (sym (ap (λ surfaces. record state { shown = record state.shown { surfaces = surfaces } }) (put_same state.shown.surfaces id surface there)) ∙ ap (video_state state id) same)
videos_accepted id format rect (bytes ∷ payloads) state surface new there inside done =
    let first = and_then_ok (after_video rect bytes surface) (in_turn (after_video rect) payloads) new done in
    let shape = video_shape rect bytes surface first.0 first.1 in
    let still : lies_in first.0.width first.0.height rect ≡ true = (λ i. lies_in (shape.width i) (shape.height i) rect) ∙ inside in
    and_then_at (message.step state (video_message id format rect bytes)) (video_state state id first.0) (λ next. all_steps next (map (video_message id format rect) payloads))
    (video_step state id surface format rect bytes first.0 there inside first.1)
    ∙ videos_accepted id format rect payloads (video_state state id first.0) first.0 new (surface_here state.shown.surfaces id first.0 id refl) still first.2
    ∙ (λ i. Ok (record state { shown = record state.shown { surfaces = put_twice state.shown.surfaces id first.0 new i } }))

pub videos_carried : (id : ℕ) (format : Format) (rect : Rect) (payloads : List (List ℕ)) → id < 2 ^ 16 → IsRect rect → AllByRecursion (λ payload. length payload ≤ 51000000) payloads
    → AllByRecursion IsCarried (map (video_message id format rect) payloads)
videos_carried id format rect payloads fits place short =
    all-map (video_message id format rect) (λ payload. length payload ≤ 51000000) IsCarried
    (λ bytes few. carried-wire id VIDEO (byte_of format) rect bytes fits (omega arith) place (omega (arith, few))) payloads short

-- ---- what is shown

-- a tile's part of the paint lies in it
tile_beside : (rect : Rect) (t : VideoTile) (x y : ℕ) → holds rect x y ≡ false → holds (tile_in rect (head_of t)) x y ≡ false
tile_beside rect t x y outside = grind (arith, nat_tests)

tile_alike : (x y : ℕ) (rect : Rect) (t : VideoTile) (picture : Picture) → holds rect x y ≡ false → AlikeAt x y picture (tile_painted rect t picture)
unfolding tile_painted
tile_alike x y rect t picture outside = record {
  width = refl;
  height = refl;
  pixel = λ column row.
      outside_drawn picture (holds (tile_in rect (head_of t)))
      (λ a b. shade picture.format (direct_pixel t.tile (b - (tile_in rect (head_of t)).top) (a - (tile_in rect (head_of t)).left))) x y column row (tile_beside rect t x y outside);
}

all_alike : (x y : ℕ) (rect : Rect) (tiles : List VideoTile) (picture : Picture) → holds rect x y ≡ false → AlikeAt x y picture (all_painted rect tiles picture)
unfolding all_painted
all_alike x y rect [] picture outside = alike_same x y picture
all_alike x y rect (t ∷ tiles) picture outside =
    alike_both x y picture (tile_painted rect t picture) _ (tile_alike x y rect t picture outside) (all_alike x y rect tiles (tile_painted rect t picture) outside)

pub video_alike : (x y : ℕ) (setting : Setting) (source : Source) (rect : Rect) (picture : Picture) → holds rect x y ≡ false → AlikeAt x y picture (shown_as_video setting source rect picture)
unfolding shown_as_video
video_alike x y setting source rect picture outside = all_alike x y rect (video_tiles setting source) picture outside

pub video_sides : (setting : Setting) (source : Source) (rect : Rect) (picture : Picture) → sides_of (shown_as_video setting source rect picture) ≡ sides_of picture
video_sides setting source rect picture = λ i. record { width = shown-width setting source rect picture i; height = shown-height setting source rect picture i }
