-- The messages of a paint, one group of squares after another.
use Rattle.std.proofs.Common.{◌≡◌, ◌∙◌, ◌<◌, ◌≤◌, ◌^◌, ℕ, zero, suc, List, [], ◌∷◌, ◌++◌, length, map, take, drop, Ok, refl, sym, ap, length-take, length-drop, take-append-drop, arith}
use Rattle.std.proofs.lemmas.List.{length-map, map-append}
use Rattle.std.specs.List.{AllByRecursion, fold}
use Rattle.gfx_base.specs.declared.geometry.Cell.{Cell}
use Rattle.gfx_base.specs.declared.geometry.Rect.{Rect}
use Rattle.gfx_base.specs.Geometry.{height_of, width_of}
use Rattle.gfx_base.proofs.ResultLemmas.{and_then_at}
use Rattle.gfx_quant.specs.declared.setting.Setting.{Setting}
use Rattle.gfx_quant.specs.Setting.{IsSetting}
use Rattle.gfx_rlgr.specs.declared.mode.Mode.{Mode}
use Rattle.gfx_prog_encode.specs.declared.TheConstants.{MOST_SENDS}
use Rattle.gfx_script.specs.declared.picture.Picture.{Picture as Drawing}
use Rattle.gfx_surface.specs.Picture.{Picture}
use Rattle.gfx_prog_live.specs.Live.{following, groups_of, in_groups, numbered}
use Rattle.gfx_prog_law.proofs.Apart.{all-drop, all-take}
use Rattle.gfx_rfx_video.specs.declared.video_tile.VideoTile.{VideoTile}
use Rattle.gfx_rfx_video.specs.Message.{video_data}
use Rattle.gfx_rfx_video.specs.Painted.{all_painted, tile_painted}
use Rattle.gfx_rfx_video.specs.Video.{after_video, in_turn}
use Rattle.gfx_rfx_video.proofs.Painted.{sent-painted}
use Rattle.gfx_prog_law.proofs.Apart.{Met}
use Rattle.gfx_video_paint.specs.Shown.{IsFilled, VideoPayloadsAreShort, VideoPayloadsShow, shown_as_video}
use Rattle.gfx_video_paint.specs.Video.{laid, squares_of, video_payload, video_setting, video_tile, videos_after}
use Rattle.gfx_video_paint.proofs.Sent.{AreMet, is-setting, payload-short, squares-met, tiles-plain, tiles-sent}

-- tiles that are painted in two parts
pub painted-append : (rect : Rect) (first later : List VideoTile) (surface : Picture) → all_painted rect (first ++ later) surface ≡ all_painted rect later (all_painted rect first surface)
unfolding all_painted
painted-append rect [] later surface = refl
painted-append rect (t ∷ first) later surface = painted-append rect first later (tile_painted rect t surface)

fewer : (most : ℕ) (square : Cell) (squares : List Cell) → length (square ∷ squares) ≤ suc most → length (drop MOST_SENDS (square ∷ squares)) ≤ most
fewer most square squares few = omega (arith, few, length-drop MOST_SENDS (square ∷ squares))

first-few : (squares : List Cell) → length (take MOST_SENDS squares) ≤ 256
first-few squares = omega (arith, length-take MOST_SENDS squares)

module _ (setting : Setting) (mode : Mode) (picture : Drawing) (is : IsSetting setting) where
  abbrev tile : Cell → VideoTile
  tile square = video_tile setting picture square

  abbrev payload : List Cell → ℕ → List ℕ
  payload squares index = video_payload setting mode picture squares index

  -- ---- what they show

  module _ (rect : Rect) (wide : picture.width < 2 ^ 16) (high : picture.height < 2 ^ 16) (filled : IsFilled picture rect) where
    -- a message
    group-shows : (squares : List Cell) (index : ℕ) (surface : Picture) → length squares ≤ 256 → AreMet setting picture squares
        → after_video rect (payload squares index) surface ≡ Ok (all_painted rect (map tile squares) surface)
    unfolding video_payload
    group-shows squares index surface few met =
        (λ i. after_video rect (video_data (video_setting setting) mode (sym filled.width i) (sym filled.height i) (map tile squares) index) surface)
        ∙ sent-painted (video_setting setting) mode rect (map tile squares) index surface (omega (arith, wide, filled.width)) (omega (arith, high, filled.height))
        (omega (arith, few, length-map squares tile)) (is-setting setting is)
        (tiles-sent setting picture (width_of rect) (height_of rect) filled.width filled.height squares met) (tiles-plain setting picture is squares)

    -- a message, and what follows it
    followed : (n : ℕ) (squares : List Cell) (index : ℕ) (later : List (List ℕ)) (surface : Picture) → length (take n squares) ≤ 256 → AreMet setting picture squares
        → in_turn (after_video rect) later (all_painted rect (map tile (take n squares)) surface)
        ≡ Ok (all_painted rect (map tile (drop n squares)) (all_painted rect (map tile (take n squares)) surface))
        → in_turn (after_video rect) (payload (take n squares) index ∷ later) surface ≡ Ok (all_painted rect (map tile squares) surface)
    unfolding in_turn
    followed n squares index later surface few met rest =
        and_then_at (after_video rect (payload (take n squares) index) surface) (all_painted rect (map tile (take n squares)) surface) (in_turn (after_video rect) later)
        (group-shows (take n squares) index surface few (all-take (Met (laid picture)) n squares met))
        ∙ rest
        ∙ ap (λ p. Ok p)
        (sym (painted-append rect (map tile (take n squares)) (map tile (drop n squares)) surface)
        ∙ ap (λ tiles. all_painted rect tiles surface) (sym (map-append tile (take n squares) (drop n squares)) ∙ ap (map tile) (take-append-drop n squares)))

    -- all
    groups-show : (most : ℕ) (squares : List Cell) (next : ℕ) (surface : Picture) → length squares ≤ most → AreMet setting picture squares
        → in_turn (after_video rect) (numbered payload (groups_of most squares) next) surface ≡ Ok (all_painted rect (map tile squares) surface)
    unfolding in_turn numbered groups_of all_painted
    groups-show zero [] next surface few met = refl
    groups-show zero (square ∷ squares) next surface few met = absurd (omega (arith, few))
    groups-show (suc most) [] next surface few met = refl
    groups-show (suc most) (square ∷ squares) next surface few met =
        followed MOST_SENDS (square ∷ squares) next (numbered payload (groups_of most (drop MOST_SENDS (square ∷ squares))) (following next)) surface (first-few (square ∷ squares)) met
        (groups-show most (drop MOST_SENDS (square ∷ squares)) (following next) (all_painted rect (map tile (take MOST_SENDS (square ∷ squares))) surface)
        (fewer most square squares few) (all-drop (Met (laid picture)) MOST_SENDS (square ∷ squares) met))

  -- ---- how long they are

  groups-short : (most : ℕ) (squares : List Cell) (next : ℕ) → AllByRecursion (λ (bytes : List ℕ). length bytes ≤ 51000000) (numbered payload (groups_of most squares) next)
  unfolding numbered groups_of
  groups-short zero squares next = tt
  groups-short (suc most) [] next = tt
  groups-short (suc most) (square ∷ squares) next = (
    payload-short setting picture mode is (take MOST_SENDS (square ∷ squares)) next (first-few (square ∷ squares)),
    groups-short most (drop MOST_SENDS (square ∷ squares)) (following next),
  )

pub payloads-show : VideoPayloadsShow
unfolding shown_as_video
payloads-show setting mode picture next rect surface is wide high some filled =
    groups-show setting mode picture is rect wide high filled (length (squares_of picture)) (squares_of picture) next surface (omega arith) (squares-met setting picture some)

pub payloads-short : VideoPayloadsAreShort
payloads-short setting mode picture next is = groups-short setting mode picture is (length (squares_of picture)) (squares_of picture) next

-- ---- the number of the next message

number-small : (groups : List (List Cell)) (next : ℕ) → next < 2 ^ 32 → fold (λ number (_ : List Cell). following number) next groups < 2 ^ 32
number-small [] next small = small
number-small (group ∷ groups) next small = number-small groups (following next) (omega arith)

-- fits its field
pub videos-fit : (picture : Drawing) (next : ℕ) → next < 2 ^ 32 → videos_after picture next < 2 ^ 32
videos-fit picture next small = number-small (in_groups (squares_of picture)) next small
