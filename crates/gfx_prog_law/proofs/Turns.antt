-- What a client does with the tiles of a message, one after another.
use Rattle.std.proofs.Common.{◌≡◌, ◌∙◌, ℕ, ◌-◌, Bool, true, false, ◌||◌, not, List, [], ◌∷◌, map, Option, is_some, Ok, refl, ap, subst}
use Rattle.std.specs.Prelude.{nat_lt}
use Rattle.std.specs.FinMap as finmap
use Rattle.std.specs.List.{AllByRecursion}
use Rattle.std.specs.Option.{ok_or}
use Rattle.std.proofs.lemmas.List.Elements.{recursion_from_All}
use Rattle.gfx_base.specs.declared.refusal.Refusal.TheVariants.{NoFirstPass, TileBudget, TransformChanged}
use Rattle.gfx_base.specs.Results.{and_then, check}
use Rattle.gfx_base.proofs.ResultLemmas.{and_then_at}
use Rattle.gfx_dwt.specs.declared.layout.Transform.{Transform}
use Rattle.gfx_quant.specs.declared.quant.Component.{Component}
use Rattle.gfx_quant.specs.declared.quant.Component.TheVariants.{Y, Cb, Cr}
use Rattle.gfx_quant.specs.declared.setting.Setting.{Setting}
use Rattle.gfx_quant.specs.Setting.{IsSetting}
use Rattle.gfx_tile_state.specs.declared.state.TileState.{TileState}
use Rattle.gfx_tile_state.specs.Record.{fits_transform}
use Rattle.gfx_tile_make.specs.Levels.{record_at, tile_at}
use Rattle.gfx_tile_make.specs.Source.{SourceTile}
use Rattle.gfx_prog_block.specs.declared.area.Area.{Area}
use Rattle.gfx_prog_block.specs.declared.region.Region.{Region as RegionRead}
use Rattle.gfx_prog_block.specs.declared.tile.Tile.{Tile}
use Rattle.gfx_prog_block.specs.Fitting.{Fits}
use Rattle.gfx_prog_block.specs.Reading.{blocks_of as read_blocks}
use Rattle.gfx_prog_block.specs.Spelling.{spelling}
use Rattle.gfx_prog_encode.specs.declared.send.TileSend.{TileSend}
use Rattle.gfx_prog_encode.specs.Inside.{IsRaised}
use Rattle.gfx_prog_encode.specs.Messages.{area_of, blocks_of, first_pass, first_tile, flags_of, head_of, improve_data, paint_data, quality_of, region_of, upgrade_pass, upgrade_tile}
use Rattle.gfx_prog_decode.specs.declared.TheConstants.{MOST_RECORDS}
use Rattle.gfx_prog_decode.specs.declared.key.Place.{Place}
use Rattle.gfx_prog_decode.specs.Coding.{Coding, are_bases, coding_of, positions_in}
use Rattle.gfx_prog_decode.specs.Passes.{improved, may_start, start_of, started}
use Rattle.gfx_prog_decode.specs.Progressive.{after_first, after_message, after_region, after_tile, after_upgrade, is_difference}
use Rattle.gfx_prog_decode.specs.Scene.{Scene, in_turn}
use Rattle.gfx_prog_law.specs.Accepted.{ImproveIsAccepted, IsSend, MayAllBeImproved, MayAllBePainted, MayBeImproved, MayBePainted, PaintIsAccepted, painted, raised, record_for, shown_at_level}
use Rattle.gfx_prog_law.proofs.Codings.{coding-again, coding_at, first-names, quality-names}
use Rattle.gfx_prog_law.proofs.Fields.{first-blocks-fit, sends-setting, upgrade-blocks-fit}
use Rattle.gfx_prog_law.proofs.Tiles.{tile-begun, tile-raised}
use Rattle.gfx_prog_law.proofs.Heads.{blocks-again, difference-again}
use Rattle.gfx_prog_law.proofs.Quants.{are-bases}

-- ---- one tile

-- the bit positions that are read are those of the record that is left
positions-are : (source : SourceTile) (level : ℕ) (component : Component) → positions_in (coding_at source.setting level) component ≡ (record_at source component level).positions
positions-are source level Y = refl
positions-are source level Cb = refl
positions-are source level Cr = refl

-- a plain tile may always follow, a difference tile one of its own transform
same-transform : (difference : Bool) (before : Option Transform) (t : Transform) → (difference ≡ true → fits_transform before t ≡ true) → (not difference || fits_transform before t) ≡ true
same-transform false before t fits = refl
same-transform true before t fits = fits refl

-- a tile may start where its transform fits and there is room
may-start : (difference : Bool) (before : Option TileState) (count : ℕ) (t : Transform) → (difference ≡ true → fits_transform (start_of before).transform t ≡ true)
    → (is_some before || nat_lt count MOST_RECORDS) ≡ true → may_start difference before count t ≡ Ok tt
unfolding may_start
may-start difference before count t fits room =
    and_then_at (check TransformChanged (not difference || fits_transform (start_of before).transform t)) tt _ (ap (check TransformChanged) (same-transform difference (start_of before).transform t fits))
    ∙ ap (check TileBudget) room

module _ (place : Place) (sends : List TileSend) (tiles : List Tile) where
  -- a tile at the first level leaves its record, shown
  first-turn : (send : TileSend) (old : Scene) → IsSetting send.tile.setting → IsSend send.tile.setting send → MayBePainted place old send
      → after_tile place (region_of send.tile.setting sends tiles) (first_tile send) old ≡ Ok (shown_at_level place (map area_of sends) 0 send old)
  unfolding after_first
  first-turn send old set is may =
      let region : RegionRead = region_of send.tile.setting sends tiles in
      let before : Option TileState = record_for place old send in
      let coding : Coding = coding_at send.tile.setting 0 in
      let same : is_difference (flags_of send.tile) ≡ send.tile.difference = difference-again send.tile.difference in
      and_then_at (coding_of region old.picture.width old.picture.height (head_of send) 0) coding _
      (coding-again send.tile.setting sends tiles old.picture.width old.picture.height send 0 0 set may.begins (first-names send.tile.setting set))
      ∙ and_then_at (may_start (is_difference (flags_of send.tile)) before (finmap.len old.records) coding.transform) tt _
      (ap (λ d. may_start d before (finmap.len old.records) coding.transform) same ∙ may-start send.tile.difference before (finmap.len old.records) send.tile.setting.transform may.goes_on.transform may.room)
      ∙ and_then_at (started (is_difference (flags_of send.tile)) coding (first_pass send.tile) (start_of before)) (tile_at send.tile 0) _
      (ap (λ d. started d coding (first_pass send.tile) (start_of before)) same
      ∙ tile-begun send.tile.difference coding send.tile (start_of before) is.may set refl (positions-are send.tile 0) may.goes_on.kept)

  -- an upgrade leaves it at its level
  upgrade-turn : (send : TileSend) (old : Scene) → IsSetting send.tile.setting → IsSend send.tile.setting send → MayBeImproved place old send
      → after_tile place (region_of send.tile.setting sends tiles) (upgrade_tile send.tile.setting send) old ≡ Ok (shown_at_level place (map area_of sends) send.level send old)
  unfolding after_upgrade
  upgrade-turn send old set is may =
      let region : RegionRead = region_of send.tile.setting sends tiles in
      let before : TileState = tile_at send.tile (send.level - 1) in
      let quality : ℕ = quality_of send.tile.setting send.level in
      let coding : Coding = coding_at send.tile.setting send.level in
      and_then_at (coding_of region old.picture.width old.picture.height (head_of send) quality) coding _
      (coding-again send.tile.setting sends tiles old.picture.width old.picture.height send quality send.level set may.begins (quality-names send.tile.setting send.level set may.listed))
      ∙ and_then_at (ok_or (record_for place old send) NoFirstPass) before _ (ap (λ o. ok_or o NoFirstPass) may.before)
      ∙ and_then_at (improved coding (upgrade_pass send.tile send.level) before) (tile_at send.tile send.level) _
      (tile-raised coding send.tile send.level is.may set may.first may.listed refl (positions-are send.tile send.level))

  module _ (setting : Setting) (set : IsSetting setting) where
    -- a tile of the setting of its message
    of-setting : (P : Setting → Type 0) (send : TileSend) → IsSend setting send → (IsSetting send.tile.setting → IsSend send.tile.setting send → P send.tile.setting) → P setting
    of-setting P send is holds =
        subst P is.coded (holds (sends-setting setting send set is) (record { may = is.may; coded = refl; x = is.x; y = is.y; rect = is.rect }))

    -- ---- all tiles

    -- those that paint
    painted-turns : (rest : List TileSend) (old : Scene) → AllByRecursion (IsSend setting) rest → MayAllBePainted place (map area_of sends) rest old
        → in_turn (after_tile place (region_of setting sends tiles)) (map first_tile rest) old ≡ Ok (painted place (map area_of sends) rest old)
    unfolding in_turn
    painted-turns [] old all may = refl
    painted-turns (send ∷ rest) old all may =
        and_then_at (after_tile place (region_of setting sends tiles) (first_tile send) old) (shown_at_level place (map area_of sends) 0 send old) _
        (of-setting (λ s. after_tile place (region_of s sends tiles) (first_tile send) old ≡ Ok (shown_at_level place (map area_of sends) 0 send old)) send all.0 (λ s is. first-turn send old s is may.0))
        ∙ painted-turns rest (shown_at_level place (map area_of sends) 0 send old) all.1 may.1

    -- those that improve
    raised-turns : (rest : List TileSend) (old : Scene) → AllByRecursion (IsSend setting) rest → MayAllBeImproved place (map area_of sends) rest old
        → in_turn (after_tile place (region_of setting sends tiles)) (map (upgrade_tile setting) rest) old ≡ Ok (raised place (map area_of sends) rest old)
    unfolding in_turn
    raised-turns [] old all may = refl
    raised-turns (send ∷ rest) old all may =
        and_then_at (after_tile place (region_of setting sends tiles) (upgrade_tile setting send) old) (shown_at_level place (map area_of sends) send.level send old) _
        (of-setting (λ s. after_tile place (region_of s sends tiles) (upgrade_tile s send) old ≡ Ok (shown_at_level place (map area_of sends) send.level send old)) send all.0 (λ s is. upgrade-turn send old s is may.0))
        ∙ raised-turns rest (shown_at_level place (map area_of sends) send.level send old) all.1 may.1

-- ---- the message

-- a message of one region that fits its fields does what its tiles do
message-done : (place : Place) (region : RegionRead) (index : ℕ) (old new : Scene) → AllByRecursion Fits (blocks_of region index) → are_bases region.quants ≡ true
    → in_turn (after_tile place region) region.tiles old ≡ Ok new → after_message place (spelling (blocks_of region index)) old ≡ Ok new
unfolding after_message after_region in_turn and_then
message-done place region index old new fits bases done =
    and_then_at (read_blocks (spelling (blocks_of region index))) (blocks_of region index) _ (blocks-again (blocks_of region index) fits)
    ∙ rw (bases, done) refl

-- each tile is raised that may be
all-raised : (place : Place) (areas : List Area) (sends : List TileSend) (old : Scene) → MayAllBeImproved place areas sends old → AllByRecursion IsRaised sends
all-raised place areas [] old may = tt
all-raised place areas (send ∷ sends) old may = ((may.0.first, may.0.listed), all-raised place areas sends (shown_at_level place areas send.level send old) may.1)

-- the data that paint are accepted
pub paint-accepted : PaintIsAccepted
unfolding paint_data
paint-accepted place setting sends index old set are few small may =
    let all : AllByRecursion (IsSend setting) sends = recursion_from_All (IsSend setting) sends are in
    message-done place (region_of setting sends (map first_tile sends)) index old (painted place (map area_of sends) sends old) (first-blocks-fit setting sends index set all few small) (are-bases setting set)
    (painted-turns place sends (map first_tile sends) setting set sends old all may)

-- and those that improve
pub improve-accepted : ImproveIsAccepted
unfolding improve_data
improve-accepted place setting sends index old set are few small may =
    let all : AllByRecursion (IsSend setting) sends = recursion_from_All (IsSend setting) sends are in
    message-done place (region_of setting sends (map (upgrade_tile setting) sends)) index old (raised place (map area_of sends) sends old)
    (upgrade-blocks-fit setting sends index set all (all-raised place (map area_of sends) sends old may) few small) (are-bases setting set)
    (raised-turns place sends (map (upgrade_tile setting) sends) setting set sends old all may)
