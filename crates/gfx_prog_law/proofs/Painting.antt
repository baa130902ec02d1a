-- The messages of a paint are taken.
use Rattle.std.proofs.Common.{◌≡◌, ◌∙◌, ◌≤◌, ℕ, true, List, [], ◌∷◌, length, map, Option, Some, Ok, refl, sym, ap, subst, arith}
use Rattle.std.specs.FinMap as finmap
use Rattle.std.specs.List.{AllByRecursion}
use Rattle.std.proofs.lemmas.List.Elements.{All-from_recursion}
use Rattle.gfx_base.specs.declared.geometry.Cell.{Cell}
use Rattle.gfx_base.specs.declared.geometry.Rect.{Rect}
use Rattle.gfx_base.specs.declared.pixel.Pixel.{Pixel}
use Rattle.gfx_base.specs.Cells.{cells_met, cut_to_cell, has_pixels}
use Rattle.gfx_base.specs.Geometry.{IsRect, lies_in}
use Rattle.gfx_quant.specs.declared.setting.Setting.{Setting}
use Rattle.gfx_quant.specs.Setting.{IsSetting}
use Rattle.gfx_script.specs.declared.picture.Picture.{Picture as Drawing}
use Rattle.gfx_script.specs.Scripted.{Script}
use Rattle.gfx_surface.specs.declared.TheConstants.{MOST_SIDE}
use Rattle.gfx_tile_state.specs.declared.state.TileState.{TileState}
use Rattle.gfx_tile_make.specs.Levels.{MayBeSent, tile_at}
use Rattle.gfx_tile_make.specs.Source.{SourceTile, difference_of, source_of}
use Rattle.gfx_tile_make.proofs.Sources.{difference-may, plain-may}
use Rattle.gfx_prog_block.specs.declared.area.Area.{Area}
use Rattle.gfx_prog_decode.specs.Records.{Records}
use Rattle.gfx_prog_decode.specs.Scene.{Scene}
use Rattle.gfx_prog_encode.specs.declared.send.TileSend.{TileSend}
use Rattle.gfx_prog_encode.specs.Messages.{area_of, paint_data}
use Rattle.gfx_prog_live.specs.Cells.{cell_key}
use Rattle.gfx_prog_live.specs.Live.{Live, painted_sends, send_of}
use Rattle.gfx_prog_live.specs.Tiles.{cell_pixels}
use Rattle.gfx_prog_law.specs.Accepted.{GoesOn, IsSend, MayAllBePainted, shown_at_level}
use Rattle.gfx_prog_law.specs.Taken.{HasRoom, LiveIn, PaintsAreTaken, WasSent, place_of}
use Rattle.gfx_prog_law.proofs.Apart.{Apart, Met, all-any, all-map, all-more, apart-kept, cells-apart, each-met, map-kept}
use Rattle.gfx_prog_law.proofs.Turns.{paint-accepted}
use Rattle.gfx_prog_law.proofs.Going.{difference-goes, gone-by, plain-goes}
use Rattle.gfx_prog_law.proofs.Groups.{GroupIsTaken, HasSides, Ready, RoomStays, begins-there, groups-taken, tile-sides}
use Rattle.gfx_prog_law.proofs.Kept.{Asked, BeginsIn, asked-next, live-after, room-after, room-for, room-next}
use Rattle.gfx_prog_law.proofs.Ranges.{in-range-fits}
use Rattle.gfx_prog_law.proofs.Sends.{cut-again, cut-begins, cut-inside, cut-rect, cut-some, is-send}
use Rattle.gfx_prog_law.proofs.Shown.{KeepsCell, own-all, painted-shown}

-- ---- a group

-- what is asked of a cell's record before its tile is painted
abbrev PaintAsk : Option TileState → TileSend → Type 0
PaintAsk before send = GoesOn before send × (send.level ≡ 0)

may-all : (id width height : ℕ) (areas : List Area) (sends : List TileSend) (old : Scene) → HasSides width height old → AllByRecursion (BeginsIn width height) sends → Apart sends
    → AllByRecursion (Asked GoesOn id old.records) sends → HasRoom id width height old.records → MayAllBePainted (place_of id) areas sends old
may-all id width height areas [] old sides begins apart goes room = tt
may-all id width height areas (send ∷ sends) old sides begins apart goes room = (
  record { begins = begins-there width height old send sides begins.0; goes_on = goes.0; room = room-for id width height old.records send begins.0 room },
  may-all id width height areas sends (shown_at_level (place_of id) areas 0 send old)
      (tile-sides width height old (cell_key id send.cell) areas (tile_at send.tile 0) sides) begins.1 apart.1
      (asked-next GoesOn id old.records send (tile_at send.tile 0) sends apart.0 goes.1) (room-next id width height old.records send (tile_at send.tile 0) begins.0 room),
)

module _ (setting : Setting) (id width height : ℕ) (set : IsSetting setting) (wide : width ≤ MOST_SIDE) (high : height ≤ MOST_SIDE) where
  abbrev Was : TileSend → Type 0
  Was send = WasSent setting width height send

  abbrev Room : Records → Type 0
  Room records = HasRoom id width height records

  all-begin : (sends : List TileSend) → AllByRecursion Was sends → AllByRecursion (BeginsIn width height) sends
  all-begin sends was = all-more Was (BeginsIn width height) (λ send w. w.begins) sends was

  group-taken : GroupIsTaken id width height Was PaintAsk Room (paint_data setting)
  group-taken sends index old ready few small =
      paint-accepted (place_of id) setting sends index old set
      (All-from_recursion (IsSend setting) sends (all-more Was (IsSend setting) (is-send setting width height wide high) sends ready.sent)) few small
      (may-all id width height (map area_of sends) sends old ready.sides (all-begin sends ready.sent) ready.apart
      (all-more (Asked PaintAsk id old.records) (Asked GoesOn id old.records) (λ send ask. ask.0) sends ready.asked) ready.room)
      ∙ ap (λ s. Ok s)
      (painted-shown id (map area_of sends) sends old (own-all sends ready.apart (all-more Was KeepsCell (λ send w. w.in_cell) sends ready.sent))
      (all-more (Asked PaintAsk id old.records) (λ (send : TileSend). send.level ≡ 0) (λ send ask. ask.1) sends ready.asked))

  room-stays : RoomStays id width height Was PaintAsk Room (paint_data setting)
  room-stays sends old was room = room-after id width height sends old (all-begin sends was) room

-- ---- the tiles of a paint

-- they are of different cells, and lie in them
module _ (script : Script) (live : Live) (id : ℕ) (drawing : Drawing) (rect : Rect) where
  sent-there : (c : Cell) (send : TileSend) → ◌≡◌ {A = Option TileSend} (Some (send_of script live id drawing rect c)) (Some send) → (send.cell.x ≡ c.x) × (send.cell.y ≡ c.y)
  unfolding send_of
  sent-there c send e = let same : send_of script live id drawing rect c ≡ send = cc in (ap (λ s. s.cell.x) (sym same), ap (λ s. s.cell.y) (sym same))

  pub painted-apart : Apart (painted_sends script live id drawing rect)
  painted-apart = subst Apart (map-kept (send_of script live id drawing rect) (cells_met rect)) (apart-kept (λ c. Some (send_of script live id drawing rect c)) sent-there (cells_met rect) (cells-apart rect))

  own-cell : (c : Cell) → Unit {0} → KeepsCell (send_of script live id drawing rect c)
  unfolding send_of
  own-cell c _ = cut-again rect c

  pub painted-keeps : AllByRecursion KeepsCell (painted_sends script live id drawing rect)
  painted-keeps = all-map (send_of script live id drawing rect) (λ _. Unit {0}) KeepsCell own-cell (cells_met rect) (all-any (λ _. Unit {0}) (λ _. tt) (cells_met rect))

module _ (script : Script) (live : Live) (id width height : ℕ) (drawing : Drawing) (rect : Rect) (records : Records) (set : IsSetting script.setting)
    (is : IsRect rect) (inside : lies_in width height rect ≡ true) (some : has_pixels rect ≡ true) (agree : LiveIn script.setting id width height live records) where
  -- the tile of a cell
  abbrev sent : Cell → TileSend
  sent c = send_of script live id drawing rect c

  abbrev own-pixels : Cell → List Pixel
  own-pixels c = cell_pixels drawing rect c

  abbrev own-tile : Cell → SourceTile
  own-tile c = source_of script.setting (own-pixels c)

  -- what is live in it
  abbrev before : Cell → Option TileSend
  before c = finmap.get live (cell_key id c)

  live-was : (c : Cell) (old : TileSend) → before c ≡ Some old → WasSent script.setting width height old
  live-was c old e = (agree.each (cell_key id c) old refl e).1.0

  live-stands : (c : Cell) (old : TileSend) → before c ≡ Some old → finmap.get records (cell_key id c) ≡ Some (tile_at old.tile old.level)
  live-stands c old e = (agree.each (cell_key id c) old refl e).1.1

  painted-was : (c : Cell) → Met rect c → WasSent script.setting width height (sent c)
  unfolding send_of
  painted-was c met = record {
    may = gone-by MayBeSent script.differences (before c) (own-tile c) (plain-may script.setting (own-pixels c) set.accepted set.bases)
        (λ old last. difference-may (own-tile c) old.tile (plain-may script.setting (own-pixels c) set.accepted set.bases) (live-was c old last.0).may (in-range-fits (difference_of (own-tile c) old.tile) last.1.1));
    coded = gone-by (λ (t : SourceTile). t.setting ≡ script.setting) script.differences (before c) (own-tile c) refl (λ old last. refl);
    level = omega arith;
    begins = cut-begins rect c met width height inside;
    rect = cut-rect rect c met is;
    inside = cut-inside rect c met width height some inside;
    in_cell = cut-again rect c;
    some = cut-some rect c met some;
  }

  painted-asks : (c : Cell) → Met rect c → Asked PaintAsk id records (sent c)
  unfolding send_of
  painted-asks c met = (
    gone-by (λ (t : SourceTile). GoesOn (finmap.get records (cell_key id c)) (record { cell = c; rect = cut_to_cell rect c; tile = t; level = 0 })) script.differences (before c) (own-tile c)
        (plain-goes c (cut_to_cell rect c) script.setting (own-pixels c) (finmap.get records (cell_key id c)))
        (λ old last.
        difference-goes c (cut_to_cell rect c) (own-tile c) old (finmap.get records (cell_key id c)) (live-was c old last.0).may (live-was c old last.0).coded last.1.0 (live-stands c old last.0)),
    refl,
  )

  pub painted-sent : AllByRecursion (WasSent script.setting width height) (painted_sends script live id drawing rect)
  painted-sent = all-map sent (Met rect) (WasSent script.setting width height) painted-was (cells_met rect) (each-met rect some)

  pub painted-asked : AllByRecursion (Asked PaintAsk id records) (painted_sends script live id drawing rect)
  painted-asked = all-map sent (Met rect) (Asked PaintAsk id records) painted-asks (cells_met rect) (each-met rect some)

-- ---- the messages

pub paints-taken : PaintsAreTaken
paints-taken script live id drawing rect next old set wide high is inside some small agree room =
    let width : ℕ = old.picture.width in
    let height : ℕ = old.picture.height in
    let sends : List TileSend = painted_sends script live id drawing rect in
    let was : AllByRecursion (WasSent script.setting width height) sends = painted-sent script live id width height drawing rect old.records set is inside some agree in
    let ready : Ready id width height (WasSent script.setting width height) PaintAsk (HasRoom id width height) (paint_data script.setting) sends old = record {
      sides = (refl, refl);
      sent = was;
      apart = painted-apart script live id drawing rect;
      asked = painted-asked script live id width height drawing rect old.records set is inside some agree;
      room = room;
    } in
    record {
      accepted = groups-taken id width height (WasSent script.setting width height) PaintAsk (HasRoom id width height) (paint_data script.setting)
          (group-taken script.setting id width height set wide high) (room-stays script.setting id width height set wide high) (length sends) sends next old (omega arith) small ready;
      sent = All-from_recursion (WasSent script.setting width height) sends was;
      agree = live-after script.setting id width height sends live old was agree;
    }
