-- The messages of an improvement are taken.
use Rattle.std.proofs.Common.{◌≡◌, ◌∙◌, ◌+◌, ◌-◌, ◌<◌, ◌≤◌, ℕ, Bool, true, false, if◌then◌else◌, nat_lt, List, [], ◌∷◌, length, map, Option, Some, None, Ok, refl, sym, ap, subst, ltb-true, arith}
use Rattle.std.specs.FinMap as finmap
use Rattle.std.specs.List.{AllByRecursion}
use Rattle.std.specs.Option.{option_and_then}
use Rattle.std.proofs.lemmas.List.Elements.{All-from_recursion}
use Rattle.gfx_base.specs.declared.geometry.Cell.{Cell}
use Rattle.gfx_base.specs.Cells.{cells_met}
use Rattle.gfx_base.specs.Geometry.{sized}
use Rattle.gfx_quant.specs.declared.setting.Setting.{Setting}
use Rattle.gfx_quant.specs.Setting.{IsSetting}
use Rattle.gfx_surface.specs.declared.TheConstants.{MOST_SIDE}
use Rattle.gfx_tile_state.specs.declared.state.TileState.{TileState}
use Rattle.gfx_tile_make.specs.Levels.{tile_at}
use Rattle.gfx_prog_block.specs.declared.area.Area.{Area}
use Rattle.gfx_prog_decode.specs.declared.key.Key.{Key}
use Rattle.gfx_prog_decode.specs.Records.{Records}
use Rattle.gfx_prog_decode.specs.Scene.{Scene}
use Rattle.gfx_prog_encode.specs.declared.send.TileSend.{TileSend}
use Rattle.gfx_prog_encode.specs.Messages.{area_of, improve_data}
use Rattle.gfx_prog_live.specs.Cells.{cell_key}
use Rattle.gfx_prog_live.specs.Live.{Live, improved_sends, raised}
use Rattle.gfx_prog_law.specs.Accepted.{IsSend, MayAllBeImproved, shown_at_level}
use Rattle.gfx_prog_law.specs.Taken.{ImprovementsAreTaken, LiveIn, WasSent, place_of}
use Rattle.gfx_prog_law.proofs.Apart.{Apart, all-any, all-kept, all-more, apart-kept, cells-apart}
use Rattle.gfx_prog_law.proofs.Turns.{improve-accepted}
use Rattle.gfx_prog_law.proofs.Groups.{GroupIsTaken, HasSides, Ready, RoomStays, begins-there, groups-taken, tile-sides}
use Rattle.gfx_prog_law.proofs.Kept.{Asked, BeginsIn, asked-next, live-after}
use Rattle.gfx_prog_law.proofs.Sends.{is-send}
use Rattle.gfx_prog_law.proofs.Shown.{KeepsCell, own-all, raised-shown}

-- ---- a group

-- what is asked of a cell's record before its tile is raised
abbrev RaiseAsk : Option TileState → TileSend → Type 0
RaiseAsk before send = (1 ≤ send.level) × ((send.level ≤ length send.tile.setting.levels) × (before ≡ Some (tile_at send.tile (send.level - 1))))

-- no room is wanted
abbrev AnyRoom : Records → Type 0
AnyRoom records = Unit {0}

may-all : (id width height : ℕ) (areas : List Area) (sends : List TileSend) (old : Scene) → HasSides width height old → AllByRecursion (BeginsIn width height) sends → Apart sends
    → AllByRecursion (Asked RaiseAsk id old.records) sends → MayAllBeImproved (place_of id) areas sends old
may-all id width height areas [] old sides begins apart asked = tt
may-all id width height areas (send ∷ sends) old sides begins apart asked = (
  record { begins = begins-there width height old send sides begins.0; first = asked.0.0; listed = asked.0.1.0; before = asked.0.1.1 },
  may-all id width height areas sends (shown_at_level (place_of id) areas send.level send old)
      (tile-sides width height old (cell_key id send.cell) areas (tile_at send.tile send.level) sides) begins.1 apart.1
      (asked-next RaiseAsk id old.records send (tile_at send.tile send.level) sends apart.0 asked.1),
)

module _ (setting : Setting) (id width height : ℕ) (set : IsSetting setting) (wide : width ≤ MOST_SIDE) (high : height ≤ MOST_SIDE) where
  abbrev Was : TileSend → Type 0
  Was send = WasSent setting width height send

  group-taken : GroupIsTaken id width height Was RaiseAsk AnyRoom (improve_data setting)
  group-taken sends index old ready few small =
      improve-accepted (place_of id) setting sends index old set
      (All-from_recursion (IsSend setting) sends (all-more Was (IsSend setting) (is-send setting width height wide high) sends ready.sent)) few small
      (may-all id width height (map area_of sends) sends old ready.sides (all-more Was (BeginsIn width height) (λ send w. w.begins) sends ready.sent) ready.apart ready.asked)
      ∙ ap (λ s. Ok s) (raised-shown id (map area_of sends) sends old (own-all sends ready.apart (all-more Was KeepsCell (λ send w. w.in_cell) sends ready.sent)))

  room-stays : RoomStays id width height Was RaiseAsk AnyRoom (improve_data setting)
  room-stays sends old was room = tt

-- ---- the tiles of an improvement

-- a live tile that isn't at the last level, and the same at the next
pub record IsRaised (before : Option TileSend) (send : TileSend) : Type 0 where
  pub tile : TileSend
  pub there : before ≡ Some tile
  pub below : tile.level < length tile.tile.setting.levels
  pub is : send ≡ record tile { level = tile.level + 1 }

pub raised-from : (before : Option TileSend) (send : TileSend) → option_and_then raised before ≡ Some send → IsRaised before send
unfolding raised
raised-from None send e = cc
raised-from (Some tile) send e = by (nat_lt tile.level (length tile.tile.setting.levels)) refl e
  where
    by : (b : Bool) → nat_lt tile.level (length tile.tile.setting.levels) ≡ b → ◌≡◌ {A = Option TileSend} (if b then Some (record tile { level = tile.level + 1 }) else None) (Some send) → IsRaised (Some tile) send
    by true less same = record { tile = tile; there = refl; below = ltb-true tile.level (length tile.tile.setting.levels) less; is = cc }
    by false less same = cc

module _ (setting : Setting) (live : Live) (id width height : ℕ) (records : Records) (agree : LiveIn setting id width height live records) where
  -- what is sent to a cell
  abbrev pub sent : Cell → Option TileSend
  sent c = option_and_then raised (finmap.get live (cell_key id c))

  -- as it is of a live tile of this cell
  pub own-cell : (c : Cell) (send : TileSend) → sent c ≡ Some send → (send.cell.x ≡ c.x) × (send.cell.y ≡ c.y)
  own-cell c send e =
      let from : IsRaised (finmap.get live (cell_key id c)) send = raised-from (finmap.get live (cell_key id c)) send e in
      let stands : cell_key id c ≡ cell_key id from.tile.cell = (agree.each (cell_key id c) from.tile refl from.there).0 in
      (ap (λ s. s.cell.x) from.is ∙ sym (ap (λ k. k.x) stands), ap (λ s. s.cell.y) from.is ∙ sym (ap (λ k. k.y) stands))

  raised-was : (tile : TileSend) → WasSent setting width height tile → tile.level < length tile.tile.setting.levels → WasSent setting width height (record tile { level = tile.level + 1 })
  raised-was tile was below = record {
    may = was.may;
    coded = was.coded;
    level = omega (arith, below, ap (λ (s : Setting). length s.levels) was.coded);
    begins = was.begins;
    rect = was.rect;
    inside = was.inside;
    in_cell = was.in_cell;
    some = was.some;
  }

  raised-asks : (key : Key) (tile : TileSend) → finmap.get records key ≡ Some (tile_at tile.tile tile.level) → key ≡ cell_key id tile.cell → tile.level < length tile.tile.setting.levels
      → Asked RaiseAsk id records (record tile { level = tile.level + 1 })
  raised-asks key tile stands same below =
      let one : tile.level ≡ tile.level + 1 - 1 = omega arith in
      (omega arith, (omega (arith, below), ap (finmap.get records) (sym same) ∙ stands ∙ ap (λ n. Some (tile_at tile.tile n)) one))

  sent-was : (c : Cell) (send : TileSend) → Unit {0} → sent c ≡ Some send → WasSent setting width height send
  sent-was c send _ e =
      let from : IsRaised (finmap.get live (cell_key id c)) send = raised-from (finmap.get live (cell_key id c)) send e in
      subst (WasSent setting width height) (sym from.is) (raised-was from.tile (agree.each (cell_key id c) from.tile refl from.there).1.0 from.below)

  sent-asks : (c : Cell) (send : TileSend) → Unit {0} → sent c ≡ Some send → Asked RaiseAsk id records send
  sent-asks c send _ e =
      let from : IsRaised (finmap.get live (cell_key id c)) send = raised-from (finmap.get live (cell_key id c)) send e in
      let before = agree.each (cell_key id c) from.tile refl from.there in
      subst (Asked RaiseAsk id records) (sym from.is) (raised-asks (cell_key id c) from.tile before.1.1 before.0 from.below)

  pub any-cells : AllByRecursion (λ _. Unit {0}) (cells_met (sized width height))
  any-cells = all-any (λ _. Unit {0}) (λ _. tt) (cells_met (sized width height))

  pub improved-sent : AllByRecursion (WasSent setting width height) (improved_sends live id width height)
  improved-sent = all-kept sent (λ _. Unit {0}) (WasSent setting width height) sent-was (cells_met (sized width height)) any-cells

  pub improved-asked : AllByRecursion (Asked RaiseAsk id records) (improved_sends live id width height)
  improved-asked = all-kept sent (λ _. Unit {0}) (Asked RaiseAsk id records) sent-asks (cells_met (sized width height)) any-cells

  pub improved-apart : Apart (improved_sends live id width height)
  improved-apart = apart-kept sent own-cell (cells_met (sized width height)) (cells-apart (sized width height))

-- ---- the messages

pub improvements-taken : ImprovementsAreTaken
improvements-taken setting live id next old set wide high small agree =
    let width : ℕ = old.picture.width in
    let height : ℕ = old.picture.height in
    let sends : List TileSend = improved_sends live id width height in
    let was : AllByRecursion (WasSent setting width height) sends = improved-sent setting live id width height old.records agree in
    let ready : Ready id width height (WasSent setting width height) RaiseAsk AnyRoom (improve_data setting) sends old = record {
      sides = (refl, refl);
      sent = was;
      apart = improved-apart setting live id width height old.records agree;
      asked = improved-asked setting live id width height old.records agree;
      room = tt;
    } in
    record {
      accepted = groups-taken id width height (WasSent setting width height) RaiseAsk AnyRoom (improve_data setting)
          (group-taken setting id width height set wide high) (room-stays setting id width height set wide high) (length sends) sends next old (omega arith) small ready;
      sent = All-from_recursion (WasSent setting width height) sends was;
      agree = live-after setting id width height sends live old was agree;
    }
