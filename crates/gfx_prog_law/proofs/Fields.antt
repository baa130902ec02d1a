-- All of a message fits its fields.
use Rattle.std.proofs.Common.{ℕ, ◌<◌, ◌≤◌, ◌^◌, List, [], ◌∷◌, length, map, sym, subst, arith}
use Rattle.std.specs.List.{AllByRecursion}
use Rattle.std.proofs.lemmas.List.{length-map}
use Rattle.gfx_base.specs.Geometry.{IsRect}
use Rattle.gfx_layout.specs.Shape.{PartFits}
use Rattle.gfx_quant.specs.declared.quant.Component.TheVariants.{Y, Cb, Cr}
use Rattle.gfx_quant.specs.declared.setting.Setting.{Setting}
use Rattle.gfx_quant.specs.Setting.{IsSetting}
use Rattle.gfx_prog_block.specs.declared.region.Region.{Region}
use Rattle.gfx_prog_block.specs.Fitting.{Fits, IsSpellableRegion, IsSpellableTile, IsTileHead}
use Rattle.gfx_prog_block.specs.Shapes.{area}
use Rattle.gfx_tile_make.specs.Levels.{MayBeSent}
use Rattle.gfx_prog_encode.specs.declared.send.TileSend.{TileSend}
use Rattle.gfx_prog_encode.specs.Inside.{IsRaised}
use Rattle.gfx_prog_encode.specs.Messages.{area_of, blocks_of, first_pass, first_tile, region_of, upgrade_pass, upgrade_tile}
use Rattle.gfx_prog_encode.proofs.Regions.{region-fits}
use Rattle.gfx_prog_law.specs.Accepted.{IsSend}
use Rattle.gfx_prog_law.proofs.Tiles.{first-short-tile, pass-short-tile}

-- ---- what holds of each tile

-- a sent tile is of a setting that is one
pub sends-setting : (setting : Setting) (send : TileSend) → IsSetting setting → IsSend setting send → IsSetting send.tile.setting
sends-setting setting send set is = subst IsSetting (sym is.coded) set

-- the rectangles fit
pub areas-fit : (setting : Setting) (sends : List TileSend) → AllByRecursion (IsSend setting) sends → AllByRecursion (PartFits area) (map area_of sends)
areas-fit setting [] all = tt
areas-fit setting (send ∷ sends) all =
    let rect : IsRect send.rect = all.0.rect in
    ((rect.left, (rect.top, (omega (arith, rect.right), (omega (arith, rect.bottom), tt)))), areas-fit setting sends all.1)

-- the heads of tiles at the first level fit
pub first-heads : (setting : Setting) (sends : List TileSend) → AllByRecursion (IsSend setting) sends → AllByRecursion IsTileHead (map first_tile sends)
first-heads setting [] all = tt
first-heads setting (send ∷ sends) all = ((tt, (tt, (tt, (all.0.x, (all.0.y, tt))))), first-heads setting sends all.1)

-- and those of upgrades
pub upgrade-heads : (setting : Setting) (sends : List TileSend) → AllByRecursion (IsSend setting) sends → AllByRecursion IsTileHead (map (upgrade_tile setting) sends)
upgrade-heads setting [] all = tt
upgrade-heads setting (send ∷ sends) all = ((tt, (tt, (tt, (all.0.x, (all.0.y, tt))))), upgrade-heads setting sends all.1)

-- the data of a tile at the first level fit their lengths
first-spellable : (send : TileSend) → MayBeSent send.tile → IsSetting send.tile.setting → IsSpellableTile (first_tile send)
unfolding first_pass
first-spellable send may set =
    let y = first-short-tile send.tile Y may set in
    let cb = first-short-tile send.tile Cb may set in
    let cr = first-short-tile send.tile Cr may set in
    (omega (arith, y), omega (arith, cb), omega (arith, cr), omega arith)

-- and those of an upgrade
upgrade-spellable : (setting : Setting) (send : TileSend) → MayBeSent send.tile → IsSetting send.tile.setting → IsRaised send → IsSpellableTile (upgrade_tile setting send)
unfolding upgrade_pass
upgrade-spellable setting send may set raised =
    let y = pass-short-tile send.tile Y send.level may set raised.0 raised.1 in
    let cb = pass-short-tile send.tile Cb send.level may set raised.0 raised.1 in
    let cr = pass-short-tile send.tile Cr send.level may set raised.0 raised.1 in
    (omega (arith, y), omega (arith, y), omega (arith, cb), omega (arith, cb), omega (arith, cr), omega (arith, cr))

-- so do the data of all tiles at the first level
pub first-tiles-spellable : (setting : Setting) (sends : List TileSend) → IsSetting setting → AllByRecursion (IsSend setting) sends → AllByRecursion IsSpellableTile (map first_tile sends)
first-tiles-spellable setting [] set all = tt
first-tiles-spellable setting (send ∷ sends) set all = (first-spellable send all.0.may (sends-setting setting send set all.0), first-tiles-spellable setting sends set all.1)

-- and those of all upgrades
pub upgrade-tiles-spellable : (setting : Setting) (sends : List TileSend) → IsSetting setting → AllByRecursion (IsSend setting) sends → AllByRecursion IsRaised sends
    → AllByRecursion IsSpellableTile (map (upgrade_tile setting) sends)
upgrade-tiles-spellable setting [] set all raised = tt
upgrade-tiles-spellable setting (send ∷ sends) set all raised =
    (upgrade-spellable setting send all.0.may (sends-setting setting send set all.0) raised.0, upgrade-tiles-spellable setting sends set all.1 raised.1)

-- ---- the blocks

-- a message of a region that fits its fields does
blocks-whole : (region : Region) (index : ℕ) → index < 2 ^ 32 → AllByRecursion (PartFits area) region.rects → AllByRecursion IsTileHead region.tiles → IsSpellableRegion region
    → AllByRecursion Fits (blocks_of region index)
blocks-whole region index small areas heads fits = (
  record { numbers = tt; spellable = tt },
  (
    record { numbers = tt; spellable = tt },
    (
      record { numbers = (small, omega arith); spellable = tt },
      (record { numbers = (areas, heads); spellable = fits }, (record { numbers = tt; spellable = tt }, tt)),
    ),
  ),
)

-- so do those that paint
pub first-blocks-fit : (setting : Setting) (sends : List TileSend) (index : ℕ) → IsSetting setting → AllByRecursion (IsSend setting) sends → length sends ≤ 256 → index < 2 ^ 32
    → AllByRecursion Fits (blocks_of (region_of setting sends (map first_tile sends)) index)
first-blocks-fit setting sends index set all few small =
    blocks-whole (region_of setting sends (map first_tile sends)) index small (areas-fit setting sends all) (first-heads setting sends all)
    (region-fits setting sends (map first_tile sends) few (length-map sends first_tile) set.few (first-tiles-spellable setting sends set all))

-- and those that improve
pub upgrade-blocks-fit : (setting : Setting) (sends : List TileSend) (index : ℕ) → IsSetting setting → AllByRecursion (IsSend setting) sends → AllByRecursion IsRaised sends → length sends ≤ 256 → index < 2 ^ 32
    → AllByRecursion Fits (blocks_of (region_of setting sends (map (upgrade_tile setting) sends)) index)
upgrade-blocks-fit setting sends index set all raised few small =
    blocks-whole (region_of setting sends (map (upgrade_tile setting) sends)) index small (areas-fit setting sends all) (upgrade-heads setting sends all)
    (region-fits setting sends (map (upgrade_tile setting) sends) few (length-map sends (upgrade_tile setting)) set.few (upgrade-tiles-spellable setting sends set all raised))
