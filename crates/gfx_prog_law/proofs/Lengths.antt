-- How long the data of a message are.
use Rattle.std.proofs.Common.{◌≡◌, ◌∙◌, ℕ, ◌+◌, ◌*◌, ◌≤◌, List, [], ◌∷◌, length, map, refl, sym, arith}
use Rattle.std.specs.List.{All, AllByRecursion, flat_map, sum_by}
use Rattle.std.proofs.lemmas.List.{length-append, length-map}
use Rattle.std.proofs.lemmas.List.Elements.{recursion_from_All}
use Rattle.std.proofs.lemmas.List.Sums.{sum_by-cons}
use Rattle.gfx_quant.specs.declared.quant.Component.TheVariants.{Y, Cb, Cr}
use Rattle.gfx_quant.specs.declared.setting.Setting.{Setting}
use Rattle.gfx_quant.specs.Setting.{IsSetting}
use Rattle.gfx_tile_make.specs.Levels.{MayBeSent}
use Rattle.gfx_prog_block.specs.declared.block.Block.{Block}
use Rattle.gfx_prog_block.specs.declared.region.Region.{Region}
use Rattle.gfx_prog_block.specs.declared.tile.Tile.{Tile}
use Rattle.gfx_prog_block.specs.Kinds.{block_number}
use Rattle.gfx_prog_block.specs.Spelling.{block_body, block_measure, block_text, block_type, region_measure, spelling, sync_contents, tile_size}
use Rattle.gfx_prog_block.proofs.BlockLaws.{length-block_body}
use Rattle.gfx_prog_block.proofs.Frames.{length-framed}
use Rattle.gfx_prog_block.proofs.WritingLaws.{first-measure, region-measure, upgrade-measure}
use Rattle.gfx_prog_encode.specs.declared.send.TileSend.{TileSend}
use Rattle.gfx_prog_encode.specs.Inside.{AreRaised, IsRaised}
use Rattle.gfx_prog_encode.specs.Messages.{area_of, blocks_of, first_pass, first_tile, flags_of, head_of, improve_data, levels_from, paint_data, quality_of, region_of, upgrade_pass, upgrade_tile}
use Rattle.gfx_prog_encode.proofs.Regions.{length-levels}
use Rattle.gfx_prog_law.specs.Accepted.{IsSend}
use Rattle.gfx_prog_law.specs.Message.{ImproveIsShort, PaintIsShort}
use Rattle.gfx_prog_law.proofs.Fields.{sends-setting}
use Rattle.gfx_prog_law.proofs.Tiles.{first-short-tile, pass-short-tile}

-- ---- blocks

-- a block has six bytes beside its body
length-block : (block : Block) → length (block_text sync_contents block) ≡ 6 + block_measure block
unfolding block_text
length-block block = length-framed (block_number (block_type block)) (block_measure block) (block_body sync_contents block) (length-block_body sync_contents block refl)

-- all of them together
length-blocks : (all : List Block) → length (spelling all) ≡ sum_by (λ block. 6 + block_measure block) all
unfolding spelling
length-blocks [] = refl
length-blocks (block ∷ all) =
    length-append (block_text sync_contents block) (flat_map (block_text sync_contents) all)
    ∙ rw (length-block block, length-blocks all) (sym (sum_by-cons (λ block. 6 + block_measure block) block all))

-- a message has 46 bytes beside its region's body
message-length : (region : Region) (index : ℕ) → length (spelling (blocks_of region index)) ≡ 46 + region_measure region
message-length region index = length-blocks (blocks_of region index) ∙ omega arith

-- ---- tiles

-- a tile's three components, at most 65,535 bytes each, and its head
first-size : (send : TileSend) → MayBeSent send.tile → IsSetting send.tile.setting → tile_size (first_tile send) ≤ 196631
unfolding first_pass
first-size send may set =
    omega (arith, first-measure (head_of send) (flags_of send.tile) 0 (first_pass send.tile), first-short-tile send.tile Y may set, first-short-tile send.tile Cb may set, first-short-tile send.tile Cr may set)

-- so it is with an upgrade
upgrade-size : (setting : Setting) (send : TileSend) → MayBeSent send.tile → IsSetting send.tile.setting → IsRaised send → tile_size (upgrade_tile setting send) ≤ 196631
unfolding upgrade_pass
upgrade-size setting send may set raised =
    omega (
      arith,
      upgrade-measure (head_of send) (quality_of setting send.level) (upgrade_pass send.tile send.level),
      pass-short-tile send.tile Y send.level may set raised.0 raised.1,
      pass-short-tile send.tile Cb send.level may set raised.0 raised.1,
      pass-short-tile send.tile Cr send.level may set raised.0 raised.1,
    )

-- all tiles at the first level
first-sizes : (setting : Setting) (sends : List TileSend) → IsSetting setting → AllByRecursion (IsSend setting) sends → sum_by tile_size (map first_tile sends) ≤ length sends * 196631
first-sizes setting [] set all = omega arith
first-sizes setting (send ∷ sends) set all =
    omega (arith, sum_by-cons tile_size (first_tile send) (map first_tile sends), first-size send all.0.may (sends-setting setting send set all.0), first-sizes setting sends set all.1)

-- and all upgrades
upgrade-sizes : (setting : Setting) (sends : List TileSend) → IsSetting setting → AllByRecursion (IsSend setting) sends → AllByRecursion IsRaised sends
    → sum_by tile_size (map (upgrade_tile setting) sends) ≤ length sends * 196631
upgrade-sizes setting [] set all raised = omega arith
upgrade-sizes setting (send ∷ sends) set all raised =
    omega (
      arith,
      sum_by-cons tile_size (upgrade_tile setting send) (map (upgrade_tile setting) sends),
      upgrade-size setting send all.0.may (sends-setting setting send set all.0) raised.0,
      upgrade-sizes setting sends set all.1 raised.1,
    )

-- ---- messages

-- eight bytes for each rectangle, and few beside the tiles
region-length : (setting : Setting) (sends : List TileSend) (tiles : List Tile) (index : ℕ) → length setting.levels ≤ 7 → sum_by tile_size tiles ≤ length sends * 196631
    → length (spelling (blocks_of (region_of setting sends tiles) index)) ≤ 185 + length sends * 196639
region-length setting sends tiles index few sizes =
    let listed : length (levels_from 0 setting.levels) ≤ 7 = omega (arith, few, length-levels 0 setting.levels) in
    omega (arith, listed, sizes, message-length (region_of setting sends tiles) index, region-measure (region_of setting sends tiles), length-map sends area_of)

-- the data that paint so many tiles
pub paint-length : (setting : Setting) (sends : List TileSend) (index : ℕ) → IsSetting setting → All (IsSend setting) sends → length (paint_data setting sends index) ≤ 185 + length sends * 196639
unfolding paint_data
paint-length setting sends index set are = region-length setting sends (map first_tile sends) index set.few (first-sizes setting sends set (recursion_from_All (IsSend setting) sends are))

-- and those that improve them
pub improve-length : (setting : Setting) (sends : List TileSend) (index : ℕ) → IsSetting setting → All (IsSend setting) sends → AreRaised sends
    → length (improve_data setting sends index) ≤ 185 + length sends * 196639
unfolding improve_data
improve-length setting sends index set are raised =
    region-length setting sends (map (upgrade_tile setting) sends) index set.few
    (upgrade-sizes setting sends set (recursion_from_All (IsSend setting) sends are) (recursion_from_All IsRaised sends raised))

-- no message that paints is longer than the most
pub paint-short : PaintIsShort
paint-short setting sends index set are few = omega (arith, few, paint-length setting sends index set are)

-- and none that improves
pub improve-short : ImproveIsShort
improve-short setting sends index set are raised few = omega (arith, few, improve-length setting sends index set are raised)
