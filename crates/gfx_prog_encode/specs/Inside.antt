-- What the calls between messages hand on.
use Rattle.std.specs.Prelude.{ℕ, ◌+◌, ◌≤◌, List, length, map}
use Rattle.std.specs.List.{All}
use Rattle.gfx_quant.specs.declared.quant.Component.{Component}
use Rattle.gfx_quant.specs.declared.quant.Component.TheVariants.{Y, Cb, Cr}
use Rattle.gfx_tile_make.specs.Source.{SourceTile}
use Rattle.gfx_tile_make.specs.declared.data.Pass.{Pass}
use Rattle.gfx_prog_encode.specs.declared.data.FirstData.{FirstData}
use Rattle.gfx_prog_encode.specs.declared.data.UpgradeData.{UpgradeData}
use Rattle.gfx_prog_encode.specs.declared.send.TileSend.{TileSend}
use Rattle.gfx_prog_encode.specs.Messages.{first_code, raw_code, srl_code}

-- a tile's codes at the first level
unfoldable pub coded : SourceTile → FirstData
coded source = record { y = first_code source Y; cb = first_code source Cb; cr = first_code source Cr }

-- codes that fit the lengths of a tile
abbrev pub AreShort : FirstData → Type 0
AreShort codes = (length codes.y ≤ 65535) × (length codes.cb ≤ 65535) × (length codes.cr ≤ 65535)

-- both data that raise a component to a level
unfoldable pub pass_to : SourceTile → Component → ℕ → Pass
pass_to source component level = record { srl = srl_code source component level; raw = raw_code source component level }

-- what raises a tile to a level
unfoldable pub passes : SourceTile → ℕ → UpgradeData
passes source level = record { y = pass_to source Y level; cb = pass_to source Cb level; cr = pass_to source Cr level }

abbrev pub IsShortPass : Pass → Type 0
IsShortPass pass = length pass.srl + length pass.raw ≤ 65535

abbrev pub AreShortPasses : UpgradeData → Type 0
AreShortPasses codes = IsShortPass codes.y × IsShortPass codes.cb × IsShortPass codes.cr

-- each tile is sent at a level behind the first
abbrev pub IsRaised : TileSend → Type 0
IsRaised send = (1 ≤ send.level) × (send.level ≤ length send.tile.setting.levels)

abbrev pub AreRaised : List TileSend → Type 0
AreRaised sends = All IsRaised sends

-- the codes of tiles, each in its place
abbrev pub all_coded : List TileSend → List FirstData
all_coded sends = map (λ send. coded send.tile) sends

abbrev pub all_passes : List TileSend → List UpgradeData
all_passes sends = map (λ send. passes send.tile send.level) sends
