-- A tile at its source (this project's own rule for difference tiles).
use Rattle.std.specs.Prelude.{Bool, true, false, List, ℤ}
use Rattle.gfx_base.specs.declared.pixel.Pixel.{Pixel}
use Rattle.gfx_quant.specs.declared.quant.Component.{Component}
use Rattle.gfx_quant.specs.declared.quant.Component.TheVariants.{Y, Cb, Cr}
use Rattle.gfx_quant.specs.declared.setting.Setting.{Setting}
use Rattle.gfx_tile_state.specs.Passes.{blank}
use Rattle.gfx_tile_make.specs.Planes.{less}
use Rattle.gfx_tile_make.specs.Quantised.{quantised_plane}

-- a component: its quantised values, and those that its tile goes on
pub record Planes : Type 0 where
  pub own : List ℤ
  pub kept : List ℤ

-- a tile: how it is coded, its components, and whether it goes on another
pub record SourceTile : Type 0 where
  pub setting : Setting
  pub y : Planes
  pub cb : Planes
  pub cr : Planes
  pub difference : Bool

abbrev pub planes_of : SourceTile → Component → Planes
planes_of source Y = source.y
planes_of source Cb = source.cb
planes_of source Cr = source.cr

-- the values that are sent: a component's own, less those that it goes on
abbrev pub sent : Planes → List ℤ
sent planes = less planes.own planes.kept

-- a component that goes on nothing
abbrev pub plain : List ℤ → Planes
plain own = record { own = own; kept = blank }

-- the tile of some pixels
abbrev pub source_of : Setting → List Pixel → SourceTile
source_of setting pixels = record {
  setting = setting;
  y = plain (quantised_plane setting Y pixels);
  cb = plain (quantised_plane setting Cb pixels);
  cr = plain (quantised_plane setting Cr pixels);
  difference = false;
}

-- a component that goes on another's own values
abbrev pub onto : Planes → Planes → Planes
onto planes kept = record { own = planes.own; kept = kept.own }

-- a tile that goes on another: a difference tile
abbrev pub difference_of : SourceTile → SourceTile → SourceTile
difference_of source kept = record {
  setting = source.setting;
  y = onto source.y kept.y;
  cb = onto source.cb kept.cb;
  cr = onto source.cr kept.cr;
  difference = true;
}
