-- What a script holds.
use Rattle.std.specs.Prelude.{ℕ, Bool, List}
use Rattle.gfx_caps.specs.declared.offer.Offer.{Offer}
use Rattle.gfx_quant.specs.declared.setting.Setting.{Setting}
use Rattle.gfx_script.specs.declared.picture.Picture.{Picture}
use Rattle.gfx_script.specs.declared.step.Entropy.{Entropy}
use Rattle.gfx_script.specs.declared.start.StartBitmap.{StartBitmap}
use Rattle.gfx_script.specs.declared.step.Step.{Step}
use Rattle.gfx_script.specs.declared.turn.Turn.{Turn}

pub record Script : Type 0 where
  -- how many frames may be in flight
  pub window : ℕ
  -- what the client offers
  pub offers : List Offer
  -- how progressive paints are coded, and whether their tiles may go as differences from those before
  pub setting : Setting
  pub differences : Bool
  -- the pictures that paints name by their place, counted from 0
  pub pictures : List Picture
  -- the small limits on bitmaps bind the client
  pub small : Bool
  -- the client is thin
  pub thin : Bool
  -- how video paints are coded
  pub entropy : Entropy
  -- the bitmaps that both ends have before the first step, in slots 1, 2 and so on
  pub start : List StartBitmap
  pub steps : List Step
  -- which end moves when, one turn after another
  pub turns : List Turn
