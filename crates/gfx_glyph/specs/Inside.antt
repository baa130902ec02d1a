-- How glyphs are kept.
use Rattle.std.specs.Prelude.{◌≡◌, length}
use Rattle.gfx_glyph.specs.Index.{AreEntered}
use Rattle.gfx_glyph.specs.declared.glyphs.Glyphs.TheInside.{Inside}
use Rattle.gfx_glyph.specs.declared.glyphs.TheConstants.{PLACES}
use Rattle.gfx_glyph.specs.declared.print.TheConstants.{HOMES}

-- the index is as long as it has to be, and true
pub record IsSound (a : Inside) : Type 0 where
  pub slots : length a.slots.items ≡ PLACES
  pub prints : length a.prints.items ≡ PLACES
  pub starts : length a.starts.items ≡ HOMES
  pub entered : AreEntered a.slots.items a.prints.items a.starts.items
