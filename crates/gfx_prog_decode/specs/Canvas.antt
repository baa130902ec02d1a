-- What tiles are drawn on before a surface shows them: this project's own.
use Rattle.std.specs.Prelude.{◌≡◌}
use Rattle.gfx_base.specs.declared.format.Format.TheVariants.{Argb}
use Rattle.gfx_surface.specs.Picture.{Picture}

-- a surface of one tile
pub record IsCanvas (picture : Picture) : Type 0 where
  pub width : picture.width ≡ 64
  pub height : picture.height ≡ 64
  pub format : picture.format ≡ Argb
