-- Inner: the canvas on which layers are drawn before the surface is. No clause of a public call cites it.
use Rattle.gfx_base.specs.declared.pixel.Pixel.{Pixel}

-- a pixel of the background, which isn't drawn
abbrev pub blank : Pixel → Pixel
blank pixel = record { b = pixel.b; g = pixel.g; r = pixel.r; a = 0 }
