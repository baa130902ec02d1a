use Rattle.std.proofs.Common.{◌≡◌, ◌≤◌, ◌<◌, ℕ, map, get_or}
use Rattle.gfx_base.specs.declared.format.Format.TheVariants.{Xrgb}
use Rattle.gfx_base.specs.declared.pixel.Pixel.{Pixel}
use Rattle.gfx_surface.specs.Picture.{shade}
use Rattle.gfx_surface.proofs.lending.make_opaque.Given as goal

-- the first pixels are opaque, the others are as they were
abbrev pub invariant-pixels : goal.invariant-pixels
invariant-pixels l = record {
  done : (k : ℕ) (d : Pixel) → k < l.i → get_or l.pixels k d ≡ get_or (map (shade Xrgb) l.initial.pixels) k d;
  rest : (k : ℕ) (d : Pixel) → l.i ≤ k → get_or l.pixels k d ≡ get_or l.initial.pixels k d;
}
