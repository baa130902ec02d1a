use Rattle.std.proofs.Common.{◌≡◌, ◌<◌, ℕ, IsTrue, get_or}
use Rattle.gfx_surface.specs.Picture.{no_pixel}
use Rattle.gfx_surface.proofs.copies.are_opaque.Given as goal

-- the first pixels are opaque
abbrev pub invariant-loop-i : goal.invariant-loop-i
invariant-loop-i l = IsTrue l.opaque → (k : ℕ) → k < l.i → (get_or l.from k no_pixel).a ≡ 255
