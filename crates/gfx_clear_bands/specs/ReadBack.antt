-- The server's bands are read back by any decoder whose rings are the server's: this project's own law.
use Rattle.std.specs.Prelude.{◌≡◌, ℕ, ◌*◌, ◌^◌, ◌≤◌, ◌<◌, true, List, length, replicate, Ok}
use Rattle.gfx_base.specs.declared.pixel.Rgb.{Rgb}
use Rattle.gfx_clear_store.specs.Rings.{AreRings}
use Rattle.gfx_clear_bands.specs.Bands.{Drawing, drawing, bands}
use Rattle.gfx_clear_bands.specs.Writing.{written, after, elements}

-- each picture that can be drawn on is drawn whole, and the rings are those that writing left
abbrev pub ReadsBack : Type 0
ReadsBack =
    (width height : ℕ) (pixels : List Rgb) (old : Drawing) → 1 ≤ width → width < 2 ^ 16 → height < 2 ^ 16 → length pixels ≡ width * height
    → length old.colours ≡ width * height → length old.drawn ≡ width * height → AreRings old.rings
    → bands width height old (written old.rings (elements width height pixels))
    ≡ Ok (drawing pixels (replicate (length pixels) true) (after old.rings (elements width height pixels)))
