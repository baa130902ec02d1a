-- Where the index keeps the places of given pixels: this project's own rule. Nothing that a look-up answers
-- depends on it.
use Rattle.std.specs.Prelude.{ℕ, ◌/◌, ◌%◌, ◌^◌, List}
use Rattle.gfx_base.specs.Colour.{hash_of}
use Rattle.gfx_base.specs.declared.pixel.Rgb.{Rgb}

-- the home of these pixels, in a ring of so many places
unfoldable pub home_of : ℕ → List Rgb → ℕ
home_of count pixels = hash_of pixels / 2 ^ 32 % count
