-- Which pictures a script may have: this project's own rule.
use Rattle.std.specs.Prelude.{ℕ, ◌*◌, ◌≤◌, ◌<◌, ◌^◌, Bool, ◌&&◌, nat_le, nat_lt}
use Rattle.gfx_script.specs.declared.TheConstants.{MOST_AREA}
use Rattle.gfx_script.specs.declared.picture.Picture.{Picture}

-- the sides and the area are within their ranges
pub record IsDrawn (picture : Picture) : Type 0 where
  pub width_from : 1 ≤ picture.width
  pub width_fits : picture.width < 2 ^ 16
  pub height_from : 1 ≤ picture.height
  pub height_fits : picture.height < 2 ^ 16
  pub area : picture.width * picture.height ≤ MOST_AREA

-- the same by a test, of sides and of a picture
abbrev pub are_sides : ℕ → ℕ → Bool
are_sides width height =
    (nat_le 1 width && nat_lt width (2 ^ 16)) && ((nat_le 1 height && nat_lt height (2 ^ 16)) && nat_le (width * height) MOST_AREA)

abbrev pub is_drawn : Picture → Bool
is_drawn picture = are_sides picture.width picture.height
