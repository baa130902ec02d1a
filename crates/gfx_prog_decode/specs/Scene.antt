-- What a message is applied to, and how steps follow one another: this project's own words.
use Rattle.std.specs.Prelude.{List, [], ◌∷◌, Result, Ok}
use Rattle.gfx_base.specs.declared.refusal.Refusal.{Refusal}
use Rattle.gfx_base.specs.Results.{◌>>=◌}
use Rattle.gfx_surface.specs.Picture.{Picture}
use Rattle.gfx_prog_decode.specs.Records.{Records}

-- the records, and the picture of a surface
pub record Scene : Type 0 where
  pub records : Records
  pub picture : Picture

abbrev pub scene : Records → Picture → Scene
scene records picture = record { records = records; picture = picture }

-- one step after another over a list: the scene after the last, or the first refusal
unfoldable pub in_turn : {X : Type 0} → (X → Scene → Result Scene Refusal) → List X → Scene → Result Scene Refusal
in_turn step [] old = Ok old
in_turn step (x ∷ xs) old = do
  next ← step x old
  in_turn step xs next
