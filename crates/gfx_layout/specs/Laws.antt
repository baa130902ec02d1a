-- What reading and spelling by a layout have to do with each other: this project's own promises, proved
-- once for every layout (proofs/LayoutLaws).
use Rattle.std.specs.Prelude.{◌≡◌, ℕ, ◌<◌, List, ◌++◌, length, take, Ok, Err}
use Rattle.gfx_layout.specs.declared.stop.Stop.TheVariants.{Short}
use Rattle.gfx_layout.specs.Layout.{Layout, Parts, made, Fit, spelled}
use Rattle.gfx_layout.specs.Reading.{Taken}

-- this text is read as x, whatever follows, and any beginning of it is too short
pub record Reads {X : Type 0} (reader : List ℕ → Taken X) (text : List ℕ) (x : X) : Type 0 where
  pub whole : (more : List ℕ) → reader (text ++ more) ≡ Ok (x, more)
  pub cut : (count : ℕ) → count < length text → reader (take count text) ≡ Err Short

-- these bytes begin with the spelling of parts that fit, and that say this
pub record Found {R : Type 0} (layout : Layout R) (bytes : List ℕ) (says : R) (more : List ℕ) : Type 0 where
  pub parts : Parts layout
  pub fit : Fit layout parts
  pub made_is : made layout parts ≡ says
  pub splits : bytes ≡ spelled layout parts ++ more
