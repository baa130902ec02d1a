-- Inner: what serves the proofs of loops alone. No clause of a public call cites it.
use Rattle.std.specs.Prelude.{◌≡◌, ℕ, Bool, false, List, [], ◌∷◌, ◌++◌, unwrap_or}
use Rattle.gfx_base.specs.Colour.{same_colour}
use Rattle.gfx_base.specs.declared.pixel.Rgb.{Rgb}
use Rattle.gfx_base.specs.declared.refusal.Refusal.{Refusal}
use Rattle.gfx_base.specs.declared.refusal.Refusal.TheVariants.{RunTotal}
use Rattle.gfx_clear_runs.specs.Reading.{Part}

-- nothing of what stood there was changed
abbrev pub IsGrown : List ℕ → List ℕ → Type 0
IsGrown old new = (more : List ℕ) × (new ≡ old ++ more)

-- pixels begin with a colour
unfoldable pub begins : Rgb → List Rgb → Bool
begins colour [] = false
begins colour (pixel ∷ pixels) = same_colour colour pixel

-- why elements too many are refused: for what stands behind them, or for their number
abbrev pub reason_of : Part → Refusal
reason_of part = unwrap_or part.refusal RunTotal
