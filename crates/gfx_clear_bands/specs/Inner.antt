-- Inner: what the readers of columns and bands hand on to each other, for the proofs of their loops alone. No
-- clause of a public call cites it.
use Rattle.std.specs.Prelude.{◌≡◌, ℕ, ◌-◌, ◌<◌, ◌≤◌, List, Result, Ok, Err}
use Rattle.std.specs.Borrow.{Bor}
use Rattle.gfx_base.specs.declared.refusal.Refusal.{Refusal}
use Rattle.gfx_clear_store.specs.Rings.{Rings}
use Rattle.gfx_clear_store.specs.declared.store.TheConstants.{MOST_BAR}
use Rattle.gfx_clear_bands.specs.Bars.{Bar, bar}
use Rattle.gfx_clear_bands.specs.Bands.{Drawing, Stop, stopped, height_of, draws_bar}
use Rattle.gfx_clear_bands.specs.declared.band.Band.{Band}
use Rattle.gfx_clear_bands.specs.declared.bar.BarRead.{BarRead}

abbrev pub read_as : BarRead → Rings → Bar
read_as read rings = record { pixels = read.pixels.items; rings = rings; rest = read.rest.now }

-- what was drawn, and the bytes behind it, or where it was stopped
abbrev pub DrawsOn : Result (Bor (List ℕ)) Refusal → Drawing → Result (Drawing × List ℕ) Stop → Type 0
DrawsOn (Ok rest) new due = due ≡ Ok (new, rest.now)
DrawsOn (Err refusal) new due = due ≡ Err (stopped new refusal)

-- a column was drawn, or refused before anything was drawn or kept
abbrev pub DrawsColumn : Result (Bor (List ℕ)) Refusal → ℕ → Band → ℕ → Drawing → Drawing → List ℕ → Type 0
DrawsColumn (Ok rest) width band x old new bytes =
    (read : Bar) × (bar old.rings (height_of band) band.background bytes ≡ Ok read) × ((new, rest.now) ≡ draws_bar width band x old read)
DrawsColumn (Err refusal) width band x old new bytes = (bar old.rings (height_of band) band.background bytes ≡ Err refusal) × (new ≡ old)

-- what the test of a band's head says
pub record IsShaped (width height : ℕ) (band : Band) : Type 0 where
  pub sides : band.left ≤ band.right
  pub inside : band.right < width
  pub rows : band.top ≤ band.bottom
  pub above : band.bottom < height
  pub low : band.bottom - band.top < MOST_BAR
