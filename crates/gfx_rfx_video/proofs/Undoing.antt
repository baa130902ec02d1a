-- What can still be undone.
use Rattle.std.proofs.Common.{◌≡◌, ◌∙◌, ap, List}
use Rattle.gfx_base.specs.declared.geometry.Cell.{Cell}
use Rattle.gfx_surface.specs.declared.kept_cell.KeptCell.{KeptCell}
use Rattle.gfx_surface.specs.Kept.{ChangesOnly, KeepsCell, put_back}
use Rattle.gfx_surface.specs.Picture.{Picture}
use Rattle.gfx_rfx_video.specs.Undo.{StaysUndoable}

-- step after step
pub still : (one two three : List KeptCell) (a b c : Picture) → StaysUndoable one a two b → StaysUndoable two b three c → StaysUndoable one a three c
still one two three a b c first then before u = then before (first before u)

-- nothing was kept or drawn
pub still-same : (log more : List KeptCell) (now : Picture) → more ≡ log → StaysUndoable log now more now
still-same log more now same before u = ap (λ l. put_back l now) same ∙ u

-- a cell was kept, and nothing else is drawn on
pub still-drawn : (one : Cell) (log more : List KeptCell) (now later : Picture) → KeepsCell one now log more → ChangesOnly one now later → StaysUndoable log now more later
still-drawn one log more now later keeps only before u = keeps later only before u
