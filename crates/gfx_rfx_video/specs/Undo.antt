-- What is put back where a message is refused: the cells that it drew on, as they stood before its first tile there (this
-- project's own rule).
use Rattle.std.specs.Prelude.{◌≡◌, List}
use Rattle.gfx_surface.specs.declared.kept_cell.KeptCell.{KeptCell}
use Rattle.gfx_surface.specs.Kept.{put_back}
use Rattle.gfx_surface.specs.Picture.{Picture}

-- whatever was put back is still put back
abbrev pub StaysUndoable : List KeptCell → Picture → List KeptCell → Picture → Type 0
StaysUndoable log old more new = (before : Picture) → put_back log old ≡ before → put_back more new ≡ before
