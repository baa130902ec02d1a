use Rattle.std.proofs.Common.{◌∙◌, ◌*◌}
use Rattle.gfx_layout.specs.Shapes.{pixel}
use Rattle.gfx_import.proofs.FileLemmas.{length-items}
use Rattle.gfx_import.proofs.file.read_entry.Goals as goal

pub new-requires-clause-area : goal.new-requires-clause-area
new-requires-clause-area c = length-items pixel _ _ c.in_ok-pixels.pixels _ c.in_ok-pixels.ensures ∙ (λ i. c.from.ensures i * c.from-2.ensures i)
