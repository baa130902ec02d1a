use Rattle.std.proofs.Common.{[]}
use Rattle.gfx_report.specs.StateBytes.{state_bytes}
use Rattle.gfx_report.proofs.TookLemmas.{Took-append}
use Rattle.gfx_report.proofs.state.digest.Goals as goal

pub returns : goal.returns
unfolding state_bytes
returns c =
    let took = Took-append _ _ _ _ _ c.add_surfaces.ensures (Took-append _ _ _ _ _ c.add_slots.ensures c.add_decoder.ensures) in
    c.finalize.ensures _ (took [] c.new-hasher.ensures)
