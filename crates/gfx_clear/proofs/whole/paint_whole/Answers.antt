use Rattle.std.proofs.Common.{length, sym, subst}
use Rattle.gfx_clear_runs.specs.Reading.{runs_of, rlex_of}
use Rattle.gfx_clear.specs.Wholes.{PaintsAs, whole_pixels}
use Rattle.gfx_clear.proofs.Alone.{paints_runs}
use Rattle.gfx_clear.proofs.whole.paint_whole.Goals as goal

pub returns-in-Runs : goal.returns-in-Runs
returns-in-Runs c =
    subst (λ z. PaintsAs c.paint_runs.result c.paint_runs.new.out (whole_pixels z (length c.args.out.now))) (sym c.in-Runs.is)
    (paints_runs c.paint_runs.result (length c.args.out.now) (runs_of c.in-Runs.bytes.now) c.paint_runs.new.out c.paint_runs.ensures)

pub returns-in-Palette : goal.returns-in-Palette
returns-in-Palette c =
    subst (λ z. PaintsAs c.paint_rlex.result c.paint_rlex.new.out (whole_pixels z (length c.args.out.now))) (sym c.in-Palette.is)
    (paints_runs c.paint_rlex.result (length c.args.out.now) (rlex_of c.in-Palette.bytes.now) c.paint_rlex.new.out c.paint_rlex.ensures)
