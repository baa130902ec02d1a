use Rattle.std.proofs.Common.{sym, subst}
use Rattle.gfx_bits.specs.Bits.{IsPadded}
use Rattle.gfx_tile_make.proofs.Places.{passed-all}
use Rattle.gfx_tile_make.proofs.passing.finish.Goals as goal

pub returns-in-Ok : goal.returns-in-Ok
returns-in-Ok c upgrade entries long passed =
    let all = passed-all upgrade entries c.args.writers long passed in
    record {
      coded_are = c.in_ok-srl.ensures _ all.0;
      raw_are = subst (λ b. IsPadded b c.from_vec.result) all.1 (subst (λ l. IsPadded c.args.writers.bits l) (sym c.from_vec.ensures) c.in-Ok.ensures);
    }
