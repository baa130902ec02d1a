use Rattle.std.proofs.Common.{◌*◌, ◌+◌, sym, ◌∙◌, arith, FitsSigned, w16, rules}
use Rattle.std.proofs.lemmas.Int.{to_z-of_z}
use Rattle.gfx_dwt.specs.Ranges.{at}
use Rattle.gfx_dwt.proofs.NoDetail.{sample_flat}
use Rattle.gfx_dwt.proofs.narrow.inverse_narrow.Goals as goal

pub returns-then-is_flat-clause-narrow : goal.returns-then-is_flat-clause-narrow
returns-then-is_flat-clause-narrow c = λ _ y x p q.
    let t = c.args.transform in
    let plane = c.args.coefficients.now in
    let low_is = c.low_size-last_size.ensures in
    let value : FitsSigned w16 (at plane 4095) = search rules in
    c.fill.ensures (y * 64 + x) (omega arith)
    ∙ to_z-of_z w16 (at plane 4095) value
    ∙ sym (sample_flat t (at plane 4095) plane (λ k h. c.is_flat.ensures.before c.if-is_flat.true k (rw low_is h)) (λ k h i. c.is_flat.ensures.behind c.if-is_flat.true k (rw low_is h) i) y x p q)
