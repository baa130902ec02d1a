use Rattle.std.proofs.Common.{ℕ, ◌+◌, ◌-◌, ◌∙◌, arith}
use Rattle.std.proofs.lemmas.Nat.{rows}
use Rattle.std.proofs.lemmas.Grind.{common_steps}
use Rattle.gfx_dwt.specs.Joining.{edged}
use Rattle.gfx_dwt.specs.Samples.{cell}
use Rattle.gfx_dwt.proofs.Same.{edged_same}
use Rattle.gfx_dwt.proofs.Strips.{row_put}
use Rattle.gfx_dwt.proofs.narrow.rows.edge_rows.Goals as goal

pub loop-r-preserved : goal.loop-r-preserved
loop-r-preserved c =
    let t = c.args.transform in
    let l = c.args.level in
    let m = c.high_size-high_size.result in
    let w = c.low_size-room.result + 1 in
    let f : ℕ → ℕ → _ = λ i k. edged t l (cell m c.args.high.now i) (k - 1) in
    row_put w c.loop-r.r _ c.loop-r.edges c.put_edged.new.edges f (grind (arith, common_steps, rows)) (omega arith) c.loop-r.invariant
    (λ k p. c.put_edged.ensures k (omega arith) ∙ edged_same t l _ _ (λ n q. c.narrow_row.ensures.each n (omega arith)) (k - 1))
