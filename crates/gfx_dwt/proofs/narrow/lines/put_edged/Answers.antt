use Rattle.std.proofs.Common.{◌≡◌, ◌+◌, ◌-◌, ◌∙◌, length, arith, ap, sym, lit<}
use Rattle.gfx_dwt.specs.Ranges.{at}
use Rattle.gfx_dwt.specs.Joining.{behind}
use Rattle.gfx_dwt.proofs.Bounds.{bits_of_narrow, bits_of_short}
use Rattle.gfx_dwt.proofs.Edges.{high_le_low, high_some}
use Rattle.gfx_dwt.proofs.NarrowLines.{edge_is}
use Rattle.gfx_dwt.proofs.Strips.{mid_below, mid_within}
use Rattle.gfx_dwt.proofs.narrow.lines.put_edged.Goals as goal

pub returns : goal.returns
returns c = λ k h.
    let t = c.args.transform in
    let l = c.args.level in
    let m = length c.args.high.now in
    let le = high_le_low t l in
    let high_len = c.requires.high_len in
    let edges_len = c.requires.edges_len in
    let some = high_some t l in
    let last = bits_of_narrow 8191 (at c.args.high.now (m - 1)) (lit< tt) (c.requires.high (m - 1) (omega arith)) in
    edge_is t l c.args.high.now c.put_behind_first.new.out _ high_len c.put_behind_first.ensures
    (λ j p. mid_below (m + 1) _ c.put_behind_first.new.out c.fill.new.out j p (omega arith))
    _ (bits_of_short c.place_behind-last.result c.place_behind-last.type_inv ∙ c.place_behind-last.ensures ∙ ap (behind t l) last)
    (λ j p q.
    let i : m + 1 + (j - (m + 1)) ≡ j = omega arith in
    ap (at _) (sym i) ∙ mid_within (m + 1) _ c.put_behind_first.new.out c.fill.new.out (j - (m + 1)) (omega arith) (omega arith) ∙ c.fill.ensures (j - (m + 1)) (omega arith))
    k (omega arith)
