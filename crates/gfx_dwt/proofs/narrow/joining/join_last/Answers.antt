use Rattle.std.proofs.Common.{◌≡◌, ◌∙◌, sym, arith}
use Rattle.gfx_dwt.specs.Joining.{even}
use Rattle.gfx_dwt.specs.Ranges.{at}
use Rattle.gfx_dwt.specs.Samples.{column}
use Rattle.gfx_dwt.proofs.Edges.{is_odd, high_le_low, behind_plain_at, behind_reduced_at}
use Rattle.gfx_dwt.proofs.Planes.{behind_part, front_at}
use Rattle.gfx_dwt.proofs.Small.{small_column_even}
use Rattle.gfx_dwt.proofs.narrow.joining.join_last.Goals as goal

pub raise-requires-clause-left : goal.raise-requires-clause-left
raise-requires-clause-left c = λ x h.
    let t = c.args.transform in
    let l = c.args.level in
    let w = c.args.width in
    let low = column w c.args.low.now x in
    let high = column w c.args.high.now x in
    let n = c.args.place in
    let le = high_le_low t l in
    let up : at c.split_at_mut-above.result.0.now x ≡ even t l low high n = front_at w _ _ c.split_at_mut-above.ensures.front x (omega arith) ∙ c.requires.above x (omega arith) in
    rw up (small_column_even t l w c.args.low.now c.args.high.now c.requires.low_len c.requires.high_len c.requires.small x (omega arith) n (omega arith))

pub raise-requires-clause-right : goal.raise-requires-clause-right
raise-requires-clause-right c = λ x h.
    let t = c.args.transform in
    let l = c.args.level in
    let w = c.args.width in
    let low = column w c.args.low.now x in
    let high = column w c.args.high.now x in
    let n = c.args.place in
    let le = high_le_low t l in
    let up : at c.split_at_mut-above.result.0.now x ≡ even t l low high n = front_at w _ _ c.split_at_mut-above.ensures.front x (omega arith) ∙ c.requires.above x (omega arith) in
    rw up (small_column_even t l w c.args.low.now c.args.high.now c.requires.low_len c.requires.high_len c.requires.small x (omega arith) n (omega arith))

pub raise-requires-in-Reduced-clause-left : goal.raise-requires-in-Reduced-clause-left
raise-requires-in-Reduced-clause-left c = λ x h.
    let t = c.args.transform in
    let l = c.args.level in
    let w = c.args.width in
    let low = column w c.args.low.now x in
    let high = column w c.args.high.now x in
    let n = c.args.place in
    let le = high_le_low t l in
    let up : at c.split_at_mut-above.result.0.now x ≡ even t l low high n = front_at w _ _ c.split_at_mut-above.ensures.front x (omega arith) ∙ c.requires.above x (omega arith) in
    rw up (small_column_even t l w c.args.low.now c.args.high.now c.requires.low_len c.requires.high_len c.requires.small x (omega arith) n (omega arith))

pub returns-in-Plain-clause-odds : goal.returns-in-Plain-clause-odds
returns-in-Plain-clause-odds c = λ x h.
    let t = c.args.transform in
    let l = c.args.level in
    let w = c.args.width in
    let low = column w c.args.low.now x in
    let high = column w c.args.high.now x in
    let n = c.args.place in
    let le = high_le_low t l in
    let up : at c.split_at_mut-above.result.0.now x ≡ even t l low high n = front_at w _ _ c.split_at_mut-above.ensures.front x (omega arith) ∙ c.requires.above x (omega arith) in
    behind_part w c.split_at_mut-above.result.0.now c.raise.new.out c.split_at_mut-above.ensures.front_len x
    ∙ is_odd t l low high n _ _ _ _ (c.raise.ensures x (omega arith)) (c.narrow_edge_row-here.ensures.each x h) up (up ∙ sym (behind_plain_at t l low high n c.in-Plain.is c.requires.whole))

pub returns-in-Reduced-clause-odds : goal.returns-in-Reduced-clause-odds
returns-in-Reduced-clause-odds c = λ x h.
    let t = c.args.transform in
    let l = c.args.level in
    let w = c.args.width in
    let low = column w c.args.low.now x in
    let high = column w c.args.high.now x in
    let n = c.args.place in
    let le = high_le_low t l in
    let up : at c.split_at_mut-above.result.0.now x ≡ even t l low high n = front_at w _ _ c.split_at_mut-above.ensures.front x (omega arith) ∙ c.requires.above x (omega arith) in
    behind_part w c.split_at_mut-above.result.0.now c.raise-in-Reduced.new.out c.split_at_mut-above.ensures.front_len x
    ∙ is_odd t l low high n _ _ _ _ (c.raise-in-Reduced.ensures x (omega arith)) (c.narrow_edge_row-here.ensures.each x h) up (c.narrow_row.ensures.each x h ∙ behind_reduced_at t l low high n c.in-Reduced.is c.requires.whole)
