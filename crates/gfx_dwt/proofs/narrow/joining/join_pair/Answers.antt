use Rattle.std.proofs.Common.{◌≡◌, ◌+◌, ◌-◌, ◌++◌, length, ◌∙◌, refl, arith, min}
use Rattle.gfx_dwt.specs.Joining.{even}
use Rattle.gfx_dwt.specs.Lifting.{even_of}
use Rattle.gfx_dwt.specs.Place.{low_size}
use Rattle.gfx_dwt.specs.Ranges.{at}
use Rattle.gfx_dwt.specs.Samples.{column}
use Rattle.gfx_dwt.proofs.Edges.{is_even, is_odd, high_le_low}
use Rattle.gfx_dwt.proofs.Planes.{behind_part, second_part, front_at}
use Rattle.gfx_dwt.proofs.Small.{small_column_even}
use Rattle.gfx_dwt.proofs.narrow.joining.join_pair.Goals as goal

pub pair-requires-clause-above : goal.pair-requires-clause-above
pair-requires-clause-above c = λ x h.
    let t = c.args.transform in
    let l = c.args.level in
    let w = c.args.width in
    let low = column w c.args.low.now x in
    let high = column w c.args.high.now x in
    let n = c.args.place in
    let le = high_le_low t l in
    let up : at c.split_at_mut-above.result.0.now x ≡ even t l low high n = front_at w _ _ c.split_at_mut-above.ensures.front x (omega arith) ∙ c.requires.above x (omega arith) in
    rw up (small_column_even t l w c.args.low.now c.args.high.now c.requires.low_len c.requires.high_len c.requires.small x (omega arith) n (omega arith))

pub pair-requires-clause-evens : goal.pair-requires-clause-evens
pair-requires-clause-evens c = λ x h.
    let t = c.args.transform in
    let l = c.args.level in
    let w = c.args.width in
    let low = column w c.args.low.now x in
    let high = column w c.args.high.now x in
    let n = c.args.place in
    let i : n + 1 - 1 ≡ n = omega arith in
    let next_even : even_of t (at c.narrow_row.result.now x) (at c.narrow_edge_row-here.result.now x) (at c.narrow_edge_row-next.result.now x) ≡ even t l low high (n + 1) =
    is_even t l low high (n + 1) _ _ _ _ refl (c.narrow_row.ensures.each x (omega arith)) (rw i (c.narrow_edge_row-here.ensures.each x (omega arith))) (c.narrow_edge_row-next.ensures.each x (omega arith)) in
    rw next_even (small_column_even t l w c.args.low.now c.args.high.now c.requires.low_len c.requires.high_len c.requires.small x (omega arith) (n + 1) c.requires.place)

pub returns-clause-odds : goal.returns-clause-odds
returns-clause-odds c = λ x h.
    let t = c.args.transform in
    let l = c.args.level in
    let w = c.args.width in
    let low = column w c.args.low.now x in
    let high = column w c.args.high.now x in
    let n = c.args.place in
    let le = high_le_low t l in
    let up : at c.split_at_mut-above.result.0.now x ≡ even t l low high n = front_at w _ _ c.split_at_mut-above.ensures.front x (omega arith) ∙ c.requires.above x (omega arith) in
    let i : n + 1 - 1 ≡ n = omega arith in
    let m : min (n + 1) (low_size t l - 1) ≡ n + 1 = omega arith in
    let next_even : even_of t (at c.narrow_row.result.now x) (at c.narrow_edge_row-here.result.now x) (at c.narrow_edge_row-next.result.now x) ≡ even t l low high (n + 1) =
    is_even t l low high (n + 1) _ _ _ _ refl (c.narrow_row.ensures.each x h) (rw i (c.narrow_edge_row-here.ensures.each x h)) (c.narrow_edge_row-next.ensures.each x h) in
    let odds_len : length c.pair.new.odds ≡ w = c.pair.auto.odds ∙ c.split_at_mut-odds.ensures.front_len in
    second_part w c.split_at_mut-above.result.0.now c.pair.new.odds c.pair.new.evens c.split_at_mut-above.ensures.front_len x (omega arith)
    ∙ is_odd t l low high n _ _ _ _ (c.pair.ensures.odds x (omega arith)) (c.narrow_edge_row-here.ensures.each x h) up (rw m next_even)

pub returns-clause-evens : goal.returns-clause-evens
returns-clause-evens c = λ x h.
    let t = c.args.transform in
    let l = c.args.level in
    let w = c.args.width in
    let low = column w c.args.low.now x in
    let high = column w c.args.high.now x in
    let n = c.args.place in
    let le = high_le_low t l in
    let i : n + 1 - 1 ≡ n = omega arith in
    let m : min (n + 1) (low_size t l - 1) ≡ n + 1 = omega arith in
    let next_even : even_of t (at c.narrow_row.result.now x) (at c.narrow_edge_row-here.result.now x) (at c.narrow_edge_row-next.result.now x) ≡ even t l low high (n + 1) =
    is_even t l low high (n + 1) _ _ _ _ refl (c.narrow_row.ensures.each x h) (rw i (c.narrow_edge_row-here.ensures.each x h)) (c.narrow_edge_row-next.ensures.each x h) in
    let odds_len : length c.pair.new.odds ≡ w = c.pair.auto.odds ∙ c.split_at_mut-odds.ensures.front_len in
    behind_part w c.split_at_mut-above.result.0.now (c.pair.new.odds ++ c.pair.new.evens) c.split_at_mut-above.ensures.front_len (w + x)
    ∙ behind_part w c.pair.new.odds c.pair.new.evens odds_len x ∙ c.pair.ensures.evens x (omega arith) ∙ next_even
