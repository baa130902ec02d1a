use Rattle.std.proofs.Common.{arith, ◌*◌, ◌+◌, ◌-◌, ◌≤◌}
use Rattle.std.proofs.Math.Nat.{mul-le-mul_right}
use Rattle.gfx_dwt.specs.Place.{high_size, low_size}
use Rattle.gfx_dwt.proofs.Room.{line_few}
use Rattle.gfx_dwt.proofs.Edges.{high_some, high_le_low}
use Rattle.gfx_dwt.proofs.splitting.split_pairs.Goals as goal

pub slice_bounds-room-end : goal.slice_bounds-room-end
slice_bounds-room-end c =
    let few = line_few c.args.transform c.args.level in
    omega arith

pub overflow_sub-last : goal.overflow_sub-last
overflow_sub-last c =
    let le = high_le_low c.args.transform c.args.level in
    let some = high_some c.args.transform c.args.level in
    omega arith

pub overflow_mul-start : goal.overflow_mul-start
overflow_mul-start c =
    let t = c.args.transform in
    let l = c.args.level in
    let w = c.args.width in
    let few = line_few t l in
    let le = high_le_low t l in
    let some = high_some t l in
    let more : (c.pairs.r + 1) * w ≤ high_size t l * w = mul-le-mul_right w (omega arith) in
    let also : high_size t l * w ≤ low_size t l * w = mul-le-mul_right w le in
    let small : low_size t l * w ≤ 64 * w = mul-le-mul_right w (omega arith) in
    omega arith

pub overflow_add-r : goal.overflow_add-r
overflow_add-r c = omega arith

pub overflow_add-start : goal.overflow_add-start
overflow_add-start c =
    let t = c.args.transform in
    let l = c.args.level in
    let w = c.args.width in
    let few = line_few t l in
    let le = high_le_low t l in
    let some = high_some t l in
    let more : (c.pairs.r + 1) * w ≤ high_size t l * w = mul-le-mul_right w (omega arith) in
    let also : high_size t l * w ≤ low_size t l * w = mul-le-mul_right w le in
    let small : low_size t l * w ≤ 64 * w = mul-le-mul_right w (omega arith) in
    omega arith

pub offset_bounds-low-start : goal.offset_bounds-low-start
offset_bounds-low-start c =
    let t = c.args.transform in
    let l = c.args.level in
    let w = c.args.width in
    let few = line_few t l in
    let le = high_le_low t l in
    let some = high_some t l in
    let more : (c.pairs.r + 1) * w ≤ high_size t l * w = mul-le-mul_right w (omega arith) in
    let also : high_size t l * w ≤ low_size t l * w = mul-le-mul_right w le in
    let small : low_size t l * w ≤ 64 * w = mul-le-mul_right w (omega arith) in
    omega arith

pub slice_bounds-split_pair-count : goal.slice_bounds-split_pair-count
slice_bounds-split_pair-count c = omega arith

pub slice_bounds-split_pair-start : goal.slice_bounds-split_pair-start
slice_bounds-split_pair-start c = omega arith

pub slice_bounds-split_pair-end : goal.slice_bounds-split_pair-end
slice_bounds-split_pair-end c =
    let t = c.args.transform in
    let l = c.args.level in
    let w = c.args.width in
    let few = line_few t l in
    let le = high_le_low t l in
    let some = high_some t l in
    let more : (c.pairs.r + 1) * w ≤ high_size t l * w = mul-le-mul_right w (omega arith) in
    let also : high_size t l * w ≤ low_size t l * w = mul-le-mul_right w le in
    let small : low_size t l * w ≤ 64 * w = mul-le-mul_right w (omega arith) in
    omega arith

pub overflow_add-start-in-pairs : goal.overflow_add-start-in-pairs
overflow_add-start-in-pairs c =
    let t = c.args.transform in
    let l = c.args.level in
    let w = c.args.width in
    let few = line_few t l in
    let le = high_le_low t l in
    let some = high_some t l in
    let more : (c.pairs.r + 1) * w ≤ high_size t l * w = mul-le-mul_right w (omega arith) in
    let also : high_size t l * w ≤ low_size t l * w = mul-le-mul_right w le in
    let small : low_size t l * w ≤ 64 * w = mul-le-mul_right w (omega arith) in
    omega arith

pub offset_bounds-high-start : goal.offset_bounds-high-start
offset_bounds-high-start c =
    let t = c.args.transform in
    let l = c.args.level in
    let w = c.args.width in
    let few = line_few t l in
    let le = high_le_low t l in
    let some = high_some t l in
    let more : (c.pairs.r + 1) * w ≤ high_size t l * w = mul-le-mul_right w (omega arith) in
    let also : high_size t l * w ≤ low_size t l * w = mul-le-mul_right w le in
    let small : low_size t l * w ≤ 64 * w = mul-le-mul_right w (omega arith) in
    omega arith

pub slice_bounds-split_pair-count-in-pairs : goal.slice_bounds-split_pair-count-in-pairs
slice_bounds-split_pair-count-in-pairs c = omega arith

pub slice_bounds-split_pair-start-in-pairs : goal.slice_bounds-split_pair-start-in-pairs
slice_bounds-split_pair-start-in-pairs c = omega arith

pub slice_bounds-split_pair-end-in-pairs : goal.slice_bounds-split_pair-end-in-pairs
slice_bounds-split_pair-end-in-pairs c =
    let t = c.args.transform in
    let l = c.args.level in
    let w = c.args.width in
    let few = line_few t l in
    let le = high_le_low t l in
    let some = high_some t l in
    let more : (c.pairs.r + 1) * w ≤ high_size t l * w = mul-le-mul_right w (omega arith) in
    let also : high_size t l * w ≤ low_size t l * w = mul-le-mul_right w le in
    let small : low_size t l * w ≤ 64 * w = mul-le-mul_right w (omega arith) in
    omega arith

pub overflow_add-last : goal.overflow_add-last
overflow_add-last c = omega arith

pub overflow_sub-low_size : goal.overflow_sub-low_size
overflow_sub-low_size c =
    let le = high_le_low c.args.transform c.args.level in
    let some = high_some c.args.transform c.args.level in
    omega arith

pub overflow_mul-start-2 : goal.overflow_mul-start-2
overflow_mul-start-2 c =
    let t = c.args.transform in
    let l = c.args.level in
    let w = c.args.width in
    let few = line_few t l in
    let le = high_le_low t l in
    let some = high_some t l in
    let whole : (c.high_size-last.result - 1 + 1) * w ≤ high_size t l * w = mul-le-mul_right w (omega arith) in
    let also : high_size t l * w ≤ low_size t l * w = mul-le-mul_right w le in
    let small : low_size t l * w ≤ 64 * w = mul-le-mul_right w (omega arith) in
    omega arith

pub overflow_add-start-2 : goal.overflow_add-start-2
overflow_add-start-2 c =
    let t = c.args.transform in
    let l = c.args.level in
    let w = c.args.width in
    let few = line_few t l in
    let le = high_le_low t l in
    let some = high_some t l in
    let whole : (c.high_size-last.result - 1 + 1) * w ≤ high_size t l * w = mul-le-mul_right w (omega arith) in
    let also : high_size t l * w ≤ low_size t l * w = mul-le-mul_right w le in
    let small : low_size t l * w ≤ 64 * w = mul-le-mul_right w (omega arith) in
    omega arith

pub offset_bounds-low-start-2 : goal.offset_bounds-low-start-2
offset_bounds-low-start-2 c =
    let t = c.args.transform in
    let l = c.args.level in
    let w = c.args.width in
    let few = line_few t l in
    let le = high_le_low t l in
    let some = high_some t l in
    let whole : (c.high_size-last.result - 1 + 1) * w ≤ high_size t l * w = mul-le-mul_right w (omega arith) in
    let also : high_size t l * w ≤ low_size t l * w = mul-le-mul_right w le in
    let small : low_size t l * w ≤ 64 * w = mul-le-mul_right w (omega arith) in
    omega arith

pub slice_bounds-split_pair-count-2 : goal.slice_bounds-split_pair-count-2
slice_bounds-split_pair-count-2 c = omega arith

pub slice_bounds-split_pair-start-2 : goal.slice_bounds-split_pair-start-2
slice_bounds-split_pair-start-2 c = omega arith

pub slice_bounds-split_pair-end-2 : goal.slice_bounds-split_pair-end-2
slice_bounds-split_pair-end-2 c =
    let t = c.args.transform in
    let l = c.args.level in
    let w = c.args.width in
    let few = line_few t l in
    let le = high_le_low t l in
    let some = high_some t l in
    let whole : (c.high_size-last.result - 1 + 1) * w ≤ high_size t l * w = mul-le-mul_right w (omega arith) in
    let also : high_size t l * w ≤ low_size t l * w = mul-le-mul_right w le in
    let small : low_size t l * w ≤ 64 * w = mul-le-mul_right w (omega arith) in
    omega arith

pub overflow_add-start-3 : goal.overflow_add-start-3
overflow_add-start-3 c =
    let t = c.args.transform in
    let l = c.args.level in
    let w = c.args.width in
    let few = line_few t l in
    let le = high_le_low t l in
    let some = high_some t l in
    let whole : (c.high_size-last.result - 1 + 1) * w ≤ high_size t l * w = mul-le-mul_right w (omega arith) in
    let also : high_size t l * w ≤ low_size t l * w = mul-le-mul_right w le in
    let small : low_size t l * w ≤ 64 * w = mul-le-mul_right w (omega arith) in
    omega arith

pub offset_bounds-high-start-2 : goal.offset_bounds-high-start-2
offset_bounds-high-start-2 c =
    let t = c.args.transform in
    let l = c.args.level in
    let w = c.args.width in
    let few = line_few t l in
    let le = high_le_low t l in
    let some = high_some t l in
    let whole : (c.high_size-last.result - 1 + 1) * w ≤ high_size t l * w = mul-le-mul_right w (omega arith) in
    let also : high_size t l * w ≤ low_size t l * w = mul-le-mul_right w le in
    let small : low_size t l * w ≤ 64 * w = mul-le-mul_right w (omega arith) in
    omega arith

pub slice_bounds-split_pair-count-3 : goal.slice_bounds-split_pair-count-3
slice_bounds-split_pair-count-3 c = omega arith

pub slice_bounds-split_pair-start-3 : goal.slice_bounds-split_pair-start-3
slice_bounds-split_pair-start-3 c = omega arith

pub slice_bounds-split_pair-end-3 : goal.slice_bounds-split_pair-end-3
slice_bounds-split_pair-end-3 c =
    let t = c.args.transform in
    let l = c.args.level in
    let w = c.args.width in
    let few = line_few t l in
    let le = high_le_low t l in
    let some = high_some t l in
    let whole : (c.high_size-last.result - 1 + 1) * w ≤ high_size t l * w = mul-le-mul_right w (omega arith) in
    let also : high_size t l * w ≤ low_size t l * w = mul-le-mul_right w le in
    let small : low_size t l * w ≤ 64 * w = mul-le-mul_right w (omega arith) in
    omega arith
