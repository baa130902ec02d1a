use Rattle.std.proofs.Common.{arith}
use Rattle.gfx_dwt.proofs.narrow.kernels.raise_by.Goals as goal

pub offset_bounds-high-k : goal.offset_bounds-high-k
offset_bounds-high-k g c = omega arith

pub bounds-high-k : goal.bounds-high-k
bounds-high-k g c = omega arith

pub offset_bounds-left-k : goal.offset_bounds-left-k
offset_bounds-left-k g c = omega arith

pub bounds-left-k : goal.bounds-left-k
bounds-left-k g c = omega arith

pub offset_bounds-right-k : goal.offset_bounds-right-k
offset_bounds-right-k g c = omega arith

pub bounds-right-k : goal.bounds-right-k
bounds-right-k g c = omega arith

pub offset_bounds-out-k : goal.offset_bounds-out-k
offset_bounds-out-k g c = omega arith

pub bounds-out-k : goal.bounds-out-k
bounds-out-k g c = omega arith
