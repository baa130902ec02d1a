use Rattle.std.proofs.Common.{arith}
use Rattle.gfx_dwt.proofs.kernels.lower_by.Goals as goal

pub offset_bounds-low-k : goal.offset_bounds-low-k
offset_bounds-low-k g c = omega arith

pub bounds-low-k : goal.bounds-low-k
bounds-low-k g c = omega arith

pub offset_bounds-before-k : goal.offset_bounds-before-k
offset_bounds-before-k g c = omega arith

pub bounds-before-k : goal.bounds-before-k
bounds-before-k g c = omega arith

pub offset_bounds-here-k : goal.offset_bounds-here-k
offset_bounds-here-k g c = omega arith

pub bounds-here-k : goal.bounds-here-k
bounds-here-k g c = omega arith

pub offset_bounds-out-k : goal.offset_bounds-out-k
offset_bounds-out-k g c = omega arith

pub bounds-out-k : goal.bounds-out-k
bounds-out-k g c = omega arith
