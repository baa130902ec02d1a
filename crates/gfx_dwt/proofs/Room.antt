-- How many places a line has at most.
use Rattle.std.proofs.Common.{◌≤◌, ◌+◌, lit≤}
use Rattle.gfx_dwt.specs.declared.layout.Transform.{Transform}
use Rattle.gfx_dwt.specs.declared.layout.Transform.TheVariants.{Plain, Reduced}
use Rattle.gfx_dwt.specs.declared.layout.Scale.{Scale}
use Rattle.gfx_dwt.specs.declared.layout.Scale.TheVariants.{First, Second, Third}
use Rattle.gfx_dwt.specs.Place.{high_size, low_size}

pub line_few : (t : Transform) (l : Scale) → low_size t l + high_size t l ≤ 64
line_few Plain First = lit≤ tt
line_few Plain Second = lit≤ tt
line_few Plain Third = lit≤ tt
line_few Reduced First = lit≤ tt
line_few Reduced Second = lit≤ tt
line_few Reduced Third = lit≤ tt
