use Rattle.std.proofs.Common.{◌≡◌, ◌++◌, ◌-◌, ◌*◌, ◌≤◌, length}
use Rattle.gfx_layout.specs.Shape.{width}
use Rattle.gfx_layout.specs.Reading.{parts_in}
use Rattle.gfx_layout.proofs.fields.read_parts.Given as goal

abbrev pub invariant-parts : goal.invariant-parts
invariant-parts g l = record {
  so_far : l.parts.items ++ parts_in g.T.Part.shape (l.count - l.counter) l.rest ≡ parts_in g.T.Part.shape l.count l.bytes;
  room : (l.count - l.counter) * width g.T.Part.shape ≤ length l.rest;
}
