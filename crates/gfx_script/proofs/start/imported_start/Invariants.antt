use Rattle.std.proofs.Common.{◌≡◌, take}
use Rattle.std.specs.Vec.{vec_len, vec_capacity}
use Rattle.gfx_import.specs.Imported.{imported}
use Rattle.gfx_script.specs.Starting.{starts_of}
use Rattle.gfx_script.proofs.start.imported_start.Given as goal

abbrev pub invariant-places : goal.invariant-places
invariant-places l = record {
  items : l.start.items ≡ take l.place (starts_of (imported l.server l.client l.small));
  len : vec_len l.start ≡ l.place;
  room : vec_capacity l.start ≡ l.count;
}
