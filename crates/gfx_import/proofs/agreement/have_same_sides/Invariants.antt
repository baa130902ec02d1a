use Rattle.std.proofs.Common.{◌≡◌, drop}
use Rattle.gfx_import.specs.Agreed.{have_sides_of}
use Rattle.gfx_import.specs.Imported.{imported}
use Rattle.gfx_import.proofs.agreement.have_same_sides.Given as goal

abbrev pub invariant-entries : goal.invariant-entries
invariant-entries l =
    have_sides_of (drop l.place (imported l.server l.client l.small)) (drop l.place l.client) ≡ have_sides_of (imported l.server l.client l.small) l.client
