use Rattle.std.proofs.Common.{◌≡◌, ℤ, List}
use Rattle.gfx_dwt.specs.declared.layout.Band.{Band}
use Rattle.gfx_tile_state.specs.Entries.{Pass, is_low}
use Rattle.gfx_tile_make.specs.Writing.{AreDue, HasPassed}
use Rattle.gfx_tile_make.proofs.passing.write_places.Given as goal

abbrev pub invariant-loop-place : goal.invariant-loop-place
invariant-loop-place l =
    (pass : Pass) (entries : List ℤ) (band : Band) → l.low ≡ is_low band → AreDue pass entries l.values band l.before l.behind l.from l.to → HasPassed pass entries l.from l.initial.writers → HasPassed pass entries l.place l.writers
