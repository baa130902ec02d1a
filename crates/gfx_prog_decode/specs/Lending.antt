-- What is kept after one of the records was lent for writing.
use Rattle.std.specs.Prelude.{Option}
use Rattle.std.specs.Borrow.{LendsIf, MutBor, Fml}
use Rattle.std.specs.FinMap.{insert}
use Rattle.gfx_tile_state.specs.declared.state.TileState.{TileState}
use Rattle.gfx_tile_state.specs.contracts.state.TileState.{the_row as tile_row}
use Rattle.gfx_prog_decode.specs.declared.key.Key.{Key}
use Rattle.gfx_prog_decode.specs.Records.{Records}
use Rattle.gfx_prog_decode.specs.contracts.records.Records.{the_row}

-- the key's record ends as the last one behind r, and all else is as it was
abbrev pub LendsFrom : MutBor Records → Key → Option (MutBor TileState) → Fml
LendsFrom s key r = LendsIf the_row tile_row s r (λ w. insert s.now key w) s.now
