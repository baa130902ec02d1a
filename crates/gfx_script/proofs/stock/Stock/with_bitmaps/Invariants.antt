use Rattle.std.proofs.Common.{◌≡◌, take}
use Rattle.gfx_script.specs.Starting.{stock_with}
use Rattle.gfx_script.proofs.stock.Stock.with_bitmaps.Given as goal

abbrev pub invariant-bitmaps : goal.invariant-bitmaps
invariant-bitmaps l = l.stock ≡ stock_with (take l.one-index l.start) l.small
