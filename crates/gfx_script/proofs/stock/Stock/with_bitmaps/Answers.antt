use Rattle.gfx_script.proofs.Starts.{kept_as, never_refused, stock_at}
use Rattle.gfx_script.proofs.stock.Stock.with_bitmaps.Goals as goal

pub unreachable-requires : goal.unreachable-requires
unreachable-requires c =
    let refused = rw c.in-Err-Refused.field-0-is at c.in-Err-Refused.ensures.exact in
    never_refused _ _ _ _ _ _ _ c.bitmaps.invariant (stock_at c.args.small c.args.start.now c.bitmaps.one-index _ c.bitmaps-test.true c.requires) refused

pub bitmaps-preserved : goal.bitmaps-preserved
bitmaps-preserved c = kept_as _ _ _ _ _ _ _ c.bitmaps.invariant (stock_at c.args.small c.args.start.now c.bitmaps.one-index _ c.bitmaps-test.true c.requires) c.in-Ok.ensures.exact
