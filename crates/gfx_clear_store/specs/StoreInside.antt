-- How a store is kept.
use Rattle.gfx_clear_store.specs.declared.store.Store.TheInside.{Inside}
use Rattle.gfx_clear_store.specs.Rings.{Rings, rings, Marked, with_mark}

-- the store of the fields
abbrev pub store_of : Inside → Marked Rings
store_of a = with_mark (rings a.bars.held a.shorts.held) (rings a.bars.marked a.shorts.marked)
