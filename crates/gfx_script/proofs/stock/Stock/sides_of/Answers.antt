use Rattle.std.proofs.Common.{◌∙◌, ap, sym, Some, None}
use Rattle.gfx_base.proofs.MapLemmas.{get-entries_lookup}
use Rattle.gfx_script.specs.Inside.{stock_of}
use Rattle.gfx_script.specs.Stock.{bitmap_sides}
use Rattle.gfx_script.proofs.Bitmaps.{slot_has}
use Rattle.gfx_script.proofs.stock.Stock.sides_of.Goals as goal

pub returns-in-Some-get : goal.returns-in-Some-get
returns-in-Some-get c =
    slot_has (stock_of c.self.inside) c.args.key c.in-Some.slot (Some c.in-Some-get.sides.now) c.in-Some.ensures
    (get-entries_lookup c.self.inside.sides.entries c.in-Some.slot ∙ sym c.in-Some-get.ensures.value)
    ∙ ap (λ s. bitmap_sides s c.args.key) c.self.view_is

pub returns-in-None : goal.returns-in-None
returns-in-None c =
    slot_has (stock_of c.self.inside) c.args.key c.in-Some.slot None c.in-Some.ensures
    (get-entries_lookup c.self.inside.sides.entries c.in-Some.slot ∙ sym c.in-None.ensures.value)
    ∙ ap (λ s. bitmap_sides s c.args.key) c.self.view_is
