use Rattle.std.proofs.Common.{◌≡◌, ◌∙◌, Ok, ap, subst}
use Rattle.std.specs.FinMap as finmap
use Rattle.std.specs.FinMap.{from_entries}
use Rattle.gfx_base.proofs.MapLemmas.{updated_map}
use Rattle.gfx_script.specs.Inside.{stock_of}
use Rattle.gfx_script.specs.Stock.{bitmap_kept}
use Rattle.gfx_script.proofs.Bitmaps.{kept_bitmap}
use Rattle.gfx_script.proofs.stock.Stock.keep.Goals as goal

pub returns-in-Ok-insert-clause-exact : goal.returns-in-Ok-insert-clause-exact
returns-in-Ok-insert-clause-exact c =
    subst (λ s. bitmap_kept s c.args.key c.args.width c.args.height ≡ Ok (stock_of record { plan = c.keep.new.self; sides = c.insert.new.self })) c.self.view_is
    (kept_bitmap (stock_of c.self.inside) c.args.key c.args.width c.args.height c.keep.new.self c.in-Ok.kept _ c.in-Ok.ensures.chosen
    (updated_map c.reserve.new.self.entries c.insert.new.self.entries c.in-Ok.kept.slot record { width = c.args.width; height = c.args.height } c.in-Ok-insert.ensures.updates.0
    ∙ ap (λ entries. finmap.insert (from_entries entries) c.in-Ok.kept.slot record { width = c.args.width; height = c.args.height }) c.in_ok-reserve.ensures.entries))
