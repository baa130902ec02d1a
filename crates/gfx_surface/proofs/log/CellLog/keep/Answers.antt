use Rattle.std.proofs.Common.{refl, is_ok, arith}
use Rattle.gfx_surface.specs.Kept.{cells_of}
use Rattle.gfx_surface.proofs.FoundLemmas.{found_kept, found_more, not_kept}
use Rattle.gfx_surface.proofs.KeptLemmas.{found, keeps_kept, keeps_pushed}
use Rattle.gfx_surface.proofs.log.CellLog.keep.Goals as goal

pub returns-in_ok-push-clause-ok : goal.returns-in_ok-push-clause-ok
returns-in_ok-push-clause-ok c =
    keeps_pushed c.args.cell c.args.surface.now c.in_ok-kept.kept c.args.self.now.cells.items c.push.new.self.items
    c.in_ok-push.ensures.items c.size.ensures.shape c.in_ok-kept.ensures.ok

pub returns-else-not-is_kept-clause-ok : goal.returns-else-not-is_kept-clause-ok
returns-else-not-is_kept-clause-ok c =
    keeps_kept c.args.cell c.args.surface.now c.args.self.now.cells.items
    (found c.args.cell c.deref.result.now c.args.self.now.cells.items c.is_kept.result c.deref.ensures.value c.is_kept.ensures.kept c.if-not-is_kept.false)

pub returns-in_ok-push-clause-again : goal.returns-in_ok-push-clause-again
returns-in_ok-push-clause-again c there =
    absurd
    (not_kept c.args.cell c.args.self.now.cells.items c.deref.result.now c.make_place.new.places.items c.number_of-number.result c.index.result.now c.is_kept.result
    (found_more (cells_of c.args.self.now.cells.items) c.args.self.now.places.items c.make_place.new.places.items c.args.self.now.found c.make_place.ensures.more c.make_place.ensures.stay)
    c.number_of-number.ensures.number c.in_ok-make_place.ensures.place c.index.ensures c.deref.ensures.value c.is_kept.ensures.here c.if-not-is_kept.true there)

pub invariant_of-self-then-not-is_kept-clause-found : goal.invariant_of-self-then-not-is_kept-clause-found
invariant_of-self-then-not-is_kept-clause-found c =
    let are = found_more (cells_of c.args.self.now.cells.items) c.args.self.now.places.items c.make_place.new.places.items c.args.self.now.found c.make_place.ensures.more c.make_place.ensures.stay in
    let wide = c.size.ensures.shape.width_most in
    found_kept c.args.cell c.args.self.now.cells.items c.push.new.self.items c.in_ok-kept.kept c.make_place.new.places.items _
    c.number_of-number.result c.len.result (is_ok c.push.result) are (omega (arith, c.requires.column, wide))
    (not_kept c.args.cell c.args.self.now.cells.items c.deref.result.now c.make_place.new.places.items c.number_of-number.result c.index.result.now c.is_kept.result are
    c.number_of-number.ensures.number c.in_ok-make_place.ensures.place c.index.ensures c.deref.ensures.value c.is_kept.ensures.here c.if-not-is_kept.true)
    c.number_of-number.ensures.number c.in_ok-make_place.ensures.place (omega (arith, c.len.ensures)) c.in_ok-kept.ensures.ok.cell_is refl c.push.ensures.items
