use Rattle.std.proofs.Common.{◌∙◌, ap, length, subst, sym}
use Rattle.std.proofs.lemmas.List.{with_items_is}
use Rattle.gfx_surface.specs.Picture.{IsPicture}
use Rattle.gfx_surface.specs.Views.{LiesOn}
use Rattle.gfx_surface.proofs.CellPlaces.{cells_apart}
use Rattle.gfx_surface.proofs.LendLemmas.{cell_given, pair_is_picture, pair_returned}
use Rattle.gfx_surface.proofs.surface.Surface.lend_cells.Goals as goal

pub lend_pair-requires-clause-apart : goal.lend_pair-requires-clause-apart
lend_pair-requires-clause-apart g c =
    let first = subst (λ p. LiesOn p c.args.first) (sym c.self.view_is) c.requires.first in
    let second = subst (λ p. LiesOn p c.args.second) (sym c.self.view_is) c.requires.second in
    rw (c.cell_start-start.ensures, c.cell_start-other.ensures)
    (cells_apart c.self.inside.width c.args.first c.args.second first.column second.column c.requires.apart)

pub lend_pair-requires-clause-callable : goal.lend_pair-requires-clause-callable
lend_pair-requires-clause-callable g c p q first second =
    c.requires.callable p q
    (cell_given c.self.inside.width c.self.inside.height c.cell_start-start.result c.self.inside.format c.args.first c.self.inside.cells.items _ p.now _
    c.deref_mut.ensures.value c.self.view_is c.cell_start-start.ensures c.self.invariant.full c.requires.first first)
    (cell_given c.self.inside.width c.self.inside.height c.cell_start-other.result c.self.inside.format c.args.second c.self.inside.cells.items _ q.now _
    c.deref_mut.ensures.value c.self.view_is c.cell_start-other.ensures c.self.invariant.full c.requires.second second)

pub invariant_of-self : goal.invariant_of-self
invariant_of-self g c =
    let items = with_items_is c.self.inside.cells c.lend_pair.new.cells (c.lend_pair.auto.cells ∙ c.deref_mut.ensures.len) in
    record {
      shape =
          pair_is_picture c.args.first c.args.second c.args.self.now _ (subst IsPicture c.self.view_is c.self.invariant.shape)
          (pair_returned c.self.inside.width c.self.inside.height c.cell_start-start.result c.cell_start-other.result c.self.inside.format
          c.args.first c.args.second c.self.inside.cells.items _ _ _ c.args.self.now c.deref_mut.ensures.value items c.self.view_is
          c.cell_start-start.ensures c.cell_start-other.ensures c.self.invariant.full c.requires.first c.requires.second c.lend_pair.ensures);
      full = ap length items ∙ c.lend_pair.auto.cells ∙ (ap length c.deref_mut.ensures.value ∙ c.self.invariant.full);
    }

pub returns : goal.returns
returns g c =
    pair_returned c.self.inside.width c.self.inside.height c.cell_start-start.result c.cell_start-other.result c.self.inside.format
    c.args.first c.args.second c.self.inside.cells.items _ _ _ c.args.self.now c.deref_mut.ensures.value
    (with_items_is c.self.inside.cells c.lend_pair.new.cells (c.lend_pair.auto.cells ∙ c.deref_mut.ensures.len)) c.self.view_is
    c.cell_start-start.ensures c.cell_start-other.ensures c.self.invariant.full c.requires.first c.requires.second c.lend_pair.ensures
