use Rattle.std.proofs.Common.{◌∙◌, ◌-◌, ◌*◌, ap, length, subst, arith}
use Rattle.std.proofs.lemmas.List.{with_items_is}
use Rattle.gfx_base.specs.Cells.{cells_along}
use Rattle.gfx_surface.specs.Picture.{IsPicture}
use Rattle.gfx_surface.proofs.LendLemmas.{split_is_picture, split_returned, strip_given}
use Rattle.gfx_surface.proofs.surface.Surface.lend_strip.Goals as goal

pub lend_two-requires-clause-callable : goal.lend_two-requires-clause-callable
lend_two-requires-clause-callable g c p q first second =
    c.requires.callable p q
    (strip_given c.self.inside.width c.self.inside.height c.cell_start-start.result _ c.args.row 0 c.args.column c.self.inside.format c.self.inside.cells.items _ p.now _
    c.deref_mut.ensures.value c.self.view_is c.cell_start-start.ensures (ap (λ n. 4096 * n) c.from-front.ensures ∙ omega arith) c.self.invariant.full
    (omega arith) c.requires.within c.requires.row first)
    (strip_given c.self.inside.width c.self.inside.height c.cell_start-middle.result _ c.args.row c.args.column (cells_along c.args.self.now.width) c.self.inside.format c.self.inside.cells.items _ q.now _
    c.deref_mut.ensures.value c.self.view_is c.cell_start-middle.ensures
    ((λ i. 4096 * (c.cells_along.ensures i - c.from.ensures i)) ∙ ap (λ p. 4096 * (cells_along p.width - c.args.column)) c.self.view_is) c.self.invariant.full
    c.requires.within (omega arith) c.requires.row second)

pub invariant_of-self : goal.invariant_of-self
invariant_of-self g c =
    let items = with_items_is c.self.inside.cells c.lend_two.new.cells (c.lend_two.auto.cells ∙ c.deref_mut.ensures.len) in
    record {
      shape =
          split_is_picture c.args.row c.args.column c.args.self.now _ (subst IsPicture c.self.view_is c.self.invariant.shape)
          (split_returned c.self.inside.width c.self.inside.height c.cell_start-start.result _ c.cell_start-middle.result _ c.args.row c.args.column c.self.inside.format
          c.self.inside.cells.items _ _ _ c.args.self.now c.deref_mut.ensures.value items c.self.view_is
          c.cell_start-start.ensures (ap (λ n. 4096 * n) c.from-front.ensures) c.cell_start-middle.ensures (λ i. 4096 * (c.cells_along.ensures i - c.from.ensures i))
          c.self.invariant.full c.requires.within c.requires.row c.lend_two.ensures);
      full = ap length items ∙ c.lend_two.auto.cells ∙ (ap length c.deref_mut.ensures.value ∙ c.self.invariant.full);
    }

pub returns : goal.returns
returns g c =
    split_returned c.self.inside.width c.self.inside.height c.cell_start-start.result _ c.cell_start-middle.result _ c.args.row c.args.column c.self.inside.format
    c.self.inside.cells.items _ _ _ c.args.self.now c.deref_mut.ensures.value
    (with_items_is c.self.inside.cells c.lend_two.new.cells (c.lend_two.auto.cells ∙ c.deref_mut.ensures.len)) c.self.view_is
    c.cell_start-start.ensures (ap (λ n. 4096 * n) c.from-front.ensures) c.cell_start-middle.ensures (λ i. 4096 * (c.cells_along.ensures i - c.from.ensures i))
    c.self.invariant.full c.requires.within c.requires.row c.lend_two.ensures
