use Rattle.std.proofs.Common.{◌∙◌, ◌<◌, nat_eq, Some, ap, refl, sym, subst}
use Rattle.std.specs.FinMap.{from_entries}
use Rattle.std.specs.Map.{lookup}
use Rattle.std.specs.Option.{IsSome}
use Rattle.indexmap.specs.IndexMap.{spare}
use Rattle.gfx_damage.specs.Damage.{marked, rects_in}
use Rattle.gfx_damage.specs.Drawing.{drawn_by}
use Rattle.gfx_damage.proofs.DamageLemmas.{put_to, was_ok}
use Rattle.gfx_damage.proofs.damage.note_one.Goals as goal

pub returns-in-Some : goal.returns-in-Some
returns-in-Some c =
    put_to c.args.marks.now.entries (c.get_mut.follows.lender c.add_drawing.new.held).entries (drawn_by c.args.drawing.now) c.in-Some.held.now c.add_drawing.new.held
    (ap rects_in c.in-Some.ensures.value) c.add_drawing.ensures
    ((c.get_mut.follows.holds c.add_drawing.new.held).3 (subst IsSome c.in-Some.ensures.value refl)).0

pub returns : goal.returns
returns c =
    let same = c.get_mut.follows.holds-at-none in
    let absent = rw c.in_default.is at c.get_mut.ensures.value in
    put_to c.get_mut.follows.lender-at-none.entries c.insert.new.self.entries (drawn_by c.args.drawing.now) c.new-rects.result c.add_drawing-2.new.held
    (c.new-rects.ensures ∙ ap rects_in absent ∙ sym (ap (λ m. rects_in (lookup (nat_eq c.args.drawing.now.surface) m.entries)) same)) c.add_drawing-2.ensures
    (was_ok c.insert.result (c.insert.ensures.succeeds (subst (λ m. 0 < spare m) (sym same) c.requires)) c.insert.ensures.updates).0
    ∙ ap (λ m. marked (from_entries m.entries) (Some (drawn_by c.args.drawing.now))) same
