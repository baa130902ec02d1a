use Rattle.std.proofs.Common.{◌∙◌, ◌&&◌, ◌||◌, not, Err, if◌then◌else◌, ap}
use Rattle.std.proofs.lemmas.Result.{err_from_is_err_and}
use Rattle.std.specs.FinMap.{empty, from_entries}
use Rattle.gfx_pdu.specs.Borrowed.{pdu_of}
use Rattle.gfx_damage.specs.Drawing.{drawing_in}
use Rattle.gfx_damage.proofs.DamageLemmas.{noting}
use Rattle.gfx_damage.proofs.WantLemmas.{drawn_written, effect_wants, note_wants}
use Rattle.gfx_damage.proofs.damage.Damage.apply.Goals as goal

pub returns-in_err-drawing-clause-memory : goal.returns-in_err-drawing-clause-memory
returns-in_err-drawing-clause-memory c = note_wants c.args.state.now (pdu_of c.args.pdu.now) c.from_residual.result c.in_err-drawing.ensures.memory

pub returns-in_err-make_room-clause-memory : goal.returns-in_err-make_room-clause-memory
returns-in_err-make_room-clause-memory c =
    note_wants c.args.state.now (pdu_of c.args.pdu.now) c.from_residual-in_err-make_room.result
    (drawn_written c.in_ok-drawing.drawing _ c.in_ok-drawing.ensures.value c.in_err-make_room.ensures.memory)

pub returns-in_err-apply_ref-clause-memory : goal.returns-in_err-apply_ref-clause-memory
returns-in_err-apply_ref-clause-memory c =
    let p = err_from_is_err_and c.from_residual-in_err-apply_ref.result c.from_residual-in_err-apply_ref.ensures.1 in
    rw (p.1, p.2) (effect_wants {X = Unit {0}} c.args.state.now (pdu_of c.args.pdu.now) (Err c.in_err-apply_ref.field-0.0) c.in_err-apply_ref.ensures.memory)

pub returns-clause-notes : goal.returns-clause-notes
returns-clause-notes c =
    noting c.args.self.now c.args.state.now (pdu_of c.args.pdu.now) c.ends_frame-self-inside.result _ (from_entries c.begin.new.marks.entries) (from_entries c.note.new.marks.entries) (drawing_in c.in_ok-drawing.drawing)
    (c.ends_frame-self-inside.ensures (pdu_of c.args.pdu.now) c.id-id.ensures)
    (λ i. ((c.self.view_is i).whole && not (c.self.view_is i).ended) || c.changes_all.ensures (pdu_of c.args.pdu.now) c.id-id.ensures i)
    (c.begin.ensures.marks ∙ ap (λ entries. if c.self.inside.ended then empty else from_entries entries) c.make_room.ensures.entries ∙ ap (λ d. if d.ended then empty else d.marks) c.self.view_is)
    c.in_ok-drawing.ensures.value
    c.note.ensures
