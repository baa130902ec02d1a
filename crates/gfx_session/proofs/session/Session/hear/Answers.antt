use Rattle.std.proofs.Common.{◌∙◌, ◌++◌, false, not, drop, length, ap}
use Rattle.gfx_script.specs.declared.turn.Turn.TheVariants.{Answer}
use Rattle.gfx_session.specs.Noting.{paired}
use Rattle.gfx_session.proofs.ChosenKinds.{is_on}
use Rattle.gfx_session.proofs.TurnLemmas.{heard, will_hear}
use Rattle.gfx_session.proofs.session.Session.hear.Goals as goal

pub hear_bytes-requires : goal.hear_bytes-requires
hear_bytes-requires c = will_hear c.args.self.now c.args.most c.front-piece.result.now c.requires.is c.requires.fresh c.front-piece.ensures

pub returns-clause-does : goal.returns-clause-does
returns-clause-does c =
    let old = c.args.self.now in
    heard old (record old { server = c.hear_bytes.new.server; down = c.put.new.self; up = c.pass.new.self; drawn = c.note_all.new.drawn; acks = c.note_all.new.acks })
    c.new-out.result c.hear_bytes.new.out c.front-piece.result.now c.new-taken.result.items c.hear_bytes.new.taken.items c.args.most (not c.is_empty-moved.result)
    c.new-out.ensures c.new-taken.ensures.items c.front-piece.ensures (will_hear old c.args.most c.front-piece.result.now c.requires.is c.requires.fresh c.front-piece.ensures) c.in_ok-hear_bytes.ensures.hears c.in_ok-hear_bytes.ensures.plans c.pass.ensures c.in_ok-put.ensures.ok
    (c.in_ok-note_all.ensures.acks ∙ ap (λ z. old.acks ++ paired z old.drawn.items) c.as_slice.ensures.value)
    (c.in_ok-note_all.ensures.drawn ∙ ap (λ z. drop (length z) old.drawn.items) c.as_slice.ensures.value)
    (ap not c.is_empty-moved.ensures)

pub returns-clause-is : goal.returns-clause-is
returns-clause-is c =
    let old = c.args.self.now in
    is_on old (record old { server = c.hear_bytes.new.server; down = c.put.new.self; up = c.pass.new.self; drawn = c.note_all.new.drawn; acks = c.note_all.new.acks; spent = false }) (not c.is_empty-moved.result) (Answer c.args.most)
    c.requires.is c.requires.fresh (c.requires.is.server.0, c.hear_bytes.ensures.is c.requires.is.server.0 c.requires.is.server.1)
    (heard old (record old { server = c.hear_bytes.new.server; down = c.put.new.self; up = c.pass.new.self; drawn = c.note_all.new.drawn; acks = c.note_all.new.acks })
    c.new-out.result c.hear_bytes.new.out c.front-piece.result.now c.new-taken.result.items c.hear_bytes.new.taken.items c.args.most (not c.is_empty-moved.result)
    c.new-out.ensures c.new-taken.ensures.items c.front-piece.ensures (will_hear old c.args.most c.front-piece.result.now c.requires.is c.requires.fresh c.front-piece.ensures) c.in_ok-hear_bytes.ensures.hears c.in_ok-hear_bytes.ensures.plans c.pass.ensures c.in_ok-put.ensures.ok
    (c.in_ok-note_all.ensures.acks ∙ ap (λ z. old.acks ++ paired z old.drawn.items) c.as_slice.ensures.value)
    (c.in_ok-note_all.ensures.drawn ∙ ap (λ z. drop (length z) old.drawn.items) c.as_slice.ensures.value)
    (ap not c.is_empty-moved.ensures))

pub returns-in_err-hear_bytes-clause-is : goal.returns-in_err-hear_bytes-clause-is
returns-in_err-hear_bytes-clause-is c = record { server = (c.requires.is.server.0, c.hear_bytes.ensures.is c.requires.is.server.0 c.requires.is.server.1); under_way = λ fresh. absurd cc }

pub returns-in_err-pass-clause-is : goal.returns-in_err-pass-clause-is
returns-in_err-pass-clause-is c = record { server = (c.requires.is.server.0, c.hear_bytes.ensures.is c.requires.is.server.0 c.requires.is.server.1); under_way = λ fresh. absurd cc }

pub returns-in_err-put-clause-is : goal.returns-in_err-put-clause-is
returns-in_err-put-clause-is c = record { server = (c.requires.is.server.0, c.hear_bytes.ensures.is c.requires.is.server.0 c.requires.is.server.1); under_way = λ fresh. absurd cc }

pub returns-in_err-note_all-clause-is : goal.returns-in_err-note_all-clause-is
returns-in_err-note_all-clause-is c = record { server = (c.requires.is.server.0, c.hear_bytes.ensures.is c.requires.is.server.0 c.requires.is.server.1); under_way = λ fresh. absurd cc }
