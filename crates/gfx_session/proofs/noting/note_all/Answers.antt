use Rattle.std.proofs.Common.{◌+◌, drop, get_or, None}
use Rattle.gfx_session.specs.declared.server_end.listening.ShownFrame.{ShownFrame}
use Rattle.gfx_session.proofs.NotedFrames.{frames_from, notes_next, drops_next}
use Rattle.gfx_session.proofs.noting.note_all.Goals as goal

pub frames-preserved : goal.frames-preserved
frames-preserved c =
    let taken = c.args.taken.now in
    let at = c.frames.one-index in
    let none : ShownFrame = record { frame = 0; step = 0; digest = None } in
    let next = frames_from taken at none c.frames-test.true in (
      notes_next (get_or taken at none) (drop at taken) (drop (at + 1) taken) _ c.frames.acks c.note_one.new.acks c.frames.drawn.items c.note_one.new.drawn.items next c.frames.invariant.0 c.in_ok-note_one.ensures.acks c.in_ok-note_one.ensures.drawn,
      drops_next (get_or taken at none) (drop at taken) (drop (at + 1) taken) _ c.frames.drawn.items c.note_one.new.drawn.items next c.frames.invariant.1 c.in_ok-note_one.ensures.drawn,
    )
