use Rattle.std.proofs.Common.{sym, arith}
use Rattle.std.proofs.lemmas.Option.{slice_get_within}
use Rattle.gfx_session.specs.Session.{script_of}
use Rattle.gfxpipe.proofs.Sessions.{turning_none, turning_more, drained_after}
use Rattle.gfxpipe.proofs.session.take_turns.Goals as goal

pub turns-init : goal.turns-init
turns-init g c = turning_none c.args.session.now _ c.requires.is c.requires.unqueued

pub turns-preserved : goal.turns-preserved
turns-preserved g c =
    let found = sym (rw (c.script.ensures, c.turns.invariant.same, c.in-Some.is) at c.turn.ensures) in
    turning_more c.args.session.now _ _ _ c.turns.at c.turns.session c.turn-in-Some.new.self c.in-Some.turn c.in_ok-turn.field-0 c.turns.invariant found c.in_ok-turn.ensures.turns c.in_ok-turn.ensures.is

pub turns-smaller : goal.turns-smaller
turns-smaller g c =
    let found = sym (rw (c.script.ensures, c.turns.invariant.same, c.in-Some.is) at c.turn.ensures) in
    let there = slice_get_within (script_of c.args.session.now).turns c.turns.at c.in-Some.turn found in
    omega (arith, there)

pub returns : goal.returns
returns g c =
    let none = sym (rw (c.script.ensures, c.turns.invariant.same, c.in_default.is) at c.turn.ensures) in
    drained_after c.drain.result c.args.session.now _ _ _ c.turns.at c.turns.session c.drain.new.self c.turns.invariant none c.drain.ensures.drains
