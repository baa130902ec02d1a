use Rattle.std.proofs.Common.{sym}
use Rattle.gfxpipe.proofs.Sessions.{all_at}
use Rattle.gfxpipe.proofs.Trying.{wrote_one}
use Rattle.gfxpipe.proofs.trial.write_last.Goals as goal

pub digests-requires : goal.digests-requires
digests-requires g c =
    let last = sym (rw (c.as_slice.ensures, c.acks-acks.ensures, c.in-Some.is) at c.last.ensures.value) in
    all_at c.args.session.now.acks _ c.in-Some.ack.now c.requires last

pub returns-in-Some : goal.returns-in-Some
returns-in-Some g c =
    let last = sym (rw (c.as_slice.ensures, c.acks-acks.ensures, c.in-Some.is) at c.last.ensures.value) in
    wrote_one c.write_trial.result _ c.args.number c.args.session.now.acks c.in-Some.ack.now _ _ last c.digests.ensures.client c.digests.ensures.server (rw (c.len.ensures, c.acks-acks.ensures) at c.write_trial.ensures)
