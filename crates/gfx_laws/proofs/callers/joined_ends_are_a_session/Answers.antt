use Rattle.gfx_laws.proofs.Calling.{joined_begin, joined_draw, joined_hear, joined_serve}
use Rattle.gfx_laws.proofs.callers.joined_ends_are_a_session.Goals as goal

pub returns-clause-begins : goal.returns-clause-begins
returns-clause-begins c = joined_begin

pub returns-clause-serves : goal.returns-clause-serves
returns-clause-serves c = joined_serve

pub returns-clause-draws : goal.returns-clause-draws
returns-clause-draws c = joined_draw

pub returns-clause-hears : goal.returns-clause-hears
returns-clause-hears c = joined_hear
