use Rattle.gfx_script_text.proofs.FromNothing.{read_empty, read_few, read_good, read_none, read_steps_few}
use Rattle.gfx_script_text.proofs.reading.read_script.Goals as goal

pub returns-clause-exact : goal.returns-clause-exact
returns-clause-exact c = read_none _ _ _ _ c.new-nothing.ensures c.read_script_kept.ensures.exact

pub returns-clause-accepted : goal.returns-clause-accepted
returns-clause-accepted c = read_good _ c.args.text.now (returns-clause-exact c)

pub returns-clause-starts : goal.returns-clause-starts
returns-clause-starts c = read_empty _ c.args.text.now (returns-clause-exact c)

pub returns-clause-pictures : goal.returns-clause-pictures
returns-clause-pictures c = read_few _ c.args.text.now (returns-clause-exact c)

pub returns-clause-steps : goal.returns-clause-steps
returns-clause-steps c = read_steps_few _ c.args.text.now (returns-clause-exact c)
