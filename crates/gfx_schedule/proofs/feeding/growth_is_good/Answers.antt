use Rattle.gfx_schedule.proofs.Growing.{checks_make_feeds, growth_is_good, growth_is_planned, growth_stays_in_step}
use Rattle.gfx_schedule.proofs.feeding.growth_is_good.Goals as goal

pub returns-clause-good : goal.returns-clause-good
returns-clause-good c = growth_is_good

pub returns-clause-checked : goal.returns-clause-checked
returns-clause-checked c = checks_make_feeds

pub returns-clause-planned : goal.returns-clause-planned
returns-clause-planned c = growth_is_planned

pub returns-clause-in_step : goal.returns-clause-in_step
returns-clause-in_step c = growth_stays_in_step
