use Rattle.gfx_schedule.proofs.FedPromises.{every_feed, every_feed_alike, every_feed_from_nothing, every_fed_import}
use Rattle.gfx_schedule.proofs.feeding.every_feed.Goals as goal

pub returns-clause-from_a_start : goal.returns-clause-from_a_start
returns-clause-from_a_start c = every_feed

pub returns-clause-alike : goal.returns-clause-alike
returns-clause-alike c = every_feed_alike

pub returns-clause-from_nothing : goal.returns-clause-from_nothing
returns-clause-from_nothing c = every_feed_from_nothing

pub returns-clause-from_kept : goal.returns-clause-from_kept
returns-clause-from_kept c = every_fed_import
