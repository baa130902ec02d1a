use Rattle.gfx_laws.proofs.Acknowledging.{feeds, feeds-from-kept, feeds-from-nothing}
use Rattle.gfx_laws.proofs.acknowledged.every_feed_shows_its_script.Goals as goal

pub returns-clause-from_nothing : goal.returns-clause-from_nothing
returns-clause-from_nothing c = feeds-from-nothing

pub returns-clause-from_kept : goal.returns-clause-from_kept
returns-clause-from_kept c = feeds-from-kept

pub returns-clause-from_a_start : goal.returns-clause-from_a_start
returns-clause-from_a_start c = feeds
