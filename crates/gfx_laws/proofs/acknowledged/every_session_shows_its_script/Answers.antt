use Rattle.gfx_laws.proofs.Acknowledging.{every-import, every-session, every-start}
use Rattle.gfx_laws.proofs.acknowledged.every_session_shows_its_script.Goals as goal

pub returns-clause-from_nothing : goal.returns-clause-from_nothing
returns-clause-from_nothing c = every-session

pub returns-clause-from_kept : goal.returns-clause-from_kept
returns-clause-from_kept c = every-import

pub returns-clause-from_a_start : goal.returns-clause-from_a_start
returns-clause-from_a_start c = every-start
