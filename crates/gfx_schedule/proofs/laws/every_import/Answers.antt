use Rattle.gfx_schedule.proofs.Importing.{every_import, import_may_begin}
use Rattle.gfx_schedule.proofs.laws.every_import.Goals as goal

pub returns-clause-holds : goal.returns-clause-holds
returns-clause-holds c = every_import

pub returns-clause-begins : goal.returns-clause-begins
returns-clause-begins c = import_may_begin
