use Rattle.std.specs.Prelude.{◌==◌, ◌&&◌, not}
use Rattle.gfx_prog_decode.proofs.Ones.{message-stays, none-yet, retained-one, tile-stays, upgraded-one}
use Rattle.gfx_prog_decode.proofs.laws.one_transform.Goals as goal

pub returns-clause-none : goal.returns-clause-none
returns-clause-none c = none-yet

pub returns-clause-tile : goal.returns-clause-tile
returns-clause-tile c = tile-stays

pub returns-clause-message : goal.returns-clause-message
returns-clause-message c = message-stays

pub returns-clause-surface : goal.returns-clause-surface
returns-clause-surface c records id were = retained-one records (λ key. not (key.surface == id)) were

pub returns-clause-context : goal.returns-clause-context
returns-clause-context c records id context were = retained-one records (λ key. not (key.surface == id && key.context == context)) were

pub returns-clause-upgrade : goal.returns-clause-upgrade
returns-clause-upgrade c = upgraded-one
