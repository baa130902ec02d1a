use Rattle.gfx_slot_plan.proofs.InTurn.{keeps_in_turn}
use Rattle.gfx_slot_plan.proofs.laws.keys_are_kept_in_turn.Goals as goal

pub returns : goal.returns
returns c = keeps_in_turn
