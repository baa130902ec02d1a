use Rattle.std.proofs.Common.{◌≡◌, drop, map}
use Rattle.gfx_script.specs.Building.{each_in_turn}
use Rattle.gfx_script.specs.Drafts.{pushed, without_steps}
use Rattle.gfx_script.specs.declared.step.Step.TheVariants.{Improve}
use Rattle.gfx_script.proofs.draft.Draft.improve_all.Given as goal

abbrev pub invariant-ids : goal.invariant-ids
invariant-ids l =
    (each_in_turn pushed l.self (map Improve (drop l.id-index l.ids)) ≡ each_in_turn pushed l.fn.self (map Improve l.ids))
    × (without_steps l.self ≡ l.fn.self)
