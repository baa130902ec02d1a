use Rattle.std.proofs.Common.{subst}
use Rattle.gfx_script.specs.Heads.{IsHead}
use Rattle.gfx_script.proofs.Builds.{new_under_way}
use Rattle.gfx_script.proofs.builder.ScriptBuilder.new.Goals as goal

pub invariant_of-result : goal.invariant_of-result
invariant_of-result c = new_under_way c.args.head c.in_ok-draft.draft c.new-2.result.items c.small.result (subst IsHead c.head.view_is c.head.invariant) c.in_ok-draft.ensures c.small.ensures c.new-2.ensures.items
