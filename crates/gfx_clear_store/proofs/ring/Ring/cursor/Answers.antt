use Rattle.std.proofs.Common.{◌∙◌, subst}
use Rattle.gfx_clear_store.specs.Rings.{IsRing}
use Rattle.gfx_clear_store.proofs.Undone.{length-undone}
use Rattle.gfx_clear_store.proofs.ring.Ring.cursor.Goals as goal

pub returns-clause-marked : goal.returns-clause-marked
returns-clause-marked g c =
    subst (λ z. IsRing g.row.COUNT z.marked) c.self.view_is
    (record { whole = length-undone c.self.inside.log.entries c.self.inside.slots.items ∙ c.self.invariant.slots; within = c.self.invariant.at_mark })
