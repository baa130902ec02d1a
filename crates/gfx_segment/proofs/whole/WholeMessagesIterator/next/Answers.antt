use Rattle.std.proofs.Common.{ℕ, List, refl, subst}
use Rattle.gfx_segment.specs.Edge.{IsEdge}
use Rattle.gfx_segment.proofs.WholeLemmas.{not_whole}
use Rattle.gfx_segment.proofs.whole.WholeMessagesIterator.next.Goals as goal

pub returns-in-Short : goal.returns-in-Short
returns-in-Short c = record {
  steps = (not_whole c.args.self.now c.edge_of.result c.in-Short.is (subst (λ (z : List ℕ). IsEdge z c.edge_of.result) c.self.view_is c.edge_of.ensures), refl);
  goes = record { on = λ finite. tt; keeps = tt; rests = λ finite. finite };
}
