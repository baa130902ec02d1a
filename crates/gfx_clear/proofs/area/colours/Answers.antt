use Rattle.std.proofs.Common.{[], ◌∷◌, ◌++◌, sym, ◌∙◌, arith}
use Rattle.gfx_clear_bands.proofs.Making.{colours-more, colours-none}
use Rattle.gfx_clear.proofs.area.colours.Goals as goal

pub colours-init : goal.colours-init
colours-init c = record { items = c.in_ok-found.ensures.items ∙ sym (colours-none c.args.bytes.now); len = c.in_ok-found.ensures.len; room = c.in_ok-found.ensures.exact }

pub colours-preserved : goal.colours-preserved
colours-preserved c = record {
  items = c.push_reserved.ensures.items ∙ (λ i. c.colours.invariant.items i ++ c.colour_at.ensures i ∷ []) ∙ sym (colours-more c.colours.n c.args.bytes.now);
  len = omega (arith, c.push_reserved.ensures.len, c.colours.invariant.len);
  room = c.push_reserved.ensures.capacity ∙ c.colours.invariant.room;
}
