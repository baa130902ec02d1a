use Rattle.std.proofs.Common.{◌+◌, length, [], ◌∷◌, ◌++◌, sym, ap, ◌∙◌}
use Rattle.gfx_clear_bands.proofs.Making.{colours-more, colours-none}
use Rattle.gfx_clear_bands.proofs.bar.colours.Goals as goal

pub colours-init : goal.colours-init
colours-init c = record { items = c.new-found.ensures ∙ sym (colours-none c.args.bytes.now); len = ap length c.new-found.ensures }

pub colours-preserved : goal.colours-preserved
colours-preserved c = record {
  items = c.push.ensures.items ∙ (λ i. c.colours.invariant.items i ++ c.colour_at.ensures i ∷ []) ∙ sym (colours-more c.colours.n c.args.bytes.now);
  len = c.push.ensures.len ∙ ap (λ n. n + 1) c.colours.invariant.len;
}
