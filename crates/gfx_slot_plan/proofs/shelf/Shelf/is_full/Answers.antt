use Rattle.std.proofs.Common.{◌∙◌, sym, drop}
use Rattle.gfx_slot_plan.proofs.Order.{full_slots, full_bytes}
use Rattle.gfx_slot_plan.proofs.shelf.Shelf.is_full.Goals as goal

pub returns-then-is_empty : goal.returns-then-is_empty
returns-then-is_empty c =
    c.if-is_empty.true ∙ sym (full_slots (drop 1 c.args.self.now.places.entries) c.args.self.now.pool c.args.self.now.bytes c.args.most c.args.bytes c.requires.tied (sym c.is_empty.ensures ∙ c.if-is_empty.true))

pub returns-else-is_empty : goal.returns-else-is_empty
returns-else-is_empty c =
    sym (full_bytes (drop 1 c.args.self.now.places.entries) c.args.self.now.pool c.args.self.now.bytes c.args.most c.args.bytes c.requires.tied c.requires.alone (sym c.is_empty.ensures ∙ c.if-is_empty.false))
