use Rattle.std.proofs.Common.{◌∙◌, ap, sym, arith}
use Rattle.std.specs.FinMap.{remove, from_entries}
use Rattle.gfx_bitmap_cache.specs.Slots.{total, bytes_at, cached}
use Rattle.gfx_bitmap_cache.proofs.Maps.{get-lookup, removed_map}
use Rattle.gfx_bitmap_cache.proofs.Totals.{total-remove, bytes_at-most}
use Rattle.gfx_bitmap_cache.proofs.Sound.{kept-remove}
use Rattle.gfx_bitmap_cache.proofs.cache.Cache.remove.Goals as goal

pub overflow_sub-self : goal.overflow_sub-self
overflow_sub-self c =
    let most = bytes_at-most (from_entries c.self.inside.slots.entries) c.args.slot in
    let found = ap bytes_at (get-lookup c.self.inside.slots.entries c.args.slot ∙ sym c.remove.ensures.value ∙ c.in-Some.is) in
    let held = c.self.invariant.bytes in
    let is = c.bytes.ensures.bytes in
    omega arith

pub invariant_of-self : goal.invariant_of-self
invariant_of-self c =
    let new = removed_map c.self.inside.slots.entries c.remove.new.self.entries c.args.slot c.remove.ensures.updates.0 in
    let less = total-remove (from_entries c.self.inside.slots.entries) c.args.slot in
    let found = ap bytes_at (get-lookup c.self.inside.slots.entries c.args.slot ∙ sym c.remove.ensures.value ∙ c.in-Some.is) in
    let held = c.self.invariant.bytes in
    let is = c.bytes.ensures.bytes in
    let same = ap total new in
    record {
      bytes = omega arith;
      kept = kept-remove (from_entries c.self.inside.slots.entries) (from_entries c.remove.new.self.entries) c.args.slot c.self.inside.small new c.self.invariant.kept;
    }

pub returns-in-Some : goal.returns-in-Some
returns-in-Some c =
    let new = removed_map c.self.inside.slots.entries c.remove.new.self.entries c.args.slot c.remove.ensures.updates.0 in
    ap (λ m. cached m c.self.inside.small) new ∙ ap (λ a. cached (remove a.slots c.args.slot) a.small) c.self.view_is

pub returns-in_default : goal.returns-in_default
returns-in_default c =
    let new = removed_map c.self.inside.slots.entries c.remove.new.self.entries c.args.slot c.remove.ensures.updates.0 in
    ap (λ m. cached m c.self.inside.small) new ∙ ap (λ a. cached (remove a.slots c.args.slot) a.small) c.self.view_is
