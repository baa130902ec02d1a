use Rattle.std.proofs.Common.{◌≡◌, ◌≤◌, ◌∙◌, ap, arith}
use Rattle.std.specs.FinMap.{get}
use Rattle.gfx_bitmap_cache.specs.Slots.{total, bytes_at}
use Rattle.gfx_bitmap_cache.proofs.Totals.{total-remove, bytes_at-most}
use Rattle.gfx_bitmap_cache.proofs.cache.Cache.bytes_with.Goals as goal

pub overflow_sub-result : goal.overflow_sub-result
overflow_sub-result c =
    let held : c.self.inside.bytes ≡ total c.args.self.now.slots = c.self.invariant.bytes ∙ ap (λ a. total a.slots) c.self.view_is in
    let most : bytes_at (get c.args.self.now.slots c.args.slot) ≤ total c.args.self.now.slots = bytes_at-most c.args.self.now.slots c.args.slot in
    let is = c.bytes_at.ensures in
    omega arith

pub returns : goal.returns
returns c =
    let held : c.self.inside.bytes ≡ total c.args.self.now.slots = c.self.invariant.bytes ∙ ap (λ a. total a.slots) c.self.view_is in
    let most : bytes_at (get c.args.self.now.slots c.args.slot) ≤ total c.args.self.now.slots = bytes_at-most c.args.self.now.slots c.args.slot in
    let after = total-remove c.args.self.now.slots c.args.slot in
    let is = c.bytes_at.ensures in
    let adds = c.bytes_for.ensures.bytes in
    omega arith
