use Rattle.std.proofs.Common.{◌≡◌, ◌+◌, ◌∙◌, ◌++◌, ◌∷◌, ap, sym, refl, subst, drop, is_some, arith}
use Rattle.std.specs.Prelude.{IsOk, slice_get}
use Rattle.std.proofs.lemmas.List.{take-append-drop}
use Rattle.std.proofs.lemmas.Option.{get_or_from_slice_get}
use Rattle.lru.specs.LruCache.{lru_cache}
use Rattle.gfx_slot_plan.specs.Plan.{place, free_slots}
use Rattle.gfx_slot_plan.specs.Pool.{has_free}
use Rattle.gfx_slot_plan.specs.Tied.{IsTied}
use Rattle.gfx_slot_plan.proofs.Pools.{OnOk-ok}
use Rattle.gfx_slot_plan.proofs.Ranges.{first_passes}
use Rattle.gfx_slot_plan.proofs.Ties.{tied_more, tied_free_slots}
use Rattle.gfx_slot_plan.proofs.Order.{put_again, found_first}
use Rattle.gfx_slot_plan.proofs.shelf.Shelf.settle.Goals as goal

pub returns-clause-slot : goal.returns-clause-slot
returns-clause-slot c =
    let slots = tied_free_slots (drop 1 c.args.self.now.places.entries) c.args.self.now.pool c.args.self.now.bytes c.requires.tied in
    sym (get_or_from_slice_get (free_slots c.args.self.now.pool.last (drop 1 c.args.self.now.places.entries)) 0 c.take-slot.result 0
    (ap (λ l. slice_get l 0) (sym slots) ∙ c.take-slot.ensures.slot))

pub returns-clause-tied : goal.returns-clause-tied
returns-clause-tied c =
    let all = c.args.self.now.places.entries in
    let first : all ≡ (c.args.key, place 0 c.args.bytes) ∷ drop 1 all = sym (take-append-drop 1 all) ∙ ap (λ l. l ++ drop 1 all) c.requires.some in
    let ok : IsOk c.put.result = c.put.ensures.succeeds (ap is_some (found_first c.args.key (place 0 c.args.bytes) (drop 1 all) all first)) in
    let places = OnOk-ok c.put.result _ ok c.put.ensures.entries ∙
    ap (λ l. lru_cache l c.args.self.now.places.cap) (put_again c.args.self.now.places c.args.key (place c.take-slot.result c.args.bytes) (place 0 c.args.bytes) (drop 1 all) first) in
    let bounds = first_passes (has_free c.args.self.now.pool) 1 c.args.self.now.pool.last c.take-slot.result c.take-slot.ensures.slot in
    let below = bounds.1.0 in
    subst (λ l. IsTied l.entries c.take-slot.new.self (c.args.self.now.bytes + c.args.bytes)) (sym places)
    (tied_more (drop 1 all) c.args.self.now.pool c.take-slot.new.self c.args.self.now.bytes (c.args.self.now.bytes + c.args.bytes) c.args.key c.take-slot.result c.args.bytes
    c.requires.tied bounds.0 (omega arith) bounds.1.1 c.take-slot.ensures.last c.take-slot.ensures.free refl)
