use Rattle.std.proofs.Common.{◌∙◌, ◌++◌, ap, take, drop}
use Rattle.gfx_slot_plan.specs.Plan.{least_free, left_for}
use Rattle.gfx_slot_plan.proofs.shelf.Shelf.keep.Goals as goal

pub returns-clause-slot : goal.returns-clause-slot
returns-clause-slot c =
    let put = ap (λ l. l.entries) c.in_ok-put_first.ensures.places in
    let left = ap (λ l. drop 1 l) c.make_room.ensures.places
    ∙ (λ i. drop 1 (take 1 (put i) ++ left_for (c.in_ok-put_first.ensures.last i) c.args.most c.args.bytes (drop 1 (put i)))) in
    c.settle.ensures.slot ∙ (λ i. least_free ((c.make_room.ensures.last ∙ c.in_ok-put_first.ensures.last) i) (left i))
