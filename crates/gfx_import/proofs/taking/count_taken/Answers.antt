use Rattle.std.proofs.Common.{◌≡◌, ◌∙◌, ap, sym, Some, not}
use Rattle.std.specs.Prelude.{slice_get}
use Rattle.gfx_import.specs.Entries.{image_at}
use Rattle.gfx_import.specs.Imported.{with_length}
use Rattle.gfx_import.specs.Taking.{found_in}
use Rattle.gfx_import.proofs.TakingLemmas.{rest-at, rest-past, counts-none, counts-more, counts-stop, counts-end}
use Rattle.gfx_import.proofs.taking.count_taken.Goals as goal

pub offers-init : goal.offers-init
offers-init c = counts-none c.args.server.now c.args.offers.now c.args.small c.new-room.result.slots c.new-room.result.bytes c.new-room.ensures.slots c.new-room.ensures.bytes

pub offers-preserved : goal.offers-preserved
offers-preserved c =
    let here : slice_get c.args.offers.now c.offers.count ≡ Some c.in-Some.one = ap (λ n. slice_get c.args.offers.now n) (sym c.from.ensures) ∙ sym c.in-Some.ensures in
    counts-more c.args.server.now c.args.offers.now _ _ c.args.small c.offers.count _ _ c.in-Some.one (rest-at _ c.offers.count c.in-Some.one here) c.offers.invariant
    c.take.new.self.slots c.take.new.self.bytes c.take.result
    record {
      found = c.take.ensures.found ∙ ap (λ n. found_in c.offers.room.slots c.offers.room.bytes (with_length n (image_at c.args.server.now c.in-Some.one.key))) c.from-in-Some.ensures;
      slots_left = c.take.ensures.slots;
      room_left = c.take.ensures.bytes;
    }
    (c.is_none.ensures ∙ ap not c.if-is_none.false)

pub returns-then-is_none : goal.returns-then-is_none
returns-then-is_none c =
    let here : slice_get c.args.offers.now c.offers.count ≡ Some c.in-Some.one = ap (λ n. slice_get c.args.offers.now n) (sym c.from.ensures) ∙ sym c.in-Some.ensures in
    counts-stop c.args.server.now c.args.offers.now _ _ c.args.small c.offers.count _ _ c.in-Some.one (rest-at _ c.offers.count c.in-Some.one here) c.offers.invariant
    c.take.new.self.slots c.take.new.self.bytes c.take.result
    record {
      found = c.take.ensures.found ∙ ap (λ n. found_in c.offers.room.slots c.offers.room.bytes (with_length n (image_at c.args.server.now c.in-Some.one.key))) c.from-in-Some.ensures;
      slots_left = c.take.ensures.slots;
      room_left = c.take.ensures.bytes;
    }
    (c.is_none.ensures ∙ ap not c.if-is_none.true)

pub returns : goal.returns
returns c =
    counts-end c.args.server.now c.args.offers.now _ c.args.small c.offers.count _ _
    (rest-past _ c.offers.count (ap (λ n. slice_get c.args.offers.now n) (sym c.from.ensures) ∙ sym c.get.ensures ∙ c.in_default.is)) c.offers.invariant
