use Rattle.std.proofs.Common.{◌≡◌, ◌≤◌, ◌∙◌, ap, sym, refl, subst, arith, true, false, nat_le, Ok, ℕ}
use Rattle.gfx_base.proofs.Wanting.{wants_due}
use Rattle.std.specs.FinMap.{insert, from_entries}
use Rattle.std.proofs.lemmas.Bool.Decides.{nat_tests}
use Rattle.gfx_bitmap_cache.specs.Slots.{total, bytes_with, cached, entry, image_of, takes_slot, has_room, budget}
use Rattle.gfx_bitmap_cache.proofs.Maps.{inserted_map}
use Rattle.gfx_bitmap_cache.proofs.Totals.{total-with}
use Rattle.gfx_bitmap_cache.proofs.Sound.{kept-insert, stored-ok, stored-full}
use Rattle.gfx_bitmap_cache.proofs.cache.Cache.store.Goals as goal

pub returns-then-bytes-budget-clause-stored : goal.returns-then-bytes-budget-clause-stored
returns-then-bytes-budget-clause-stored c =
    let taken : takes_slot c.args.self.now.small c.args.slot ≡ true = sym c.takes_slot.ensures ∙ c.if-not-takes_slot.false in
    let above : nat_le c.bytes_with-bytes.result c.budget.result ≡ false = grind (arith, nat_tests, c.if-bytes-budget.true) in
    let full : has_room c.args.self.now c.args.slot c.args.bitmap.width c.args.bitmap.height ≡ false =
    (λ i. nat_le (sym c.bytes_with-bytes.ensures i) ((ap (λ a. budget a.small) (sym c.self.view_is) ∙ sym c.budget.ensures) i)) ∙ above in
    (stored-full c.args.self.now c.args.slot (entry c.args.key (image_of c.args.bitmap)) taken full, refl)

pub invariant_of-self-2 : goal.invariant_of-self-2
invariant_of-self-2 c =
    let old = from_entries c.self.inside.slots.entries in
    let new = inserted_map c.self.inside.slots.entries c.insert.new.self.entries c.args.slot c.new-held.result c.in_ok-insert.ensures.updates.0 in
    let taken : takes_slot c.self.inside.small c.args.slot ≡ true =
    ap (λ a. takes_slot a.small c.args.slot) c.self.view_is ∙ sym c.takes_slot.ensures ∙ c.if-not-takes_slot.false in
    let bytes = c.bytes_with-bytes.ensures ∙ ap (λ a. bytes_with a.slots c.args.slot c.args.bitmap.width c.args.bitmap.height) (sym c.self.view_is)
    ∙ sym (total-with old c.args.slot (entry c.args.key (image_of c.args.bitmap))) ∙ ap (λ h. total (insert old c.args.slot h)) (sym c.new-held.ensures) in
    let below : c.bytes_with-bytes.result ≤ c.budget.result = grind (arith, nat_tests, c.if-bytes-budget.false) in
    let within : total (insert old c.args.slot c.new-held.result) ≤ budget c.self.inside.small =
    subst (λ (z : ℕ × ℕ). z.0 ≤ z.1) (λ i. (bytes i, c.budget.ensures i)) below in
    record {
      bytes = bytes ∙ ap total (sym new);
      kept = kept-insert old (from_entries c.insert.new.self.entries) c.args.slot c.new-held.result c.self.inside.small
          new taken within c.self.invariant.kept;
    }

pub returns-in_err-insert-clause-memory : goal.returns-in_err-insert-clause-memory
returns-in_err-insert-clause-memory c =
    let held = entry c.args.key (image_of c.args.bitmap) in
    let taken : takes_slot c.args.self.now.small c.args.slot ≡ true = sym c.takes_slot.ensures ∙ c.if-not-takes_slot.false in
    let bytes = c.bytes_with-bytes.ensures ∙ sym (total-with c.args.self.now.slots c.args.slot held) in
    let most = c.budget.ensures ∙ ap (λ a. budget a.small) c.self.view_is in
    let below : c.bytes_with-bytes.result ≤ c.budget.result = grind (arith, nat_tests, c.if-bytes-budget.false) in
    let within : total (insert c.args.self.now.slots c.args.slot held) ≤ budget c.args.self.now.small =
    subst (λ (z : ℕ × ℕ). z.0 ≤ z.1) (λ i. (bytes i, most i)) below in
    wants_due c.from_residual.result _ _ (stored-ok c.args.self.now c.args.slot held taken within)

pub returns-clause-stored : goal.returns-clause-stored
returns-clause-stored c =
    let held = entry c.args.key (image_of c.args.bitmap) in
    let new = inserted_map c.self.inside.slots.entries c.insert.new.self.entries c.args.slot c.new-held.result c.in_ok-insert.ensures.updates.0 in
    let taken : takes_slot c.args.self.now.small c.args.slot ≡ true = sym c.takes_slot.ensures ∙ c.if-not-takes_slot.false in
    let bytes = c.bytes_with-bytes.ensures ∙ sym (total-with c.args.self.now.slots c.args.slot held) in
    let most = c.budget.ensures ∙ ap (λ a. budget a.small) c.self.view_is in
    let below : c.bytes_with-bytes.result ≤ c.budget.result = grind (arith, nat_tests, c.if-bytes-budget.false) in
    let within : total (insert c.args.self.now.slots c.args.slot held) ≤ budget c.args.self.now.small =
    subst (λ (z : ℕ × ℕ). z.0 ≤ z.1) (λ i. (bytes i, most i)) below in
    stored-ok c.args.self.now c.args.slot held taken within
    ∙ ap Ok (sym (ap (λ m. cached m c.self.inside.small) new
    ∙ (λ i. cached (insert (c.self.view_is i).slots c.args.slot (c.new-held.ensures i)) (c.self.view_is i).small)))
