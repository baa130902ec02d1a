use Rattle.std.proofs.Common.{◌≡◌, ◌∙◌, ◌-◌, ◌/◌, ◌%◌, ◌^◌, ◌++◌, cond, neg_ℤ, pos, ap, sym, refl, arith, FitsSigned, w32}
use Rattle.std.specs.Prelude.{int_div}
use Rattle.std.specs.Int.RustNames.{int_lt, unsigned_abs}
use Rattle.std.proofs.lemmas.Int.{to_z-of_z}
use Rattle.gfx_bits.specs.Bits.{digits}
use Rattle.gfx_tile_make.proofs.Entering.{abs-signed, in-band, low-entry, on-ok, signed-quotient, small-value, writes-away, writes-counted, writes-value}
use Rattle.gfx_tile_make.proofs.entry.write_entry.Goals as goal

pub returns-then-low : goal.returns-then-low
returns-then-low c =
    on-ok _ _ c.push_number.result
    (λ on band e.
    rw c.if-low.true
    (writes-counted (c.args.before - c.args.behind) c.low_gained.result _ _ c.args.writers.now _ (omega (arith, c.requires.falls))
    ((rw (to_z-of_z w32 c.args.value c.ranges.value) at c.low_gained.ensures.value) ∙ low-entry band (sym c.if-low.true ∙ e) c.args.value c.args.before c.args.behind)
    on refl))
    c.push_number.ensures

pub push-requires-clause-small : goal.push-requires-clause-small
push-requires-clause-small c =
    let v : FitsSigned w32 c.args.value = c.ranges.value in
    let signed : FitsSigned w32 c.signed.result = record { sfits = c.signed.type_inv } in
    let down = int_lt c.args.value (pos 0) in
    let is : c.signed.result ≡ cond down (neg_ℤ (pos c.without-sent.result)) (pos c.without-sent.result) = simp to_z-of_z at c.signed.ensures in
    rw (to_z-of_z w32 c.signed.result signed, is, abs-signed down c.without-sent.result, c.without-sent.ensures)
    (small-value c.unsigned_abs-magnitude.result c.args.before c.args.behind c.requires.falls (sym c.without.ensures ∙ c.if-without-eq0.true))

pub returns-then-without-eq0 : goal.returns-then-without-eq0
returns-then-without-eq0 c =
    let v : FitsSigned w32 c.args.value = c.ranges.value in
    let signed : FitsSigned w32 c.signed.result = record { sfits = c.signed.type_inv } in
    let magnitude : c.unsigned_abs-magnitude.result ≡ unsigned_abs c.args.value = simp to_z-of_z at c.unsigned_abs-magnitude.ensures.value in
    let down = int_lt c.args.value (pos 0) in
    let is : c.signed.result ≡ int_div c.args.value (pos (2 ^ c.args.behind)) =
    (simp to_z-of_z at c.signed.ensures) ∙ ap (λ m. cond down (neg_ℤ (pos m)) (pos m)) (c.without-sent.ensures ∙ ap (λ m. m / 2 ^ c.args.behind) magnitude) ∙ signed-quotient c.args.value (2 ^ c.args.behind) in
    on-ok _ _ c.push.result
    (λ write band e.
    rw c.if-low.false
    (in-band band (sym c.if-low.false ∙ e) c.args.value c.args.before c.args.behind c.args.writers.now _
    (writes-value c.args.value c.signed.result c.args.before c.args.behind c.args.writers.now _ c.requires.falls (ap (λ m. m / 2 ^ c.args.before) (sym magnitude) ∙ sym c.without.ensures ∙ c.if-without-eq0.true) is
    (rw (to_z-of_z w32 c.signed.result signed) at write) refl)))
    c.push.ensures.ok

pub returns : goal.returns
returns c =
    let v : FitsSigned w32 c.args.value = c.ranges.value in
    let magnitude : c.unsigned_abs-magnitude.result ≡ unsigned_abs c.args.value = simp to_z-of_z at c.unsigned_abs-magnitude.ensures.value in
    let bits : c.low_bits.result ≡ unsigned_abs c.args.value / 2 ^ c.args.behind % 2 ^ (c.args.before - c.args.behind) =
    c.low_bits.ensures.value ∙ ap (λ m. m % 2 ^ (c.args.before - c.args.behind)) (c.without-sent.ensures ∙ ap (λ m. m / 2 ^ c.args.behind) magnitude) in
    on-ok _ _ c.push_number-2.result
    (λ on band e.
    rw c.if-low.false
    (in-band band (sym c.if-low.false ∙ e) c.args.value c.args.before c.args.behind c.args.writers.now _
    (writes-away c.args.value c.args.before c.args.behind c.args.writers.now _ c.requires.falls
    (λ none. c.if-without-eq0.false (c.without.ensures ∙ ap (λ m. m / 2 ^ c.args.before) magnitude ∙ none))
    (on ∙ ap (λ r. c.args.writers.now.bits ++ digits (c.args.before - c.args.behind) r) bits) refl)))
    c.push_number-2.ensures
