-- What `==` answers at keys.
use Rattle.std.proofs.Common.{◌≡◌, ◌∙◌, ◌&&◌, refl, nat_eq, Bool, true, false}
use Rattle.std.specs.Cmp.Lexicographic.{pointwise, texts_ties}
use Rattle.std.specs.Ordering.{eq_by_cmp}
use Rattle.gfx_prog_decode.specs.contracts.key.KeyPartialEq.TheImpl.{eq-value}
use Rattle.gfx_prog_decode.specs.declared.key.Key.{Key}
use Rattle.gfx_prog_decode.specs.Records.{key_cmp, numbers}

with_true : (b : Bool) → b ≡ (b && true)
with_true true = refl
with_true false = refl

-- it ties keys of the same numbers alone
pub key_eq-numbers : (x y : Key) → eq-value.it x y ≡ pointwise nat_eq (numbers x) (numbers y)
key_eq-numbers x y = λ i. nat_eq x.surface y.surface && (nat_eq x.context y.context && (nat_eq x.x y.x && with_true (nat_eq x.y y.y) i))

-- and so does the order
pub key_ties : (x y : Key) → eq-value.it x y ≡ eq_by_cmp key_cmp x y
key_ties x y = key_eq-numbers x y ∙ texts_ties (numbers x) (numbers y)
