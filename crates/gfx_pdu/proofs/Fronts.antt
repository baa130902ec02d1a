-- What is put of a message before its data.
use Rattle.std.proofs.Common.{◌≡◌, ℕ, ◌≤◌, List, ◌++◌, length, take, refl, sym, ap, ◌∙◌, arith, length-append}
use Rattle.std.proofs.lemmas.List.{take-append-le, take_at}
use Rattle.gfx_pdu.specs.declared.pdu.Pdu.{Pdu}
use Rattle.gfx_pdu.specs.declared.pdu.Pdu.TheVariants.{WireToSurface1, WireToSurface2, CapsConfirm}
use Rattle.gfx_pdu.specs.Spelling.{size, spelling}
use Rattle.gfx_pdu.specs.Writing.{data_of}
use Rattle.gfx_pdu.proofs.Laws.{length-spelling}

data-within : (pdu : Pdu) → length (data_of pdu) ≤ size pdu
unfolding size
data-within (WireToSurface1 surface codec format area payload) = omega arith
data-within (WireToSurface2 surface codec context format payload) = omega arith
data-within (CapsConfirm version payload) = omega arith
data-within pdu = omega arith

-- the old bytes still stand before it
pub front-longer : (pdu : Pdu) (old new lent : List ℕ) → lent ≡ data_of pdu → new ++ lent ≡ old ++ spelling pdu → length old ≤ length new
front-longer pdu old new lent is whole =
    omega (arith, ap length whole, length-append new lent, length-append old (spelling pdu), length-spelling pdu, data-within pdu, ap length is)

pub front-keeps : (pdu : Pdu) (old new lent : List ℕ) → lent ≡ data_of pdu → new ++ lent ≡ old ++ spelling pdu → take (length old) new ≡ old
front-keeps pdu old new lent is whole =
    sym (take-append-le (length old) new lent (front-longer pdu old new lent is whole))
    ∙ ap (take (length old)) whole ∙ take_at old (spelling pdu) (length old) refl
