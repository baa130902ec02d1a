-- The header and what stands behind it.
use Rattle.std.proofs.Common.{◌≡◌, ℕ, ◌+◌, ◌-◌, ◌≤◌, ◌<◌, ◌^◌, List, ◌++◌, length, take, Some, Ok, refl, length-append, arith, eqb, lit<}
use Rattle.std.proofs.lemmas.Bool.{eqb-true}
use Rattle.std.proofs.lemmas.List.{take_at}
use Rattle.std.specs.Int.{w16}
use Rattle.gfx_base.specs.Field.{number_at}
use Rattle.gfx_base.specs.Results.{and_then}
use Rattle.gfx_layout.specs.Header.{header}
use Rattle.gfx_layout.proofs.Headers.{head, size_of-head, kind_by-head, kind_by-ok, two_flags, find_passes}
use Rattle.gfx_pdu.specs.declared.id.Id.{Id}
use Rattle.gfx_pdu.specs.declared.id.Id.TheVariants as ids
use Rattle.gfx_pdu.specs.declared.pdu.Pdu.{Pdu}
use Rattle.gfx_pdu.specs.Id.{number_of, all_ids, id_of_number}
use Rattle.gfx_pdu.specs.Reading.{body_of, kind_of, front}

-- ---- an id and its number are told from each other

-- the id that is found has the number
pub number_of-found : (number : ℕ) (id : Id) → id_of_number number ≡ Some id → number_of id ≡ number
unfolding id_of_number
number_of-found number id e = eqb-true _ _ (find_passes (λ i. eqb (number_of i) number) all_ids id e)

-- an id's number finds it
pub id_of_number-again : (id : Id) → id_of_number (number_of id) ≡ Some id
unfolding id_of_number
id_of_number-again ids.WireToSurface1 = refl
id_of_number-again id = refl

pub number_of-fits : (id : Id) → number_of id < 2 ^ 16
number_of-fits ids.WireToSurface1 = lit< tt
number_of-fits id = lit< tt

-- ---- what is framed is read

front-head : (id : Id) (a b whole : ℕ) (body more : List ℕ) (pdu : Pdu) → whole ≡ 8 + length body → whole < 2 ^ 32 → body_of id body ≡ Ok pdu → front (head (number_of id) a b whole (body ++ more)) ≡ Ok (pdu, whole)
unfolding front and_then
front-head id a b whole body more pdu e fits reads =
    let within : whole ≤ 8 + length (body ++ more) = omega (arith, length-append body more) in
    let here : take (whole - 8) (body ++ more) ≡ body = take_at body more (whole - 8) (omega arith) in
    rw (size_of-head (number_of id) a b whole (body ++ more) (omega arith) within fits, kind_by-head id_of_number id (number_of id) a b whole (body ++ more) (number_of-fits id) (id_of_number-again id), here, reads) refl

pub front-header : (id : Id) (flags : List ℕ) (whole : ℕ) (body more : List ℕ) (pdu : Pdu) → length flags ≡ 2 → whole ≡ 8 + length body → whole < 2 ^ 32 → body_of id body ≡ Ok pdu → front ((header (number_of id) flags whole ++ body) ++ more) ≡ Ok (pdu, whole)
unfolding header
front-header id flags whole body more pdu two e fits reads =
    let f = two_flags flags two in rw f.2 (front-head id f.0 f.1 whole body more pdu e fits reads)

-- ---- what is read has a header

pub kind_of-ok : (bytes : List ℕ) (id : Id) → kind_of bytes ≡ Ok id → number_of id ≡ number_at w16 bytes 0
kind_of-ok bytes id e = number_of-found (number_at w16 bytes 0) id (kind_by-ok id_of_number bytes id e)
