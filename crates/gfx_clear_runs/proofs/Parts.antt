-- The elements of bytes, one after another.
use Rattle.std.proofs.Common.{◌≡◌, ℕ, ◌<◌, List, [], ◌∷◌, length, drop, zero, suc, Result, Ok, Err, refl, ap, ◌∙◌, arith, ◌-◌}
use Rattle.gfx_base.specs.declared.refusal.Refusal.{Refusal}
use Rattle.gfx_clear_runs.specs.Elements.{Element}
use Rattle.gfx_clear_runs.specs.Reading.{Part, ended, refused, behind, size_in, begun, part_after, part_of}

-- skipped bytes may be dropped
pub part_after-skipped : (at : List ℕ → Result Element Refusal) (n : ℕ) (bytes : List ℕ) → part_after at n bytes ≡ part_of at (drop n bytes)
unfolding part_after
part_after-skipped at zero bytes = refl
part_after-skipped at (suc n) [] = refl
part_after-skipped at (suc n) (byte ∷ bytes) = part_after-skipped at n bytes

-- no bytes have no elements
pub part_none : (at : List ℕ → Result Element Refusal) (bytes : List ℕ) → length bytes ≡ 0 → part_of at bytes ≡ ended
unfolding part_after
part_none at [] e = refl
part_none at (byte ∷ bytes) e = absurd (omega arith)

begun_same : (found : Result Element Refusal) (part : Part) (element : Element) → found ≡ Ok element → begun found part ≡ behind element part
unfolding begun
begun_same found part element e = rw e refl

size_same : (found : Result Element Refusal) (element : Element) → found ≡ Ok element → size_in found ≡ element.size
unfolding size_in
size_same found element e = rw e refl

dropped : (n byte : ℕ) (bytes : List ℕ) → 0 < n → drop (n - 1) bytes ≡ drop n (byte ∷ bytes)
dropped zero byte bytes more = absurd (omega arith)
dropped (suc n) byte bytes more = let e : suc n - 1 ≡ n = omega arith in rw e refl

-- an element, and the part behind it
pub part_step : (at : List ℕ → Result Element Refusal) (bytes : List ℕ) (element : Element) → at bytes ≡ Ok element → 0 < length bytes → 0 < element.size
    → part_of at bytes ≡ behind element (part_of at (drop element.size bytes))
unfolding part_after
part_step at [] element e some more = absurd (omega arith)
part_step at (byte ∷ bytes) element e some more =
    begun_same (at (byte ∷ bytes)) _ element e
    ∙ ap (behind element)
    (ap (λ n. part_after at (n - 1) bytes) (size_same (at (byte ∷ bytes)) element e)
    ∙ (part_after-skipped at (element.size - 1) bytes ∙ ap (part_of at) (dropped element.size byte bytes more)))

-- a refusal ends a part
pub part_refused : (at : List ℕ → Result Element Refusal) (bytes : List ℕ) (reason : Refusal) → at bytes ≡ Err reason → 0 < length bytes → part_of at bytes ≡ refused reason
unfolding part_after begun
part_refused at [] reason e some = absurd (omega arith)
part_refused at (byte ∷ bytes) reason e some = rw e refl
