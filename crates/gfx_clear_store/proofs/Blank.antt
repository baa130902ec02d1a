-- From a place on nothing was ever written, over plain variables.
use Rattle.std.proofs.Common.{◌≡◌, ℕ, zero, suc, ◌+◌, ◌≤◌, max, List, replicate, set, get_or, None, refl, ap, ◌∙◌, arith}
use Rattle.std.proofs.lemmas.List.{get_or-set_other}
use Rattle.gfx_clear_store.specs.Rings.{Slot}
use Rattle.gfx_clear_store.specs.Undoing.{Logged, kept, undone}
use Rattle.gfx_clear_store.proofs.Adding.{undone_written}

-- a new ring has nothing anywhere
pub new_blank : (count place : ℕ) → get_or {A = Slot} (replicate count None) place None ≡ None
new_blank zero place = refl
new_blank (suc count) zero = refl
new_blank (suc count) (suc place) = new_blank count place

-- a write reaches up to its own place
pub still_blank : (slots : List Slot) (cursor at written written' : ℕ) (dest : Slot) → at ≡ cursor → written' ≡ max written (cursor + 1)
    → ((place : ℕ) → written ≤ place → get_or slots place None ≡ None)
    → (place : ℕ) → written' ≤ place → get_or (set slots at dest) place None ≡ None
still_blank slots cursor at written written' dest e more blank place past =
    get_or-set_other slots at place dest None (λ s. omega arith) ∙ blank place (omega arith)

-- and leaves the mark as it was
pub mark_blank : (slots : List Slot) (cursor at written written' : ℕ) (dest old d : Slot) (log log' : Logged) → at ≡ cursor → written' ≡ max written (cursor + 1)
    → old ≡ get_or slots at d → log' ≡ kept cursor old log
    → ((place : ℕ) → written ≤ place → get_or (undone log.entries slots) place None ≡ None)
    → (place : ℕ) → written' ≤ place → get_or (undone log'.entries (set slots at dest)) place None ≡ None
mark_blank slots cursor at written written' dest old d log log' e more was k blank place past =
    ap (λ z. get_or z place None) (undone_written slots cursor at dest old d log log' e was k) ∙ blank place (omega arith)
