-- The first place that passes a test.
use Rattle.std.proofs.Common.{◌≡◌, ℕ, ◌<◌, ◌≤◌, Bool, true, false, cond, nat_lt, List, length, get_or, Some, None, sym, ap, ◌∙◌, arith}
use Rattle.std.specs.List.{position, position_or_len}
use Rattle.std.proofs.lemmas.Bool.Decides.{nat_tests}
use Rattle.std.proofs.lemmas.List.Sums.{position_or_len_is}
use Rattle.gfx_glyph.specs.Glyphs.{Slot}

-- so far none was the place, and this one is
pub found_here : (slots : List Slot) (test : Slot → Bool) (place : ℕ) → place < length slots → test (get_or slots place None) ≡ true
    → ((k : ℕ) → k < place → test (get_or slots k None) ≡ false) → Some place ≡ position test slots
found_here slots test place within is before =
    let e : position_or_len test slots ≡ place = position_or_len_is test slots place None (omega arith) before (λ below. is) in
    let t : nat_lt (position_or_len test slots) (length slots) ≡ true = grind (arith, nat_tests) in
    sym (ap (λ b. cond b (Some (position_or_len test slots)) None) t ∙ ap Some e)

-- none was
pub found_none : (slots : List Slot) (test : Slot → Bool) (place : ℕ) → length slots ≤ place → ((k : ℕ) → k < place → test (get_or slots k None) ≡ false) → None ≡ position test slots
found_none slots test place past before =
    let e : position_or_len test slots ≡ length slots = position_or_len_is test slots (length slots) None (omega arith) (λ k below. before k (omega arith)) (λ below. absurd (omega arith)) in
    let t : nat_lt (position_or_len test slots) (length slots) ≡ false = grind (arith, nat_tests) in
    sym (ap (λ b. cond b (Some (position_or_len test slots)) None) t)
