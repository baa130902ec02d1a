-- One number of a quant, from what holds of all.
use Rattle.std.proofs.Common.{◌≡◌, ℕ, ◌<◌, ◌≤◌, false, List, length, IsTrue, arith, inl, inr}
use Rattle.std.specs.Prelude.{slice_index, nat_le, nat_lt}
use Rattle.std.specs.List.{list_all}
use Rattle.std.proofs.lemmas.Bool.{cases_lt}
use Rattle.std.proofs.lemmas.Bool.Decides.{nat_tests}
use Rattle.std.proofs.lemmas.List.Folds.{list_all_at}
use Rattle.gfx_quant.specs.Quant.{are_nibbles, is_base}

pub nibble_at : (values : List ℕ) (k : ℕ) → k < length values → IsTrue (are_nibbles values) → slice_index values k < 16
nibble_at values k h all = elim (cases_lt (slice_index values k) 16) [
  | inl low ↦ low
  | inr high ↦
      let fails : nat_lt (slice_index values k) 16 ≡ false = grind (arith, nat_tests) in
      let none : list_all (λ v. nat_lt v 16) values ≡ false = list_all_at (λ v. nat_lt v 16) values k 0 h fails in
      cc
]

pub base_at : (values : List ℕ) (k : ℕ) → k < length values → IsTrue (is_base values) → 6 ≤ slice_index values k
base_at values k h all = elim (cases_lt (slice_index values k) 6) [
  | inl low ↦
      let fails : nat_le 6 (slice_index values k) ≡ false = grind (arith, nat_tests) in
      let none : list_all (λ v. nat_le 6 v) values ≡ false = list_all_at (λ v. nat_le 6 v) values k 0 h fails in
      cc
  | inr high ↦ high
]
