-- How the slots that no key has are kept: this project's own rule.
use Rattle.std.specs.Prelude.{ℕ, Bool, true, false, ◌||◌, nat_eq, nat_le, List, [], ◌∷◌, filter}
use Rattle.std.specs.List.{list_any, range_with_len}

-- the slots from next on have never been taken; below it those are free that were given back
pub record Pool : Type 0 where
  pub next : ℕ
  pub last : ℕ
  pub returned : List ℕ

abbrev pub pool : ℕ → ℕ → List ℕ → Pool
pool next last returned = record { next = next; last = last; returned = returned }

-- a slot is free, if there is such a slot
abbrev pub has_free : Pool → ℕ → Bool
has_free p slot = nat_le p.next slot || list_any (nat_eq slot) p.returned

-- the free slots, ascending
abbrev pub pool_slots : Pool → List ℕ
pool_slots p = filter (has_free p) (range_with_len 1 p.last)

-- there are no such slots
abbrev pub is_none : List ℕ → Bool
is_none [] = true
is_none (slot ∷ slots) = false
