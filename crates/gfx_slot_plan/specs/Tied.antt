-- How the places, the free slots and the number of bytes agree.
use Rattle.std.specs.Prelude.{◌≡◌, ℕ, ◌≤◌, not, ◌||◌, nat_eq}
use Rattle.gfx_slot_plan.specs.Plan.{Allocations, AreSlots, total, is_used}
use Rattle.gfx_slot_plan.specs.Pool.{Pool, has_free}

-- a slot is free where no key has it, and the bytes are counted
pub record IsTied (places : Allocations) (pool : Pool) (sum : ℕ) : Type 0 where
  pub slots : AreSlots pool.last places
  pub free : (slot : ℕ) → 1 ≤ slot → slot ≤ pool.last → has_free pool slot ≡ not (is_used places slot)
  pub counted : sum ≡ total places

-- a slot was given back
pub record Gives (old new : Pool) (slot : ℕ) : Type 0 where
  pub last : new.last ≡ old.last
  pub free : (other : ℕ) → has_free new other ≡ (nat_eq other slot || has_free old other)
