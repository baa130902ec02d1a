-- How a plan is kept.
use Rattle.std.specs.Prelude.{◌≡◌, ◌-◌, ◌^◌, ◌≤◌}
use Rattle.gfx_slot_plan.specs.declared.plan.SlotPlan.TheInside.{Inside}
use Rattle.gfx_bitmap_cache.specs.Slots.{last_slot, budget}
use Rattle.gfx_slot_plan.specs.Plan.{Plan, AreKeys, plan}
use Rattle.gfx_slot_plan.specs.Tied.{IsTied}

-- the plan of the fields
abbrev pub plan_of : Inside → Plan
plan_of a = plan a.shelf.places.entries a.small

-- the fields agree, and the budget is kept
pub record IsSound (a : Inside) : Type 0 where
  pub tied : IsTied a.shelf.places.entries a.shelf.pool a.shelf.bytes
  pub keys : AreKeys a.shelf.places.entries
  pub last : a.shelf.pool.last ≡ last_slot a.small
  pub within : a.shelf.bytes ≤ budget a.small
  pub unbounded : a.shelf.places.cap ≡ 2 ^ 64 - 1
