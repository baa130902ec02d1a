-- Which pending steps need not be sent, since a later one covers them: this project's own rule.
use Rattle.std.specs.Prelude.{ℕ, ◌+◌, Bool, false, ◌&&◌, ◌||◌, ◌==◌, nat_le, List, [], ◌∷◌, drop, Option, Some, None}
use Rattle.std.specs.List.{list_all, list_any, slice_get}
use Rattle.std.specs.Option.{option_and_then, is_some}
use Rattle.gfx_base.specs.declared.geometry.Rect.{Rect}
use Rattle.gfx_script.specs.Script.{is_frame, step_at}
use Rattle.gfx_script.specs.Scripted.{Script}
use Rattle.gfx_script.specs.Writes.{Area, writes_plainly}
use Rattle.gfx_script.specs.declared.step.Step.{Step}
use Rattle.gfx_window.specs.declared.window.Queued.{Queued}

-- where a pending item writes, if it is a plain write
abbrev pub plain_area : Script → Queued → Option Area
plain_area script item = option_and_then (writes_plainly script item.kind) (step_at script.steps item.step)

-- a step that is there and is a frame
abbrev pub shows : Option Step → Bool
shows None = false
shows (Some step) = is_frame step

-- an item that may stand between one that is covered and the one that covers it
abbrev pub stands_aside : Script → Queued → Bool
stands_aside script item = is_some (plain_area script item) || shows (step_at script.steps item.step)

-- the rectangle contains the other by all four sides; empty ones are tested in the same way
abbrev pub contains : Rect → Rect → Bool
contains outer inner =
    nat_le outer.left inner.left && nat_le outer.top inner.top
    && (nat_le inner.right outer.right && nat_le inner.bottom outer.bottom)

-- a later write on the same surface has one rectangle that contains each rectangle of this one
abbrev pub covers : Area → Option Area → Bool
covers area None = false
covers area (Some later) =
    later.surface == area.surface && list_any (λ outer. list_all (contains outer) area.rects) later.rects

-- one of the items behind a plain write covers it, and those between the two stand aside
unfoldable pub is_covered : Script → Area → List Queued → Bool
is_covered script area [] = false
is_covered script area (item ∷ items) =
    covers area (plain_area script item) || (stands_aside script item && is_covered script area items)

-- the same of a write, if it is a plain one
abbrev pub is_left_out : Script → Option Area → List Queued → Bool
is_left_out script None items = false
is_left_out script (Some area) items = is_covered script area items

-- the pending item at a place, counted from 0, is left out
abbrev pub superseded : Script → List Queued → ℕ → Bool
superseded script pending place =
    is_left_out script (option_and_then (plain_area script) (slice_get pending place)) (drop (place + 1) pending)
