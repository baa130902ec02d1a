-- Which waiting items surely have to be sent, so that the pictures that they paint keep their pixels: this project's own rule.
-- It looks at what the newest items cover, and not at each pair of items.
use Rattle.std.specs.Prelude.{◌≡◌, ℕ, ◌≤◌, ◌&&◌, nat_le, List, [], ◌∷◌, drop, fold, length, if◌then◌else◌, Option, Some}
use Rattle.std.specs.List.{list_all}
use Rattle.gfx_script.specs.Script.{step_at}
use Rattle.gfx_script.specs.Scripted.{Script}
use Rattle.gfx_script.specs.Sparing.{Marks, marked}
use Rattle.gfx_script.specs.declared.step.Step.{Step}
use Rattle.gfx_script.specs.declared.step.Step.TheVariants.{Paint}
use Rattle.gfx_window.specs.Superseded.{is_left_out, plain_area, stands_aside}
use Rattle.gfx_window.specs.declared.window.Queued.{Queued}

-- the newest items, and of the older ones all but those that one of the newest covers while each item between stands aside
unfoldable pub surely_sent : Script → List Queued → List Queued → List Queued
surely_sent script [] newest = newest
surely_sent script (item ∷ older) newest =
    if list_all (stands_aside script) older && is_left_out script (plain_area script item) newest then surely_sent script older newest
    else item ∷ surely_sent script older newest

-- the picture that a step paints is marked, where it is a paint
abbrev pub step_marked : Marks → Option Step → Marks
step_marked marks (Some (Paint id picture at named glyph)) = marked marks picture
step_marked marks step = marks

-- the pictures that these items paint are marked
abbrev pub items_marked : Script → Marks → List Queued → Marks
items_marked script marks items = fold (λ before item. step_marked before (step_at script.steps item.step)) marks items

-- items stand aside from this place on, and from none before it
abbrev pub AsideFrom : Script → List Queued → ℕ → Type 0
AsideFrom script items from = (place : ℕ) → place ≤ length items → list_all (stands_aside script) (drop place items) ≡ nat_le from place
