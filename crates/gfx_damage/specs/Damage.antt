-- Which part of the screen was written since a frame ended: this project's own rule.
use Rattle.std.specs.Prelude.{◌≡◌, ℕ, Bool, true, false, ◌||◌, List, [], Option, Some, None, if◌then◌else◌}
use Rattle.std.specs.FinMap as finmap
use Rattle.std.specs.FinMap.{FinMap}
use Rattle.std.specs.Option.{option_map}
use Rattle.std.specs.Ordering.{nat_cmp}
use Rattle.gfx_base.specs.declared.geometry.Rect.{Rect}
use Rattle.gfx_pdu.specs.declared.pdu.Pdu.{Pdu}
use Rattle.gfx_pdu.specs.declared.pdu.Pdu.TheVariants.{EndFrame}
use Rattle.gfx_state.specs.State.{State}
use Rattle.gfx_state.specs.Written.{changes_all, own_rects, written}
use Rattle.gfx_damage.specs.Marks.{with_rects}

-- rectangles by the ids of their surfaces
abbrev pub Marks : Type 0
Marks = FinMap nat_cmp (List Rect)

pub record Damage : Type 0 where
  -- a frame has ended: the next message begins anew
  pub ended : Bool
  -- anything may show: a surface was made, deleted or mapped, or the output got other sides
  pub whole : Bool
  -- what of each surface was written
  pub marks : Marks

-- nothing was written
abbrev pub undamaged : Damage
undamaged = record { ended = false; whole = false; marks = finmap.empty }

-- those that are there, or none
abbrev pub rects_in : Option (List Rect) → List Rect
rects_in None = []
rects_in (Some rects) = rects

-- a surface's rectangles
abbrev pub rects_on : Marks → ℕ → List Rect
rects_on marks id = rects_in (finmap.get marks id)

-- behind the end of a frame all begins anew
abbrev pub begun : Damage → Damage
begun before = if before.ended then undamaged else before

-- a message ends a frame
abbrev pub ends_frame : Pdu → Bool
ends_frame (EndFrame frame) = true
ends_frame other = false

-- a surface's rectangles with those that were written
abbrev pub marks_with : Marks → ℕ × List Rect → ℕ × List Rect
marks_with marks one = (one.0, with_rects (rects_on marks one.0) one.1)

-- they take the place of those that it had
abbrev pub put : Marks → Option (ℕ × List Rect) → Marks
put marks None = marks
put marks (Some one) = finmap.insert marks one.0 one.1

-- with what was written, on one surface at most
abbrev pub marked : Marks → Option (ℕ × List Rect) → Marks
marked marks drawn = put marks (option_map (marks_with marks) drawn)

-- with a message that was applied in this state
unfoldable pub noted : Damage → State → Pdu → Damage
noted before state pdu = record {
  ended = ends_frame pdu;
  whole = (begun before).whole || changes_all pdu;
  marks = marked (begun before).marks (written state pdu);
}

-- a message writes its rectangles, and no other surface's change
pub record Notes (before : Damage) (state : State) (pdu : Pdu) : Type 0 where
  pub rects : (id : ℕ) → rects_on (noted before state pdu).marks id ≡ with_rects (rects_on (begun before).marks id) (own_rects id (written state pdu))
