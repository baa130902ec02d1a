-- What is known of a tile that was sent.
use Rattle.std.proofs.Common.{◌≡◌, ◌+◌, ◌*◌, ◌<◌, ◌≤◌, ℕ, true, max, min, arith}
use Rattle.std.proofs.lemmas.Bool.Decides.{nat_tests}
use Rattle.gfx_base.specs.declared.geometry.Cell.{Cell}
use Rattle.gfx_base.specs.declared.geometry.Rect.{Rect}
use Rattle.gfx_base.specs.declared.geometry.TheConstants.{CELL_SIDE}
use Rattle.gfx_base.specs.Cells.{cut_to_cell, has_pixels}
use Rattle.gfx_base.specs.Geometry.{IsRect, lies_in}
use Rattle.gfx_quant.specs.declared.setting.Setting.{Setting}
use Rattle.gfx_surface.specs.declared.TheConstants.{MOST_SIDE}
use Rattle.gfx_prog_decode.specs.Coding.{begins_in}
use Rattle.gfx_prog_encode.specs.declared.send.TileSend.{TileSend}
use Rattle.gfx_prog_law.specs.Accepted.{IsSend}
use Rattle.gfx_prog_law.specs.Taken.{WasSent}
use Rattle.gfx_prog_law.proofs.Apart.{Met}

-- where a cell begins on a surface
pub begins-column : (width height x y : ℕ) → begins_in width height x y ≡ true → CELL_SIDE * x < width
begins-column width height x y begins = grind (arith, nat_tests)

pub begins-row : (width height x y : ℕ) → begins_in width height x y ≡ true → CELL_SIDE * y < height
begins-row width height x y begins = grind (arith, nat_tests)

pub is-send : (setting : Setting) (width height : ℕ) → width ≤ MOST_SIDE → height ≤ MOST_SIDE → (send : TileSend) → WasSent setting width height send → IsSend setting send
is-send setting width height wide high send was = record {
  may = was.may;
  coded = was.coded;
  x = omega (arith, begins-column width height send.cell.x send.cell.y was.begins, wide);
  y = omega (arith, begins-row width height send.cell.x send.cell.y was.begins, high);
  rect = was.rect;
}

-- ---- the part of a rectangle in a cell that it meets

module _ (rect : Rect) (c : Cell) (met : Met rect c) where
  pub cut-rect : IsRect rect → IsRect (cut_to_cell rect c)
  cut-rect is = record {
    left = omega (arith, met.right, is.left, is.right);
    top = omega (arith, met.bottom, is.top, is.bottom);
    right = omega (arith, is.right);
    bottom = omega (arith, is.bottom);
  }

  pub cut-begins : (width height : ℕ) → lies_in width height rect ≡ true → begins_in width height c.x c.y ≡ true
  cut-begins width height inside = by met.right met.bottom
    where
      by : CELL_SIDE * c.x < rect.right → CELL_SIDE * c.y < rect.bottom → begins_in width height c.x c.y ≡ true
      by left top = grind (arith, nat_tests)

  pub cut-some : has_pixels rect ≡ true → has_pixels (cut_to_cell rect c) ≡ true
  cut-some some = by met.left met.right met.top met.bottom
    where
      by : rect.left < CELL_SIDE * c.x + CELL_SIDE → CELL_SIDE * c.x < rect.right → rect.top < CELL_SIDE * c.y + CELL_SIDE → CELL_SIDE * c.y < rect.bottom
          → has_pixels (cut_to_cell rect c) ≡ true
      by left right top bottom = grind (arith, nat_tests)

  pub cut-inside : (width height : ℕ) → has_pixels rect ≡ true → lies_in width height rect ≡ true → lies_in width height (cut_to_cell rect c) ≡ true
  cut-inside width height some inside = by (cut-some some)
    where
      by : has_pixels (cut_to_cell rect c) ≡ true → lies_in width height (cut_to_cell rect c) ≡ true
      by more = grind (arith, nat_tests)

-- it is cut no further
pub cut-again : (rect : Rect) (c : Cell) → cut_to_cell (cut_to_cell rect c) c ≡ cut_to_cell rect c
cut-again rect c =
    let left : max (max rect.left (CELL_SIDE * c.x)) (CELL_SIDE * c.x) ≡ max rect.left (CELL_SIDE * c.x) = omega arith in
    let top : max (max rect.top (CELL_SIDE * c.y)) (CELL_SIDE * c.y) ≡ max rect.top (CELL_SIDE * c.y) = omega arith in
    let right : min (min rect.right (CELL_SIDE * c.x + CELL_SIDE)) (CELL_SIDE * c.x + CELL_SIDE) ≡ min rect.right (CELL_SIDE * c.x + CELL_SIDE) = omega arith in
    let bottom : min (min rect.bottom (CELL_SIDE * c.y + CELL_SIDE)) (CELL_SIDE * c.y + CELL_SIDE) ≡ min rect.bottom (CELL_SIDE * c.y + CELL_SIDE) = omega arith in
    λ i. record { left = left i; top = top i; right = right i; bottom = bottom i }
