-- The lines of the rows from one on.
use Rattle.std.proofs.Common.{◌≡◌, ℕ, ◌+◌, ◌-◌, ◌<◌, suc, List, ◌++◌, ap, sym, ◌∙◌, arith}
use Rattle.std.specs.List.{flat_map, range_with_len}
use Rattle.gfx_base.specs.declared.pixel.Pixel.{Pixel}
use Rattle.gfx_report.specs.Texts.{row_line, rows_text}

-- so many lines from row y on
abbrev pub lines : (ℕ → List Pixel) → ℕ → ℕ → List ℕ
lines row y count = flat_map (λ k. row_line (row k)) (range_with_len y count)

pub rows_text-lines : (row : ℕ → List Pixel) (height : ℕ) → rows_text row height ≡ lines row 0 (height - 0)
unfolding rows_text
rows_text-lines row height =
    let all : height ≡ height - 0 = omega arith in
    ap (λ n. lines row 0 n) all

-- the lines up to the last are row y's, and those after it
pub lines_next : (row : ℕ → List Pixel) (y height : ℕ) (pixels : List Pixel) → y < height → pixels ≡ row y → lines row y (height - y) ≡ row_line pixels ++ lines row (y + 1) (height - (y + 1))
lines_next row y height pixels below e =
    let one_more : height - y ≡ suc (height - (y + 1)) = omega arith in
    ap (λ n. lines row y n) one_more ∙ ap (λ w. row_line w ++ lines row (y + 1) (height - (y + 1))) (sym e)
