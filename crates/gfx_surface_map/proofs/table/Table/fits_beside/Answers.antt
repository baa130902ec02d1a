use Rattle.std.proofs.Common.{◌≡◌, ◌∙◌, ap, sym, true, false, nat_lt, nat_le, ◌+◌, ◌&&◌, arith}
use Rattle.std.proofs.lemmas.Bool.Decides.{nat_tests}
use Rattle.gfx_surface_map.specs.Surfaces.{fits_beside, cells, cells_of_picture}
use Rattle.std.specs.List.{sum_by}
use Rattle.std.specs.Map.{values_of}
use Rattle.gfx_surface_map.proofs.Entries.{fits_beside-from_entries}
use Rattle.gfx_surface_map.proofs.table.Table.fits_beside.Goals as goal

pub returns-then-len-lt-MOST_SURFACES : goal.returns-then-len-lt-MOST_SURFACES
returns-then-len-lt-MOST_SURFACES c =
    let few : nat_lt c.len.result 1024 ≡ true = grind (arith, nat_tests) in
    sym (ap (λ b. b && nat_le (c.total_cells.result + c.count_cells.result) 16384) few)
    ∙ (λ i. nat_lt (c.len.ensures.len i) 1024 && nat_le (c.total_cells.ensures.total i + c.count_cells.ensures.cells i) 16384)
    ∙ sym (fits_beside-from_entries c.self.inside.surfaces.entries c.args.width c.args.height c.len.ensures.unique)
    ∙ ap (λ m. fits_beside m c.args.width c.args.height) c.self.view_is

pub returns-else-len-lt-MOST_SURFACES : goal.returns-else-len-lt-MOST_SURFACES
returns-else-len-lt-MOST_SURFACES c =
    let many : nat_lt c.len.result 1024 ≡ false = grind (arith, nat_tests) in
    let fit = nat_le (sum_by cells_of_picture (values_of c.self.inside.surfaces.entries) + cells c.args.width c.args.height) 16384 in
    many ∙ sym (ap (λ b. b && fit) many) ∙ ap (λ n. nat_lt n 1024 && fit) c.len.ensures.len
    ∙ sym (fits_beside-from_entries c.self.inside.surfaces.entries c.args.width c.args.height c.len.ensures.unique)
    ∙ ap (λ m. fits_beside m c.args.width c.args.height) c.self.view_is
