use Rattle.std.proofs.Common.{rules, ◌≡◌, ◌+◌, ◌%◌, ◌≤◌, ◌∙◌, ap, refl, sym, length, arith}
use Rattle.gfx_surface.specs.Cells.{place}
use Rattle.gfx_surface.proofs.CellPlaces.{place_next}
use Rattle.gfx_surface.proofs.Runs.{put_more, whole_run_within}
use Rattle.gfx_surface.proofs.putting.put_runs.Goals as goal

pub copy_whole_run-requires-clause-within : goal.copy_whole_run-requires-clause-within
copy_whole_run-requires-clause-within c =
    whole_run_within c.args.grid.width c.args.grid.height c.args.x c.args.y c.runs.done (length c.args.from.now) c.runs.place c.runs.cells
    (omega (arith, c.requires.full, c.runs.auto.cells)) (c.requires.border (omega arith)) c.runs.invariant.1
    (omega (arith, c.requires.whole, c.runs.invariant.1)) c.requires.columns c.requires.row c.runs.invariant.2

pub overflow_add-place : goal.overflow_add-place
overflow_add-place c =
    let within : c.runs.place + 64 ≤ length c.runs.cells =
    whole_run_within c.args.grid.width c.args.grid.height c.args.x c.args.y c.runs.done (length c.args.from.now) c.runs.place c.runs.cells
    (omega (arith, c.requires.full, c.runs.auto.cells)) (c.requires.border (omega arith)) c.runs.invariant.1
    (omega (arith, c.requires.whole, c.runs.invariant.1)) c.requires.columns c.requires.row c.runs.invariant.2 in
    search rules

pub runs-preserved : goal.runs-preserved
runs-preserved c =
    let border : c.args.x % 64 ≡ 0 = c.requires.border (omega arith) in
    let within : c.runs.done + 64 ≤ length c.args.from.now = omega (arith, c.requires.whole, c.runs.invariant.1) in
    let column : (c.args.x + c.runs.done) % 64 ≡ 0 = omega (arith, border, c.runs.invariant.1) in
    let next = place_next c.args.grid.width (c.args.x + c.runs.done) c.args.y column in (
      within,
      omega (arith, c.runs.invariant.1),
      ap (λ n. n + 4096) c.runs.invariant.2 ∙ sym next ∙ ap (λ n. place c.args.grid.width n c.args.y) (omega arith),
      put_more c.args.grid.width c.args.grid.height c.args.x c.args.y c.runs.done 64 _ c.runs.place c.args.format c.args.from.now _ _ c.runs.cells c.copy_whole_run.new.pixels
          (omega (arith, c.requires.full, c.runs.auto.cells)) refl (omega (arith, within)) c.requires.row (omega (arith, column)) c.runs.invariant.2 within refl c.runs.invariant.3
          c.copy_whole_run.ensures,
    )
