use Rattle.std.proofs.Common.{◌≡◌, ◌∙◌, ◌+◌, sym, Some, arith, rules}
use Rattle.std.specs.Option.{option_copied}
use Rattle.gfx_base.proofs.MapLemmas.{next_some, next_none}
use Rattle.gfx_report.specs.StateBytes.{surface_bytes, surfaces_bytes}
use Rattle.gfx_report.proofs.TookLemmas.{Owes_all, Owes_front}
use Rattle.gfx_report.proofs.StateEntries.{bytes_from-zero, entries_fewer, none_due, surface_due}
use Rattle.gfx_report.proofs.state.add_surfaces.Goals as goal

pub surfaces-init : goal.surfaces-init
unfolding surfaces_bytes
surfaces-init c = Owes_all _ _ _ (bytes_from-zero surface_bytes _)

pub unwrap-surface-requires : goal.unwrap-surface-requires
unwrap-surface-requires c =
    let next = next_some _ _ _ (sym c.in-Some.ensures.next) in
    let there : option_copied c.get.result ≡ Some next.value = c.get.ensures ∙ next.found in
    search rules

pub returns-in_default-checked_add : goal.returns-in_default-checked_add
returns-in_default-checked_add c =
    let due = surface_due _ _ _ _ _ _ _ _ c.in-Some.ensures.next c.get.ensures c.unwrap-surface.ensures c.surfaces.invariant in
    let last : c.in-Some.id + 1 ≡ 65536 = omega arith in
    none_due surface_bytes _ _ _ _ _ (rw last c.next_id.ensures.past) (Owes_front _ _ _ _ _ _ due c.add_surface.ensures)

pub surfaces-smaller : goal.surfaces-smaller
surfaces-smaller c = rw c.in-Some-checked_add.ensures.1 (entries_fewer _ _ _ (sym c.in-Some.ensures.next))

pub surfaces-preserved : goal.surfaces-preserved
surfaces-preserved c =
    let due = surface_due _ _ _ _ _ _ _ _ c.in-Some.ensures.next c.get.ensures c.unwrap-surface.ensures c.surfaces.invariant in
    rw c.in-Some-checked_add.ensures.1 (Owes_front _ _ _ _ _ _ due c.add_surface.ensures)

pub returns : goal.returns
returns c = none_due surface_bytes _ _ _ _ _ (next_none _ _ (sym c.in_default.ensures.next)) c.surfaces.invariant
