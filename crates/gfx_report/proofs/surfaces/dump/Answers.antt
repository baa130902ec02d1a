use Rattle.std.proofs.Common.{◌≡◌, ◌∙◌, ◌+◌, sym, Some, arith, rules}
use Rattle.std.specs.Option.{option_copied}
use Rattle.gfx_base.proofs.MapLemmas.{next_some, next_none}
use Rattle.gfx_report.proofs.Entries.{dump_text-from_on, next_due, next_fewer, no_more}
use Rattle.gfx_report.proofs.Writing.{Sent_nothing, Sent_front, Sent_broken, Writes_failed}
use Rattle.gfx_report.proofs.surfaces.dump.Goals as goal

pub surfaces-init : goal.surfaces-init
surfaces-init g c = Sent_nothing _ _ _ _ (dump_text-from_on _)

pub unwrap-surface-requires : goal.unwrap-surface-requires
unwrap-surface-requires g c =
    let next = next_some _ _ _ (sym c.in-Some.ensures.next) in
    let there : option_copied c.get.result ≡ Some next.value = c.get.ensures ∙ next.found in
    search rules

pub returns-in_err-write_surface : goal.returns-in_err-write_surface
returns-in_err-write_surface g c =
    let due = next_due _ _ _ _ _ _ _ c.in-Some.ensures.next c.get.ensures c.unwrap-surface.ensures c.surfaces.invariant in
    Writes_failed c.from_residual.result _ _ c.from_residual.ensures.0
    (Sent_broken _ _ _ _ _ _ _ _ _ due c.in_err-write_surface.ensures)

pub returns-in_default-checked_add : goal.returns-in_default-checked_add
returns-in_default-checked_add g c =
    let due = next_due _ _ _ _ _ _ _ c.in-Some.ensures.next c.get.ensures c.unwrap-surface.ensures c.surfaces.invariant in
    let last : c.in-Some.id + 1 ≡ 65536 = omega arith in
    no_more _ _ _ (rw last c.next_id.ensures.past) (Sent_front _ _ _ _ _ _ _ _ _ due c.in_ok-write_surface.ensures)

pub surfaces-smaller : goal.surfaces-smaller
surfaces-smaller g c = rw c.in-Some-checked_add.ensures.1 (next_fewer _ _ _ c.in-Some.ensures.next)

pub surfaces-preserved : goal.surfaces-preserved
surfaces-preserved g c =
    let due = next_due _ _ _ _ _ _ _ c.in-Some.ensures.next c.get.ensures c.unwrap-surface.ensures c.surfaces.invariant in
    rw c.in-Some-checked_add.ensures.1 (Sent_front _ _ _ _ _ _ _ _ _ due c.in_ok-write_surface.ensures)

pub returns : goal.returns
returns g c = no_more _ _ _ (next_none _ _ (sym c.in_default.ensures.next)) c.surfaces.invariant
