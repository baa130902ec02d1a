use Rattle.std.proofs.Common.{◌≡◌, ◌∙◌, ap, sym, true, false, nat_lt, refl, arith}
use Rattle.std.proofs.lemmas.Bool.Decides.{nat_tests}
use Rattle.gfx_base.proofs.MapLemmas.{len-from_entries}
use Rattle.gfx_surface_map.specs.declared.TheConstants.{MOST_SURFACES}
use Rattle.gfx_script.specs.Checks.{may_add}
use Rattle.gfx_script.specs.Inside.{held_of}
use Rattle.gfx_script.proofs.Surfaces.{few_enough, too_many}
use Rattle.gfx_script.proofs.held.Held.may_add.Goals as goal

pub returns-then-len-lt-MOST_SURFACES : goal.returns-then-len-lt-MOST_SURFACES
returns-then-len-lt-MOST_SURFACES c =
    let few : nat_lt c.len.result MOST_SURFACES ≡ true = grind (arith, nat_tests) in
    let counted = c.len.ensures.len ∙ sym (len-from_entries c.self.inside.sides.entries c.len.ensures.unique) in
    few_enough (held_of c.self.inside) c.len.result c.count_cells.result c.args.width c.args.height counted c.count_cells.ensures.cells few
    ∙ ap (λ h. may_add h c.args.width c.args.height) c.self.view_is

pub returns-else-len-lt-MOST_SURFACES : goal.returns-else-len-lt-MOST_SURFACES
returns-else-len-lt-MOST_SURFACES c =
    let many : nat_lt c.len.result MOST_SURFACES ≡ false = grind (arith, nat_tests) in
    let counted = c.len.ensures.len ∙ sym (len-from_entries c.self.inside.sides.entries c.len.ensures.unique) in
    many ∙ too_many (held_of c.self.inside) c.len.result _ c.args.width c.args.height counted refl many
    ∙ ap (λ h. may_add h c.args.width c.args.height) c.self.view_is
