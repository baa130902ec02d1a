use Rattle.std.proofs.Common.{◌∙◌, ap, sym, subst, refl}
use Rattle.std.specs.FinMap.{get, insert}
use Rattle.std.specs.Option.{option_copied_mut, IsSome}
use Rattle.gfx_surface_map.specs.Inside.{surfaces_of, HasIds}
use Rattle.gfx_base.proofs.MapLemmas.{get-entries_lookup, updated_map}
use Rattle.gfx_surface_map.proofs.Entries.{lent_alike, ids_of_keys}
use Rattle.gfx_surface_map.proofs.table.Table.get_mut.Goals as goal

pub returns : goal.returns
returns c =
    let value = c.get_mut.ensures.value ∙ sym (get-entries_lookup c.self.inside.surfaces.entries c.args.id) ∙ ap (λ m. get m c.args.id) c.self.view_is in (
      lent_alike c.get_mut.result _ _ _ _
          (λ x is w. updated_map c.self.inside.surfaces.entries (c.get_mut.follows.lender w).entries c.args.id w
          ((c.get_mut.follows.holds w).3 (subst IsSome (sym (sym c.get_mut.ensures.value ∙ ap option_copied_mut is)) refl)).0
          ∙ ap (λ m. insert m c.args.id w) c.self.view_is)
          (ap (λ m. surfaces_of record { surfaces = m }) c.get_mut.follows.holds-at-none ∙ c.self.view_is),
      record { writes_back = tt; value = value },
    )

pub invariant_of-self-lent : goal.invariant_of-self-lent
invariant_of-self-lent c _ = (
  λ w. ids_of_keys c.self.inside.surfaces.entries (c.get_mut.follows.lender w).entries (c.get_mut.follows.holds w).1 c.self.invariant,
  subst HasIds (ap (λ m. record { surfaces = m }) (sym c.get_mut.follows.holds-at-none)) c.self.invariant,
)
