use Rattle.std.proofs.Common.{◌∙◌, ap, sym, subst, refl}
use Rattle.std.specs.FinMap.{get, insert}
use Rattle.std.specs.Option.{option_copied_mut, IsSome}
use Rattle.gfx_prog_decode.specs.Inside.{records_of}
use Rattle.gfx_prog_decode.proofs.Keys.{get-by, inserted}
use Rattle.gfx_prog_decode.proofs.Ties.{key_ties}
use Rattle.gfx_prog_decode.proofs.Lent.{lent_alike}
use Rattle.gfx_prog_decode.proofs.records.Records.get_mut.Goals as goal

pub returns : goal.returns
returns c =
    let value = c.get_mut.ensures.value ∙ sym (get-by _ key_ties c.self.inside.tiles.entries c.args.key) ∙ ap (λ m. get m c.args.key) c.self.view_is in (
      lent_alike c.get_mut.result _ _ _ _
          (λ x is w. inserted _ key_ties c.self.inside.tiles.entries (c.get_mut.follows.lender w).entries c.args.key w
          ((c.get_mut.follows.holds w).3 (subst IsSome (sym (sym c.get_mut.ensures.value ∙ ap option_copied_mut is)) refl)).0
          ∙ ap (λ m. insert m c.args.key w) c.self.view_is)
          (ap (λ m. records_of record { tiles = m; bench = c.self.inside.bench }) c.get_mut.follows.holds-at-none ∙ c.self.view_is),
      record { writes_back = tt; value = value },
    )
