use Rattle.std.proofs.Common.{◌∙◌, ap, sym, subst}
use Rattle.std.specs.FinMap.{from_entries, insert}
use Rattle.gfx_prog_decode.proofs.Keys.{inserted}
use Rattle.gfx_prog_decode.proofs.Ties.{key_ties}
use Rattle.gfx_prog_live.specs.Inside.{AreInPlace}
use Rattle.gfx_prog_live.proofs.InPlace.{kept_in_place}
use Rattle.gfx_prog_live.proofs.live.LiveTiles.keep.Goals as goal

pub invariant_of-self-2 : goal.invariant_of-self-2
invariant_of-self-2 c =
    subst AreInPlace
    (sym (inserted _ key_ties c.self.inside.tiles.entries c.insert.new.self.entries c.cell_key.result c.args.send c.in_ok-insert.ensures.updates.0
    ∙ ap (λ key. insert (from_entries c.self.inside.tiles.entries) key c.args.send) c.cell_key.ensures))
    (kept_in_place c.args.id _ c.args.send c.self.invariant)

pub returns : goal.returns
returns c =
    inserted _ key_ties c.self.inside.tiles.entries c.insert.new.self.entries c.cell_key.result c.args.send c.in_ok-insert.ensures.updates.0
    ∙ ap (λ m. insert m c.cell_key.result c.args.send) c.self.view_is
    ∙ ap (λ key. insert c.args.self.now key c.args.send) c.cell_key.ensures
