use Rattle.std.proofs.Common.{◌∙◌, ap, sym}
use Rattle.std.specs.Prelude.{slice_get}
use Rattle.std.specs.Option.{option_map}
use Rattle.std.proofs.lemmas.Option.{slice_get-map}
use Rattle.gfx_import.specs.Inside.{pair_of}
use Rattle.gfx_import.proofs.KeptLemmas.{at-few}
use Rattle.gfx_import.proofs.kept.Kept.at.Goals as goal

pub returns-in-Some-clause-few : goal.returns-in-Some-clause-few
returns-in-Some-clause-few c =
    at-few c.self.inside.bitmaps.entries c.args.place c.in-Some.key.now c.in-Some.bitmap.now c.self.invariant (sym c.in-Some.ensures.entry)

pub returns-in-None-clause-found : goal.returns-in-None-clause-found
returns-in-None-clause-found c =
    ap (option_map pair_of) c.in-None.ensures.entry
    ∙ sym (slice_get-map pair_of c.self.inside.bitmaps.entries c.args.place) ∙ ap (λ z. slice_get z c.args.place) c.self.view_is
