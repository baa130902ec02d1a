use Rattle.std.proofs.Common.{◌∙◌, ap, sym, refl, Ok}
use Rattle.std.specs.Prelude.{slice_get}
use Rattle.std.proofs.lemmas.Option.{slice_get_past, slice_get_read}
use Rattle.gfx_prog_decode.proofs.Bases.{left-there, left-past}
use Rattle.gfx_prog_decode.proofs.coding.read_level.Goals as goal

pub returns-in-Some : goal.returns-in-Some
returns-in-Some c =
    left-there c.args.levels.now c.args.quality c.in-Some.level.now c.if-quality-eq-NO_QUALITY.false
    (ap (slice_get c.args.levels.now) (sym c.from.ensures) ∙ slice_get_read c.args.levels.now _ _ _ refl c.in-Some.ensures.lookup.3.0 c.in-Some.ensures.lookup.1)
    ∙ ap Ok (sym c.level_of.ensures)

pub returns-in-None : goal.returns-in-None
returns-in-None c =
    left-past c.args.levels.now c.args.quality c.if-quality-eq-NO_QUALITY.false
    (ap (slice_get c.args.levels.now) (sym c.from.ensures) ∙ slice_get_past c.args.levels.now _ c.in-None.ensures.lookup.3)
