use Rattle.std.proofs.Common.{◌∙◌, [], ◌∷◌, sym, arith}
use Rattle.std.specs.FinMap.{len}
use Rattle.std.proofs.lemmas.Bool.{eqb-true}
use Rattle.gfx_script.specs.Writes.{area}
use Rattle.gfx_prog_live.proofs.Ending.{all_ended, none_ended, nothing_met}
use Rattle.gfx_prog_live.proofs.live.LiveTiles.end_in.Goals as goal
use Rattle.gfx_prog_live.proofs.live.LiveTiles.end_in.Goals.{then-is_empty-via-then-is_empty, then-is_empty-via-else-is_empty+then-not-has_pixels}

pub returns-then-is_empty : goal.returns-then-is_empty
returns-then-is_empty c = elim c.then-is_empty.branch [
  | then-is_empty-via-then-is_empty w ↦ none_ended c.args.self.now (area c.args.id (c.args.rect ∷ [])) (eqb-true (len c.args.self.now) 0 (sym c.is_empty.ensures ∙ w.if-is_empty.true))
  | then-is_empty-via-else-is_empty+then-not-has_pixels w ↦
      nothing_met c.args.self.now c.args.id c.args.rect (sym w.has_pixels.ensures ∙ w.if-not-has_pixels.true)
]

pub returns : goal.returns
returns c =
    all_ended c.args.id c.args.rect c.met-cells.result c.cells.place c.args.self.now c.cells.self (sym c.has_pixels.ensures ∙ c.if-not-has_pixels.false)
    c.are_in_place.ensures c.met-cells.ensures (omega arith) c.cells.invariant
