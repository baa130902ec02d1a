use Rattle.std.proofs.Common.{◌∙◌, ◌+◌, ◌++◌, ◌∷◌, [], refl, ap}
use Rattle.gfx_prog_encode.specs.Messages.{levels_from}
use Rattle.gfx_prog_encode.proofs.Regions.{levels-more}
use Rattle.gfx_prog_encode.proofs.region.levels_of.Goals as goal

pub levels-init : goal.levels-init
unfolding levels_from
levels-init c = (c.new-listed.ensures, refl)

pub levels-preserved : goal.levels-preserved
levels-preserved c = (
  c.in_ok-push.ensures.ok
      ∙ (λ i. c.levels.invariant.0 i ++ (record { quality = c.levels.invariant.1 i; y = c.new.result; cb = c.new-in-levels.result; cr = c.new-in-levels-2.result }) ∷ [])
      ∙ levels-more c.args.levels.now c.levels.level-index c.level-item.result c.new.result c.new-in-levels.result c.new-in-levels-2.result c.levels-test.true c.level-item.is
      c.new.ensures.bytes c.new-in-levels.ensures.bytes c.new-in-levels-2.ensures.bytes,
  ap (λ n. n + 1) c.levels.invariant.1,
)
