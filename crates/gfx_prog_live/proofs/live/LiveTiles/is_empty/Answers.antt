use Rattle.std.proofs.Common.{◌∙◌, ap, sym}
use Rattle.std.specs.Prelude.{◌==◌}
use Rattle.std.specs.FinMap.{len}
use Rattle.gfx_prog_decode.proofs.Keys.{len-from}
use Rattle.gfx_prog_decode.proofs.Ties.{key_ties}
use Rattle.gfx_prog_live.proofs.live.LiveTiles.is_empty.Goals as goal

pub returns : goal.returns
returns c =
    ap (λ n. n == 0)
    (c.len.ensures.len ∙ sym (len-from _ key_ties c.self.inside.tiles.entries c.len.ensures.unique)
    ∙ ap (λ m. len m) c.self.view_is)
