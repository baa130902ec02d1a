use Rattle.std.proofs.Common.{◌++◌, subst, sym, arith}
use Rattle.gfx_tile_make.proofs.Differing.{AreFirst, all-in-range, all-small, are-first, low-starts}
use Rattle.gfx_rfx_video.proofs.coding.differ_low.Goals as goal

pub returns-clause-in_range : goal.returns-clause-in_range
returns-clause-in_range c =
    all-in-range _ (subst (λ l. AreFirst (c.split_at_mut-low.result.0.now ++ l)) (sym c.differ.ensures)
    (are-first c.split_at_mut-low.result.0.now c.split_at_mut-low.result.1.now c.args.values.now c.split_at_mut-low.ensures.value c.told-values
    (omega (arith, c.split_at_mut-low.ensures.front_len, c.band_start.ensures, low-starts c.args.transform)) c.requires))

pub returns-clause-small : goal.returns-clause-small
returns-clause-small c =
    all-small _ (subst (λ l. AreFirst (c.split_at_mut-low.result.0.now ++ l)) (sym c.differ.ensures)
    (are-first c.split_at_mut-low.result.0.now c.split_at_mut-low.result.1.now c.args.values.now c.split_at_mut-low.ensures.value c.told-values
    (omega (arith, c.split_at_mut-low.ensures.front_len, c.band_start.ensures, low-starts c.args.transform)) c.requires))
