use Rattle.std.proofs.Common.{◌++◌, subst, sym, arith}
use Rattle.gfx_tile_make.proofs.Differing.{AreFirst, all-in-range, all-small, are-first, low-starts}
use Rattle.gfx_tile_make.proofs.source.SourceTile.first_values.Goals as goal

first : (c : goal.After-out-2-1) → AreFirst (c.split_at_mut-low.result.0.now ++ c.differ.new.values)
first c =
    subst (λ l. AreFirst (c.split_at_mut-low.result.0.now ++ l)) (sym c.differ.ensures)
    (are-first c.split_at_mut-low.result.0.now c.split_at_mut-low.result.1.now c.level_values.new.out c.split_at_mut-low.ensures.value c.level_values.array_long
    (omega (arith, c.split_at_mut-low.ensures.front_len, c.band_start.ensures, low-starts c.self.inside.setting.transform)) c.level_values.ensures.small)

pub returns-clause-in_range : goal.returns-clause-in_range
returns-clause-in_range c = all-in-range _ (first c)

pub returns-clause-small : goal.returns-clause-small
returns-clause-small c = all-small _ (first c)
