use Rattle.std.specs.Prelude.{MatchBool}
use Rattle.gfx_tile_make.specs.Planes.{less}
use Rattle.gfx_tile_make.specs.Fitting.{LevelsFit, LevelsLeave}
use Rattle.gfx_tile_make.proofs.fitting.levels_fit.Given as goal

abbrev pub invariant-loop-index : goal.invariant-loop-index
invariant-loop-index l =
    MatchBool l.fits (LevelsFit l.component l.transform l.base l.levels l.kept (less l.own l.kept) l.index) (LevelsLeave l.component l.transform l.base l.levels l.kept (less l.own l.kept) l.index)
