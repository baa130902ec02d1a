use Rattle.std.specs.Prelude.{MatchBool}
use Rattle.gfx_tile_make.specs.Fitting.{BandFits, BandLeaves}
use Rattle.gfx_tile_make.proofs.fitting.band_fits.Given as goal

abbrev pub invariant-loop-place : goal.invariant-loop-place
invariant-loop-place l = MatchBool l.fits (BandFits l.band l.base l.level l.kept l.values l.from l.place) (BandLeaves l.band l.base l.level l.kept l.values l.from l.place)
