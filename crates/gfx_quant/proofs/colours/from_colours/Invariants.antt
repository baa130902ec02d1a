use Rattle.std.proofs.Common.{◌≡◌, ℕ, ◌<◌, length}
use Rattle.gfx_dwt.specs.Ranges.{at}
use Rattle.gfx_quant.specs.Colour.{chroma_blue, chroma_red, luma}
use Rattle.gfx_quant.proofs.Steps.{IsSampleOf}
use Rattle.gfx_quant.proofs.colours.from_colours.Given as goal

abbrev pub invariant-loop-place : goal.invariant-loop-place
invariant-loop-place l = record {
  y_len : length l.y ≡ 4096;
  cb_len : length l.cb ≡ 4096;
  cr_len : length l.cr ≡ 4096;
  lumas : (k : ℕ) → k < l.place → IsSampleOf luma l.pixels k (at l.y k);
  blues : (k : ℕ) → k < l.place → IsSampleOf chroma_blue l.pixels k (at l.cb k);
  reds : (k : ℕ) → k < l.place → IsSampleOf chroma_red l.pixels k (at l.cr k);
}
