use Rattle.std.proofs.Common.{◌<◌, ◌∙◌, length, arith, length-set}
use Rattle.std.proofs.lemmas.Option.{slice_get_within}
use Rattle.gfx_quant.specs.Colour.{chroma_blue, chroma_red, luma}
use Rattle.gfx_quant.proofs.Steps.{IsSampleOf, sample_here, written}
use Rattle.gfx_quant.proofs.colours.from_colours.Goals as goal

pub loop-place-preserved : goal.loop-place-preserved
loop-place-preserved c =
    let k = c.loop-place.place in
    let before = c.loop-place.invariant in
    let pixels = c.args.pixels.now in
    record {
      y_len = length-set _ _ _ ∙ before.y_len;
      cb_len = length-set _ _ _ ∙ before.cb_len;
      cr_len = length-set _ _ _ ∙ before.cr_len;
      lumas = written (IsSampleOf luma pixels) c.loop-place.y k _ (omega (arith, before.y_len)) (sample_here luma pixels k _ _ c.luma_of.ensures.value c.luma_of.ensures.small) before.lumas;
      blues = written (IsSampleOf chroma_blue pixels) c.loop-place.cb k _ (omega (arith, before.cb_len)) (sample_here chroma_blue pixels k _ _ c.chroma_blue_of.ensures.value c.chroma_blue_of.ensures.small) before.blues;
      reds = written (IsSampleOf chroma_red pixels) c.loop-place.cr k _ (omega (arith, before.cr_len)) (sample_here chroma_red pixels k _ _ c.chroma_red_of.ensures.value c.chroma_red_of.ensures.small) before.reds;
    }

pub returns-clause-luma : goal.returns-clause-luma
returns-clause-luma c = λ k p e.
    let inside : k < length c.args.pixels.now = slice_get_within c.args.pixels.now k p e in
    (c.loop-place.invariant.lumas k (omega arith)).value p e

pub returns-clause-blue : goal.returns-clause-blue
returns-clause-blue c = λ k p e.
    let inside : k < length c.args.pixels.now = slice_get_within c.args.pixels.now k p e in
    (c.loop-place.invariant.blues k (omega arith)).value p e

pub returns-clause-red : goal.returns-clause-red
returns-clause-red c = λ k p e.
    let inside : k < length c.args.pixels.now = slice_get_within c.args.pixels.now k p e in
    (c.loop-place.invariant.reds k (omega arith)).value p e

pub returns-clause-y : goal.returns-clause-y
returns-clause-y c = λ k h. (c.loop-place.invariant.lumas k (omega (arith, c.loop-place.invariant.y_len))).small

pub returns-clause-cb : goal.returns-clause-cb
returns-clause-cb c = λ k h. (c.loop-place.invariant.blues k (omega (arith, c.loop-place.invariant.cb_len))).small

pub returns-clause-cr : goal.returns-clause-cr
returns-clause-cr c = λ k h. (c.loop-place.invariant.reds k (omega (arith, c.loop-place.invariant.cr_len))).small
