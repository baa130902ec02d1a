use Rattle.std.proofs.Common.{◌≡◌, ◌∙◌, length, to_z, of_z, w16, lit<, arith}
use Rattle.gfx_dwt.specs.declared.layout.Transform.TheVariants.{Plain}
use Rattle.gfx_dwt.specs.Lifting.{even_of}
use Rattle.gfx_dwt.specs.Ranges.{at}
use Rattle.gfx_dwt.proofs.Bounds.{bits_of_short, bits_of_narrow}
use Rattle.gfx_dwt.proofs.Pairs.{put_next}
use Rattle.gfx_dwt.proofs.Spans.{no_span, spans_all, spans_put}
use Rattle.gfx_dwt.proofs.narrow.flat.evens_of.Goals as goal

pub loop-k-init : goal.loop-k-init
loop-k-init c = record { each = λ j h. absurd (omega arith); span = no_span c.args.out.now }

pub loop-k-preserved : goal.loop-k-preserved
loop-k-preserved c =
    let k = c.loop-k.k in
    let low = at c.args.low.now in
    let before = at c.args.before.now in
    let here = at c.args.here.now in
    let e1 = bits_of_narrow 16382 _ (lit< tt) (c.requires.low k (omega arith)) in
    let e2 = bits_of_narrow 8191 _ (lit< tt) (c.requires.before k (omega arith)) in
    let e3 = bits_of_narrow 8191 _ (lit< tt) (c.requires.here k (omega arith)) in
    let value : c.even_sample-even.result ≡ even_of Plain (low k) (before k) (here k) = cc (c.even_sample-even.ensures.value, e1, e2, e3) in
    let even : to_z w16 (of_z w16 c.even_sample-even.result) ≡ c.even_sample-even.result = bits_of_short _ c.even_sample-even.type_inv in
    let one = c.lower-lowest.ensures in
    let two = c.higher-highest.ensures in
    record {
      each = put_next _ _ k _ (omega arith) (even ∙ value) c.loop-k.invariant.each;
      span = rw (bits_of_short c.lower-lowest.result c.lower-lowest.type_inv, bits_of_short c.higher-highest.result c.higher-highest.type_inv)
          (spans_put _ k _ _ _ _ _ (omega arith) one.one one.other one.kept two.one two.other two.kept c.loop-k.invariant.span);
    }

pub returns-clause-within : goal.returns-clause-within
returns-clause-within c =
    let end : c.loop-k.k ≡ length c.loop-k.out = omega arith in
    rw c.greatest_of.ensures (spans_all c.loop-k.out _ _ (rw end at c.loop-k.invariant.span))
