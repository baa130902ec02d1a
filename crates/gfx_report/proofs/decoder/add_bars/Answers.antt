use Rattle.std.proofs.Common.{arith}
use Rattle.gfx_report.proofs.Counts.{place_counted, places_counted}
use Rattle.gfx_report.proofs.DecoderBytes.{ring_next, ring_end}
use Rattle.gfx_report.proofs.decoder.add_bars.Goals as goal

pub places-preserved : goal.places-preserved
places-preserved c = record {
  owes = ring_next _ _ _ _ _ _ _ _ _ c.requires.bars.whole c.written-bars.ensures.bars_within c.places-test.true c.bar.ensures c.places.invariant.owes c.add_place.ensures.took;
  counted = place_counted (λ pixels. pixels.now) _ _ _ _ _ _ _ _ c.requires.bars.whole c.written-bars.ensures.bars_within c.places-test.true c.bar.ensures c.add_place.ensures.held c.from-held.ensures c.places.invariant.counted;
}

pub returns : goal.returns
returns c = record {
  took = ring_end _ _ _ _ _ _ c.written-bars.ensures.bars (omega arith) c.places.invariant.owes;
  held = places_counted _ _ _ _ c.written-bars.ensures.bars (omega arith) c.places.invariant.counted;
}
