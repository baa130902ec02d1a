use Rattle.std.proofs.Common.{◌∙◌, ◌++◌, ap, sym}
use Rattle.std.specs.Option.{option_map}
use Rattle.std.proofs.lemmas.Option.{slice_get-map}
use Rattle.gfx_layout.specs.Shape.{text}
use Rattle.gfx_bitmap_cache.specs.Slots.{entry, image_of}
use Rattle.gfx_caps.specs.Entries.{cache_entry}
use Rattle.gfx_import.specs.Offered.{offered_of, offers_of}
use Rattle.gfx_import.proofs.WritingLemmas.{put_more, put_all}
use Rattle.gfx_import.proofs.offer.put_offers.Goals as goal

pub entries-preserved : goal.entries-preserved
entries-preserved c =
    let one = entry c.in-Some.key (image_of c.in-Some.bitmap.now) in
    put_more (text cache_entry) (offers_of c.args.kept.now) c.entries.place _ _ c.entries.invariant (offered_of one) _
    (slice_get-map offered_of c.args.kept.now c.entries.place ∙ ap (option_map offered_of) (sym c.in-Some.ensures.found))
    (c.in_ok-put.ensures.ok ∙ ap (λ z. c.entries.out ++ text cache_entry z) c.offered_of.ensures)

pub returns : goal.returns
returns c =
    put_all (text cache_entry) (offers_of c.args.kept.now) c.entries.place _ _ c.entries.invariant
    (slice_get-map offered_of c.args.kept.now c.entries.place ∙ ap (option_map offered_of) (sym c.in_default.ensures.found))
