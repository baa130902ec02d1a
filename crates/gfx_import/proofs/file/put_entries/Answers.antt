use Rattle.std.proofs.Common.{sym}
use Rattle.gfx_bitmap_cache.specs.Slots.{entry, image_of}
use Rattle.gfx_import.specs.File.{entry_text}
use Rattle.gfx_import.proofs.WritingLemmas.{put_more, put_all}
use Rattle.gfx_import.proofs.file.put_entries.Goals as goal

pub entries-preserved : goal.entries-preserved
entries-preserved c =
    let one = entry c.in-Some.key (image_of c.in-Some.bitmap.now) in
    put_more entry_text c.args.kept.now c.entries.place _ _ c.entries.invariant one _ (sym c.in-Some.ensures.found) c.in_ok-put_entry.ensures

pub returns : goal.returns
returns c = put_all entry_text c.args.kept.now c.entries.place _ _ c.entries.invariant (sym c.in_default.ensures.found)
