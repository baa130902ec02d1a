use Rattle.std.proofs.Common.{◌≡◌, ◌∙◌, ap, sym, subst, true, ◌++◌, ◌∷◌, []}
use Rattle.gfx_bitmap_cache.specs.Slots.{entry}
use Rattle.gfx_import.specs.Entries.{IsKept, image, takes}
use Rattle.gfx_import.proofs.KeptLemmas.{listed, kept-push, listed-insert}
use Rattle.gfx_import.proofs.kept.Kept.put.Goals as goal

pub invariant_of-self-2 : goal.invariant_of-self-2
invariant_of-self-2 c =
    let es = c.self.inside.bitmaps.entries in
    let free : takes (listed es) c.args.key ≡ true = ap (λ z. takes z c.args.key) c.self.view_is ∙ c.requires.takes in
    subst IsKept (sym (listed-insert c.self.inside.bitmaps c.args.key _ c.insert.new.self.entries free c.in_ok-insert.ensures.entries))
    (kept-push (listed es) (entry c.args.key (image c.args.width c.args.height c.args.pixels)) c.self.invariant free
    record { key = c.ranges.key.fits; image = record { area = c.requires.area; few = c.requires.few; width = c.ranges.width.fits; height = c.ranges.height.fits } })

pub returns-clause-ok : goal.returns-clause-ok
returns-clause-ok c =
    let es = c.self.inside.bitmaps.entries in
    let free : takes (listed es) c.args.key ≡ true = ap (λ z. takes z c.args.key) c.self.view_is ∙ c.requires.takes in
    listed-insert c.self.inside.bitmaps c.args.key _ c.insert.new.self.entries free c.in_ok-insert.ensures.entries
    ∙ ap (λ z. z ++ entry c.args.key (image c.args.width c.args.height c.args.pixels) ∷ []) c.self.view_is

pub returns-clause-kept : goal.returns-clause-kept
returns-clause-kept c =
    let es = c.self.inside.bitmaps.entries in
    let free : takes (listed es) c.args.key ≡ true = ap (λ z. takes z c.args.key) c.self.view_is ∙ c.requires.takes in
    subst IsKept (sym (listed-insert c.self.inside.bitmaps c.args.key _ c.insert.new.self.entries free c.in_ok-insert.ensures.entries))
    (kept-push (listed es) (entry c.args.key (image c.args.width c.args.height c.args.pixels)) c.self.invariant free
    record { key = c.ranges.key.fits; image = record { area = c.requires.area; few = c.requires.few; width = c.ranges.width.fits; height = c.ranges.height.fits } })
