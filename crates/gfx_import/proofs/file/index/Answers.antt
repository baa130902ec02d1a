use Rattle.std.proofs.Common.{◌≡◌, ◌∙◌, ap, sym, length, arith}
use Rattle.gfx_bitmap_cache.specs.Slots.{Entry}
use Rattle.gfx_import.specs.Entries.{takes}
use Rattle.gfx_import.proofs.IndexLemmas.{index_stop, index_end}
use Rattle.gfx_import.proofs.file.index.Goals as goal

pub returns-then-not-branch : goal.returns-then-not-branch
returns-then-not-branch c =
    let all : c.into_iter-one-iterator.result.rest.items ≡ c.args.entries.items = c.into_iter-one-iterator.ensures.into_iter_gives.0 in
    let key_is : c.into_parts-key.result.0 ≡ c.in-Some.one.key = ap (λ (z : Entry). z.key) c.into_parts-key.ensures.same in
    index_stop c.args.entries.items c.entries.kept c.entries.one-iterator.rest.items _ c.in-Some.one c.in-Some.ensures.steps.0 (c.entries.invariant.so_far ∙ all) c.requires
    (ap (takes c.entries.kept) (sym key_is) ∙ sym c.in_ok-add.ensures.added ∙ c.if-not-branch.true)

pub returns : goal.returns
returns c =
    let all : c.into_iter-one-iterator.result.rest.items ≡ c.args.entries.items = c.into_iter-one-iterator.ensures.into_iter_gives.0 in
    let none : length c.entries.one-iterator.rest.items ≡ 0 = omega (arith, c.in-None.ensures.steps.0) in
    index_end c.args.entries.items c.entries.kept c.entries.one-iterator.rest.items none (c.entries.invariant.so_far ∙ all) c.entries.invariant.held
